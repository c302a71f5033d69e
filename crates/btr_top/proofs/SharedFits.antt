-- A run of a script with shared buffers whose store has room for each history that serves the script: no reply says that the device was full,
-- and no line of the last round.
use Rattle.std.specs.Prelude.{◌≡◌, ℕ, ◌+◌, ◌<◌, ◌≤◌, ◌==◌, Bool, true, false, List, [], ◌∷◌, ◌++◌, length, drop, cond, slice_index_or, Option, Some, None}
use Rattle.std.specs.List.{AllByRecursion}
use Rattle.std.specs.Option.{is_some}
use Rattle.std.proofs.Common.{suc, refl, sym, ap, ◌∙◌, subst, arith, inl, inr, length-append}
use Rattle.std.proofs.lemmas.Bool.{cases_lt, lt-ltb, ltb-true}
use Rattle.btr_hist.specs.declared.entry.Entry.{Entry}
use Rattle.btr_hist.specs.History.{ids, stream_of}
use Rattle.btr_hist.specs.Legal.{Follows}
use Rattle.btr_gate.specs.Numbers.{one, total, times, given}
use Rattle.btr_gate.specs.Prefixes.{StartsWith}
use Rattle.btr_gate.proofs.NumberLemmas.{given_inside}
use Rattle.btr_gate.proofs.PrefixLemmas.{starts_refl}
use Rattle.btr_jobs.specs.States.{StoreState, LogState, GoesOn}
use Rattle.btr_jobs.specs.TurnLaws.{committed_lasts}
use Rattle.btr_text.specs.declared.script.ScriptLine.{ScriptLine}
use Rattle.btr_text.specs.declared.reply.LineReply.{LineReply}
use Rattle.btr_work.specs.Laws.{AreAllSince}
use Rattle.btr_hall.specs.declared.group_item.GroupItem.{GroupItem}
use Rattle.btr_hall.specs.declared.group_item.GroupItem.TheVariants.{Offer}
use Rattle.btr_hall.specs.GroupBook.{SettledValue, open_points, book}
use Rattle.btr_hall.specs.GroupCalls.{GroupView, no_items}
use Rattle.btr_group.specs.Serves.{entry_of_batch, commit_result}
use Rattle.btr_live.specs.declared.live.LiveReport.{LiveReport}
use Rattle.btr_live.specs.OneHistory.{of_lane, lanes_of, lane_lines}
use Rattle.btr_live.specs.SharedLines.{Views}
use Rattle.btr_live.specs.SharedLanes.{begun_shared, RunsSharedLane}
use Rattle.btr_live.specs.SharedLaws.{shared_lane_lasts}
use Rattle.btr_store.specs.Completes.{IsBenign}
use Rattle.btr_store.specs.Replies.{status_of_replies}
use Rattle.btr_store.specs.Shared.{RunsBatches, RunsInBuffers, has_buffer, views_of}
use Rattle.btr_top.specs.declared.live.FeedKind.TheVariants.{Shared}
use Rattle.btr_top.specs.Room.{Purpose, has_line, has_landing, Service, HasRoomForHistories, rounds_of}
use Rattle.btr_top.proofs.ServiceLemmas.{counted, lines_had, landings_had, Served}
use Rattle.btr_top.proofs.PlaceLemmas.{sum_to, sum_least, sum_more, sum_none, sum_same, sum_lists, places_of, at_places}
use Rattle.btr_top.proofs.WaitingPlaces.{waits_none}
use Rattle.btr_top.proofs.LaneServes.{AreBenign}
use Rattle.btr_top.proofs.RoundServes.{RoundServes}
use Rattle.btr_top.proofs.HistoriesFit.{replies_benign, all_of, all_sum, all_here, LaneAdds, BatchesAdd, in_lane, in_batch, last_calm}
use Rattle.btr_top.proofs.RunFits.{LastCalm, last_serves, BesideServe, beside_serves}
use Rattle.btr_top.proofs.Gifts.{sum_grows, Gift, gifts_of, gifts_to, numbers_sum, streams_sum, all_gifts, gifts_sum, gifts_there, more_gifts, has_one, all_index, past_end, stream_of-shorter}
use Rattle.btr_top.proofs.BookPlaces.{GiftsAre, list_places}
use Rattle.btr_top.proofs.BatchServes.{AreCalmBatches, FindsFull, NoLanding, batches_serve}
use Rattle.btr_top.proofs.SharedLaneServes.{LinesGive, lines_give}

-- What batches added is true for ever.
batches_last : (start : StoreState) (late early : LogState) (stream : ℕ) (low : List Entry) (bs : List SettledValue) (own : List ℕ) → GoesOn start late early → RunsBatches start early stream low bs own → RunsBatches start late stream low bs own
batches_last start late early stream low [] own on is = is
batches_last start late early stream low (b ∷ bs) own on is =
    (is.0, is.1, is.2, is.3, committed_lasts start late early low (entry_of_batch stream b.batch) (commit_result b.outcome) is.0 is.2 on is.4, batches_last start late early stream is.2 bs is.1 on is.5)

none_there : {A : Type 0} (l : List A) → length l ≡ 0 → l ≡ []
none_there [] none = refl
none_there (x ∷ l) none = absurd (omega (arith, none))

most_one : (b : Bool) → one b ≤ 1
most_one true = omega arith
most_one false = omega arith

module _ (threshold : ℕ) (script : List ScriptLine) (start : StoreState) (log : LogState) (running : start.stopped ≡ false) (sound : log.failed ≡ None) (follows : Follows log.history) (begins : StartsWith log.history start.history) where
  abbrev low : List Entry
  low = start.history

  module _ (materialize : Bool) (report : LiveReport) (own : List ℕ) (ran : RunsInBuffers threshold materialize start log low script report own) (each_once : AreAllSince low log own) (room : HasRoomForHistories (Shared threshold) (rounds_of materialize script) start script) where
    abbrev rounds : ℕ
    rounds = rounds_of materialize script

    abbrev all : List LineReply
    all = report.replies.items

    abbrev has : ℕ → Bool
    has = has_buffer low

    -- The number of streams that have a buffer, and of lanes that saw it.
    abbrev streams : ℕ
    streams = length (ids low)

    abbrev lanes_seen : ℕ
    lanes_seen = length ran.afters

    is_stream : (stream : ℕ) → has stream ≡ true → stream < streams
    is_stream stream there = ltb-true stream streams there

    found : (a : List Entry) (id stream : ℕ) → StartsWith a low → has stream ≡ true → stream_of a id ≡ Some stream → stream_of low id ≡ Some stream
    found a id stream starts there is = stream_of-shorter a low id stream starts (is_stream stream there) is

    -- ---- lanes

    lane_ran : (k : ℕ) → RunsSharedLane has threshold (views_of ran.befores k) (views_of ran.afters k) start log low (lane_lines k script) (of_lane k (lanes_of script) all) (slice_index_or ran.mine k [])
    lane_ran k =
        shared_lane_lasts has threshold start log ran.middle ran.goes_on (views_of ran.befores k) (views_of ran.afters k) low (lane_lines k script) (of_lane k (lanes_of script) all) (slice_index_or ran.mine k []) (ran.lanes.lanes k)

    seen : (k stream : ℕ) → has stream ≡ true → StartsWith (ran.lists stream) ((lane_ran k).0.views stream).seen
    seen k stream there =
        subst (λ (v : Views). StartsWith (ran.lists stream) (v stream).seen) (sym (lane_ran k).2)
        (all_index (λ (v : Views). StartsWith (ran.lists stream) (v stream).seen) ran.afters (λ s. no_items) (ran.lists stream, refl) (ran.buffers stream (is_stream stream there)).seen k)

    lane : (k : ℕ) → LinesGive threshold rounds script start log running sound follows low has ran.lists found (begun_shared low (views_of ran.befores k)) [] (places_of k script) (of_lane k (lanes_of script) all) (slice_index_or ran.mine k []) (lane_ran k).0
    lane k =
        lines_give threshold rounds script start log running sound follows low has ran.lists found k (begun_shared low (views_of ran.befores k)) [] (places_of k script) (lane_lines k script) (of_lane k (lanes_of script) all) (slice_index_or ran.mine k []) (lane_ran k).0
        (starts_refl low) (at_places script k) (waits_none script low k) (seen k) (lane_ran k).1

    abbrev lane_adds : (k : ℕ) → LaneAdds (Shared threshold) rounds script start log running sound follows begins k (slice_index_or ran.mine k [])
    lane_adds k = record {
      services = (lane k).services;
      spare = λ place. gifts_of place (lane k).gifts;
      numbers = (lane k).numbers;
      are = (lane k).are;
      lines = λ place. let l = (lane k).lines place in omega (arith, l);
      landings = (lane k).landings;
    }

    -- What all lanes gave to buffers.
    abbrev gifts : List Gift
    gifts = all_gifts (λ j. (lane j).gifts) lanes_seen

    -- ---- buffers

    -- Each offer of a buffer's list is one of these gifts.
    gifts_are : (stream : ℕ) → stream < streams → GiftsAre script low stream gifts (ran.lists stream)
    gifts_are stream there before filled leads rest same =
        let n : ℕ = length before + 1 in
        let ends = ran.buffers stream there in
        let once = ends.once n in
        let whole : length (ran.lists stream) ≡ length (before ++ Offer filled leads ∷ rest) = ap (λ (l : List GroupItem). length l) same in
        let long = length-append before (Offer filled leads ∷ rest) in
        let inside : given 0 (length (ran.lists stream)) n ≡ 1 = given_inside 0 (length (ran.lists stream)) n (omega arith) (omega (arith, whole, long)) in
        let of = has_one (λ (v : Views). times n (v stream).own) ran.afters (λ s. no_items) (omega (arith, once, inside)) in
        let j : ℕ = of.index in
        let some : 1 ≤ times n ((lane_ran j).0.views stream).own = subst (λ (v : Views). 1 ≤ times n (v stream).own) (sym (lane_ran j).2) of.there in
        elim ((lane j).known stream (lt-ltb stream streams there) n some) [
          | inl was ↦
              let fresh : views_of ran.befores j stream ≡ no_items = all_index (λ (v : Views). (s : ℕ) → v s ≡ no_items) ran.befores (λ s. no_items) (λ s. refl) ran.fresh j stream in
              let none : times n (views_of ran.befores j stream).own ≡ 0 = ap (λ (v : GroupView). times n v.own) fresh in
              absurd (omega (arith, was, none))
          | inr known ↦
              more_gifts script low stream (lane j).gifts gifts (suc (length before)) (drop (length (open_points (book before))) filled.value.points)
              (λ k. gifts_there (λ (g : Gift). cond (g.number == suc (length before)) (cond (g.stream == stream) (one (g.place == k)) 0) 0) (λ i. (lane i).gifts) j lanes_seen of.inside)
              (known before filled leads rest same refl)
        ]

    abbrev Full : List Entry → Entry → Purpose → Type 0
    Full p e purpose = FindsFull threshold rounds script start log running sound follows low p e purpose

    abbrev Lands : Purpose → Type 0
    Lands purpose = NoLanding threshold rounds script start log running sound follows low purpose

    -- What the batches of one buffer did.
    record StreamServes (stream : ℕ) (mine : List ℕ) : Type 0 where
      services : List Service
      numbers : (n : ℕ) → counted n services ≡ times n mine
      are : AllByRecursion (Served (Shared threshold) rounds script low log.history) services
      lines : (k : ℕ) → lines_had k services ≤ gifts_to stream k gifts
      landings : (round output : ℕ) → landings_had round output services ≡ 0
      calm : ((p : List Entry) (e : Entry) (purpose : Purpose) → Full p e purpose → Lands purpose → ((k : ℕ) → has_line k purpose + lines_had k services ≤ gifts_to stream k gifts) → ⊥)
          → stream < streams → AreCalmBatches (book (ran.lists stream)).settled

    buffer_serves : (stream : ℕ) → stream < streams → StreamServes stream (slice_index_or ran.batches stream [])
    buffer_serves stream there =
        let mine : List ℕ = slice_index_or ran.batches stream [] in
        let bs : List SettledValue = (book (ran.lists stream)).settled in
        let places = list_places script low stream gifts (ran.lists stream) (gifts_are stream there) in
        let did = batches_serve threshold rounds script start log running sound follows low stream low places.done bs mine (starts_refl low) places.are_done
        (batches_last start log ran.middle stream low bs mine ran.goes_on (ran.buffers stream there).batches) in
        record {
          services = did.services;
          numbers = did.numbers;
          are = did.are;
          lines = λ k.
              let here = did.lines k in
              let few = places.few k in
              let sum = numbers_sum stream k gifts (suc (length (ran.lists stream))) in
              omega (arith, here, few, sum);
          landings = did.landings;
          calm = λ never is.
              did.calm (λ p e purpose refusal none budget.
              never p e purpose refusal none (λ k.
              let here = budget k in
              let few = places.few k in
              let sum = numbers_sum stream k gifts (suc (length (ran.lists stream))) in
              omega (arith, here, few, sum)));
        }

    stream_serves : (stream : ℕ) → StreamServes stream (slice_index_or ran.batches stream [])
    stream_serves stream =
        elim (cases_lt stream streams) [
          | inl there ↦ buffer_serves stream there
          | inr past ↦
              let count = ran.as_many in
              let none : slice_index_or ran.batches stream [] ≡ [] = past_end ran.batches [] stream (omega (arith, count, past)) in
              record {
                services = [];
                numbers = λ n. sym (ap (times n) none);
                are = tt;
                lines = λ k. omega arith;
                landings = λ round output. refl;
                calm = λ never there. absurd (omega (arith, there, past));
              }
        ]

    abbrev batch_services : ℕ → List Service
    batch_services stream = (stream_serves stream).services

    -- The rounds beside the lanes, and the last round.
    beside : BesideServe (Shared threshold) script start log running sound follows begins rounds ran.beside
    beside =
        let party = ran.party in
        let most = most_one materialize in
        beside_serves (Shared threshold) script start log running sound follows begins materialize ran.middle ran.beside ran.goes_on (omega (arith, party, most))
        (λ none. none_there ran.beside (party ∙ ap one none)) ran.lanes.parties

    lastly : RoundServes (Shared threshold) rounds script start log running sound follows low 0 (λ o. 1) (LastCalm report.last) ran.lastly
    lastly = last_serves (Shared threshold) script start log running sound follows begins materialize report.last ran.middle.history ran.lastly ran.after ran.last

    once : (n : ℕ) → total (times n) ran.mine + total (times n) ran.batches + times n beside.own + times n ran.lastly ≡ given (length low) (length log.history) n
    once n =
        let none : one (is_some log.failed) ≡ 0 = ap (λ (o : Option Entry). one (is_some o)) sound in
        let same : given (length low) (length log.history + one (is_some log.failed)) n ≡ given (length low) (length log.history) n = ap (λ m. given (length low) m n) (omega (arith, none)) in
        let all_numbers = ran.numbers n in
        let sum = beside.sum n in
        let all_once = each_once n in
        omega (arith, same, all_numbers, sum, all_once)

    -- ---- all together: so many lanes as there are numbers of, and one more

    module _ (i : ℕ) where
      abbrev count : ℕ
      count = length ran.mine + lanes_seen + i + 1

      abbrev spared : ℕ → ℕ
      spared k = sum_to (λ j. (lane_adds j).spare k) count

      gifts_spared : (k : ℕ) → gifts_of k gifts ≤ spared k
      gifts_spared k =
          let sum = gifts_sum (λ (g : Gift). one (g.place == k)) (λ j. (lane j).gifts) lanes_seen in
          let grown = sum_grows (λ j. gifts_of k (lane j).gifts) lanes_seen count (omega arith) in
          omega (arith, sum, grown)

      abbrev batches : BatchesAdd (Shared threshold) rounds script start log running sound follows begins spared (λ n. total (times n) ran.batches)
      batches = record {
        services = all_of batch_services streams;
        numbers = λ n.
            let sum = all_sum (λ (s : Service). one (s.number == n)) batch_services streams in
            let same = sum_same (λ s. counted n (batch_services s)) (λ s. times n (slice_index_or ran.batches s [])) (λ s. (stream_serves s).numbers n) streams in
            let many = ran.as_many in
            let lists = sum_lists (times n) refl ran.batches streams (omega (arith, many)) in
            omega (arith, sum, same, lists);
        are = all_here (Shared threshold) rounds script start log running sound follows begins batch_services (λ s. (stream_serves s).are) streams;
        lines = λ k.
            let sum = all_sum (λ (s : Service). has_line k s.purpose) batch_services streams in
            let least = sum_least (λ s. lines_had k (batch_services s)) (λ s. gifts_to s k gifts) (λ s. (stream_serves s).lines k) streams in
            let most = streams_sum k gifts streams in
            let bound = gifts_spared k in
            omega (arith, sum, least, most, bound);
        landings = λ round output.
            let sum = all_sum (λ (s : Service). has_landing round output s.purpose) batch_services streams in
            let none = sum_none (λ s. landings_had round output (batch_services s)) (λ s. (stream_serves s).landings round output) streams in
            omega (arith, sum, none);
      }

      batch_lines : (k x stream : ℕ) → stream < streams → x + lines_had k (batch_services stream) ≤ gifts_to stream k gifts → x + lines_had k (all_of batch_services streams) ≤ spared k
      batch_lines k x stream there few =
          let sum = all_sum (λ (s : Service). has_line k s.purpose) batch_services streams in
          let more = sum_more (λ s. lines_had k (batch_services s)) (λ s. gifts_to s k gifts) x streams stream there few (λ s. (stream_serves s).lines k) in
          let most = streams_sum k gifts streams in
          let bound = gifts_spared k in
          omega (arith, sum, more, most, bound)

      calm : (stream : ℕ) → has stream ≡ true → AreCalmBatches (book (ran.lists stream)).settled
      calm stream there =
          (stream_serves stream).calm
          (λ p e purpose refusal none few.
          in_batch (Shared threshold) rounds script start log running sound follows begins room ran.mine lane_adds count (omega arith) (λ n. total (times n) ran.batches) beside.own ran.lastly
          batches (LastCalm report.last) beside.parties lastly once
          p e purpose refusal none (λ k. batch_lines k (has_line k purpose) stream (is_stream stream there) (few k)))
          (is_stream stream there)

      lane_benign : AreBenign (of_lane i (lanes_of script) all)
      lane_benign =
          (lane i).benign calm (λ p e purpose refusal none few.
          in_lane (Shared threshold) rounds script start log running sound follows begins room ran.mine lane_adds count (omega arith) (λ n. total (times n) ran.batches) beside.own ran.lastly
          batches (LastCalm report.last) beside.parties lastly once
          i (omega arith) p e purpose refusal none (λ k. let f = few k in omega (arith, f)))

      last_benign : LastCalm report.last
      last_benign =
          last_calm (Shared threshold) rounds script start log running sound follows begins room ran.mine lane_adds count (omega arith) (λ n. total (times n) ran.batches) beside.own ran.lastly
          batches (LastCalm report.last) beside.parties lastly once

    pub shared_fits : IsBenign (status_of_replies all) × LastCalm report.last
    shared_fits = (replies_benign script all ran.lanes.each lane_benign, last_benign 0)
