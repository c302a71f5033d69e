-- A run of a script with own feeds whose store has room for each history that serves the script: no reply says that the device was full, and no line of
-- the last round.
use Rattle.std.specs.Prelude.{◌≡◌, ℕ, ◌+◌, ◌≤◌, Bool, true, false, List, [], length, slice_index_or, Option, Some, None, Result, Ok, Err}
use Rattle.std.specs.declared.alloc.AllocError.{AllocError}
use Rattle.std.specs.List.{AllByRecursion}
use Rattle.std.specs.Option.{is_some}
use Rattle.std.proofs.Common.{refl, sym, ap, arith}
use Rattle.btr_hist.specs.declared.entry.Entry.{Entry}
use Rattle.btr_hist.specs.Legal.{Follows}
use Rattle.btr_gate.specs.Numbers.{one, total, times, given}
use Rattle.btr_gate.specs.Prefixes.{StartsWith}
use Rattle.btr_gate.proofs.PrefixLemmas.{starts_refl}
use Rattle.btr_jobs.specs.States.{StoreState, LogState, GoesOn}
use Rattle.btr_jobs.specs.TurnLaws.{goes_refl}
use Rattle.btr_text.specs.declared.script.ScriptLine.{ScriptLine}
use Rattle.btr_work.specs.declared.report.RefreshLine.{RefreshLine}
use Rattle.btr_work.specs.Laws.{AreAllSince}
use Rattle.btr_live.specs.declared.live.LiveReport.{LiveReport}
use Rattle.btr_text.specs.declared.reply.LineReply.{LineReply}
use Rattle.btr_live.specs.Lanes.{begun, RunsLines, in_own_feeds}
use Rattle.btr_live.specs.LaneLaws.{lines_last}
use Rattle.btr_live.specs.OneHistory.{of_lane, lanes_of, lane_lines}
use Rattle.btr_live.specs.Rounds.{MakesRounds}
use Rattle.btr_live.specs.Live.{LastRound, RunsLive}
use Rattle.btr_store.specs.Completes.{IsBenign}
use Rattle.btr_store.specs.Replies.{status_of_replies}
use Rattle.btr_top.specs.declared.live.FeedKind.{FeedKind}
use Rattle.btr_top.specs.declared.live.FeedKind.TheVariants.{Own}
use Rattle.btr_top.specs.Room.{HasRoomForHistories, rounds_of}
use Rattle.btr_top.proofs.RoundServes.{IsCalm, RoundServes, no_round, round_serves}
use Rattle.btr_top.proofs.PlaceLemmas.{sum_to, places_of, at_places}
use Rattle.btr_top.proofs.WaitingPlaces.{waits_none}
use Rattle.btr_top.proofs.LaneServes.{AreBenign, LinesServe, lines_serve}
use Rattle.btr_top.proofs.HistoriesFit.{replies_benign, PartiesServe, no_party, LaneAdds, no_batches, in_lane, last_calm}
use Rattle.btr_top.proofs.PartyServes.{party_serves}

-- The lines of the last round ask for benign statuses, if there was one.
abbrev pub LastCalm : Option (Result (List RefreshLine) AllocError) → Type 0
LastCalm None = Unit {0}
LastCalm (Some (Err error)) = Unit {0}
LastCalm (Some (Ok report)) = AllByRecursion (λ (line : RefreshLine). IsCalm line.result) report

module _ (feeds : FeedKind) (script : List ScriptLine) (start : StoreState) (log : LogState) (running : start.stopped ≡ false) (sound : log.failed ≡ None) (follows : Follows log.history) (begins : StartsWith log.history start.history) where
  abbrev low : List Entry
  low = start.history

  pub last_serves : (materialize : Bool) (last : Option (Result (List RefreshLine) AllocError)) (known : List Entry) (own : List ℕ) → StartsWith known low → LastRound start log known materialize last own → RoundServes feeds (rounds_of materialize script) script start log running sound follows low 0 (λ o. 1) (LastCalm last) own
  last_serves false None known own after is = no_round feeds 0 script start log running sound follows low 0 own is
  last_serves false (Some result) known own after is = absurd is
  last_serves true None known own after is = absurd is
  last_serves true (Some (Err error)) known own after is = no_round feeds (length script + 1) script start log running sound follows low 0 own is
  last_serves true (Some (Ok report)) known own after is =
      round_serves feeds (length script + 1) script start log running sound follows low 0 (omega arith) log known report own (goes_refl start log) after is

  -- What the rounds beside the lanes added.
  pub record BesideServe (rounds : ℕ) (beside : List (List ℕ)) : Type 0 where
    pub own : List ℕ
    pub parties : PartiesServe feeds rounds script start log running sound follows begins own
    pub sum : (n : ℕ) → times n own ≡ total (times n) beside

  pub beside_serves : (materialize : Bool) (middle : LogState) (beside : List (List ℕ)) → GoesOn start log middle → length beside ≤ 1 → (materialize ≡ false → beside ≡ []) → ((k : ℕ) → MakesRounds start (length script) low middle (slice_index_or beside k [])) → BesideServe (rounds_of materialize script) beside
  beside_serves false middle beside on one_party none made = record {
    own = [];
    parties = no_party feeds 0 script start log running sound follows begins;
    sum = λ n. sym (ap (λ b. total (times n) b) (none refl));
  }
  beside_serves true middle beside on one_party none made =
      let is = party_serves feeds (length script + 1) script start log running sound follows begins (length script) (omega arith) middle beside on one_party made in
      record { own = is.0; parties = is.1; sum = is.2 }

module _ (batch : ℕ) (script : List ScriptLine) (start : StoreState) (log : LogState) (running : start.stopped ≡ false) (sound : log.failed ≡ None) (follows : Follows log.history) (begins : StartsWith log.history start.history) where
  abbrev known : List Entry
  known = start.history

  module _ (materialize : Bool) (report : LiveReport) (own : List ℕ) (ran : RunsLive (in_own_feeds batch) materialize start log known script report own) (each_once : AreAllSince known log own) (room : HasRoomForHistories (Own batch) (rounds_of materialize script) start script) where
    abbrev rounds : ℕ
    rounds = rounds_of materialize script

    abbrev all : List LineReply
    all = report.replies.items

    lines : (k : ℕ) → RunsLines batch start log (begun known) (lane_lines k script) (of_lane k (lanes_of script) all) (slice_index_or ran.mine k []) (ran.lanes.lanes k).0
    lines k = lines_last start log ran.middle ran.goes_on batch (begun known) (lane_lines k script) (of_lane k (lanes_of script) all) (slice_index_or ran.mine k []) (ran.lanes.lanes k).0 (ran.lanes.lanes k).1

    lane : (k : ℕ) → LinesServe (Own batch) rounds script start log running sound follows known known [] (places_of k script) (of_lane k (lanes_of script) all) (slice_index_or ran.mine k [])
    lane k =
        lines_serve (Own batch) rounds script start log running sound follows known k (begun known) [] (places_of k script) (lane_lines k script) (of_lane k (lanes_of script) all) (slice_index_or ran.mine k []) (ran.lanes.lanes k).0
        (starts_refl known) (at_places script k) (waits_none script known k) (lines k)

    -- No line gave points to others.
    abbrev lane_adds : (k : ℕ) → LaneAdds (Own batch) rounds script start log running sound follows begins k (slice_index_or ran.mine k [])
    lane_adds k = record {
      services = (lane k).services;
      spare = λ place. 0;
      numbers = (lane k).numbers;
      are = (lane k).are;
      lines = λ place. let l = (lane k).lines place in omega (arith, l);
      landings = (lane k).landings;
    }

    beside : BesideServe (Own batch) script start log running sound follows begins rounds ran.beside
    beside = beside_serves (Own batch) script start log running sound follows begins materialize ran.middle ran.beside ran.goes_on ran.one_party ran.no_rounds ran.lanes.parties

    lastly : RoundServes (Own batch) rounds script start log running sound follows known 0 (λ o. 1) (LastCalm report.last) ran.lastly
    lastly = last_serves (Own batch) script start log running sound follows begins materialize report.last ran.middle.history ran.lastly ran.after ran.last

    once : (n : ℕ) → total (times n) ran.mine + 0 + times n beside.own + times n ran.lastly ≡ given (length known) (length log.history) n
    once n =
        let none : one (is_some log.failed) ≡ 0 = ap (λ (o : Option Entry). one (is_some o)) sound in
        let same : given (length known) (length log.history + one (is_some log.failed)) n ≡ given (length known) (length log.history) n = ap (λ m. given (length known) m n) (omega (arith, none)) in
        let all_numbers = ran.numbers n in
        let sum = beside.sum n in
        let all_once = each_once n in
        omega (arith, same, all_numbers, sum, all_once)

    -- So many lanes as there are numbers of, and one more.
    module _ (i : ℕ) where
      abbrev count : ℕ
      count = length ran.mine + i + 1

      lane_benign : AreBenign (of_lane i (lanes_of script) all)
      lane_benign =
          (lane i).benign (λ p e purpose refusal none few.
          in_lane (Own batch) rounds script start log running sound follows begins room ran.mine lane_adds count (omega arith) (λ n. 0) beside.own ran.lastly
          (no_batches (Own batch) rounds script start log running sound follows begins (λ k. sum_to (λ j. 0) count)) (LastCalm report.last) beside.parties lastly once
          i (omega arith) p e purpose refusal none (λ k. let f = few k in omega (arith, f)))

      last_benign : LastCalm report.last
      last_benign =
          last_calm (Own batch) rounds script start log running sound follows begins room ran.mine lane_adds count (omega arith) (λ n. 0) beside.own ran.lastly
          (no_batches (Own batch) rounds script start log running sound follows begins (λ k. sum_to (λ j. 0) count)) (LastCalm report.last) beside.parties lastly once

    pub run_fits : IsBenign (status_of_replies all) × LastCalm report.last
    run_fits = (replies_benign script all ran.lanes.each lane_benign, last_benign 0)
