-- What the lines of one lane with shared buffers did: each entry that they added is there for one line, and each `feed` line that gave points
-- to a buffer is no such line.
use Rattle.std.specs.Prelude.{◌≡◌, ◌⊎◌, ℕ, ◌+◌, ◌≤◌, ◌==◌, Bool, true, false, List, [], ◌∷◌, ◌++◌, length, cond, slice_get, Option, Some, None, Result, Ok, Err}
use Rattle.std.specs.declared.alloc.AllocError.{AllocError}
use Rattle.std.specs.List.{AllByRecursion}
use Rattle.std.proofs.Common.{refl, sym, ap, ◌∙◌, subst, arith, inl, inr}
use Rattle.std.proofs.lemmas.Bool.{cases_eq}
use Rattle.btr_hist.specs.declared.entry.Entry.{Entry}
use Rattle.btr_hist.specs.History.{stream_of}
use Rattle.btr_hist.specs.Legal.{Follows}
use Rattle.btr_gate.specs.Numbers.{one, times}
use Rattle.btr_gate.specs.Prefixes.{StartsWith}
use Rattle.btr_gate.proofs.PrefixLemmas.{starts_refl, starts_trans, starts_length}
use Rattle.btr_jobs.specs.States.{StoreState, LogState}
use Rattle.btr_load.proofs.TotalLemmas.{total_append}
use Rattle.btr_text.specs.declared.script.Line.{Line}
use Rattle.btr_text.specs.declared.script.Line.TheVariants as lines
use Rattle.btr_text.specs.declared.script.ScriptLine.{ScriptLine}
use Rattle.btr_text.specs.declared.reply.LineReply.{LineReply}
use Rattle.btr_text.specs.declared.reply.LineReply.TheVariants.{No}
use Rattle.btr_base.specs.declared.point.Point.{Point}
use Rattle.btr_hall.specs.declared.group_answers.Outcome.{Outcome}
use Rattle.btr_hall.specs.declared.group_answers.Offered.{Offered}
use Rattle.btr_hall.specs.declared.group_answers.OfferFault.{OfferFault}
use Rattle.btr_hall.specs.declared.group_answers.Flushed.{Flushed}
use Rattle.btr_hall.specs.declared.group_answers.Flushed.TheVariants.{Busy, Nothing, Led}
use Rattle.btr_hall.specs.declared.group_item.GroupItem.{GroupItem}
use Rattle.btr_hall.specs.declared.group_item.GroupItem.TheVariants.{Offer, Lead, Settle}
use Rattle.btr_hall.specs.GroupBook.{book}
use Rattle.btr_hall.specs.GroupCalls.{GroupView, OffersTo, FlushesTo, OfferLeaves, SettlesAfter}
use Rattle.btr_live.specs.SharedLines.{Sharing, Gives, Leads, Declines, Views, KeepsOthers, Shares}
use Rattle.btr_live.specs.SharedLanes.{SharedState, RunsSharing, RunsSharedLine, RunsSharedLines}
use Rattle.btr_store.specs.Completes.{IsBenign}
use Rattle.btr_store.specs.Replies.{status_of_reply}
use Rattle.btr_top.specs.declared.live.FeedKind.TheVariants.{Shared}
use Rattle.btr_top.specs.Room.{Purpose, has_line, fed_by, Service}
use Rattle.btr_top.proofs.BenignStatuses.{along}
use Rattle.btr_top.proofs.ServiceLemmas.{counted, lines_had, landings_had, counted_append, lines_append, landings_none, up_to, up_to_least, up_to_sum, up_to_above, Above, above_lower, above_append, Served, served_append}
use Rattle.btr_top.proofs.PlaceLemmas.{AtPlaces}
use Rattle.btr_top.proofs.WaitingPlaces.{Pending, waits_for, Waits, waits_longer}
use Rattle.btr_top.proofs.LaneServes.{AreBenign, line_serves}
use Rattle.btr_top.proofs.Gifts.{Gift, gifts_of, gifts_at, IsGift, more_gifts}
use Rattle.btr_top.proofs.BatchServes.{AreCalmBatches, FindsFull, NoLanding}
use Rattle.btr_top.proofs.OfferLines.{IsSound, asked_sound, Known, ViewServes, offer_serves, flush_serves}

-- ---- what was seen

settled_grows_from : (led seen : List GroupItem) (outcome : Outcome) → SettlesAfter led seen outcome → StartsWith seen led
settled_grows_from led seen outcome settles = starts_trans seen settles.list led (Settle outcome ∷ [], settles.ends) settles.grows

-- What was done to buffers lets what was seen of them grow.
offer_grows : (stream threshold : ℕ) (old new : GroupView) (points : List Point) (result : Result Offered OfferFault) → OffersTo stream threshold old new points result → StartsWith new.seen old.seen
offer_grows stream threshold old new points (Err fault) is = subst (λ (l : List GroupItem). StartsWith l old.seen) (sym is.replies.0) is.grows
offer_grows stream threshold old new points (Ok ok) is =
    starts_trans new.seen is.before old.seen (leaves ok.led is.replies.leaves) is.grows
  where
    leaves : (led : Option Outcome) → OfferLeaves is.before is.replies.filled led new.seen → StartsWith new.seen is.before
    leaves None left = (Offer is.replies.filled false ∷ [], left)
    leaves (Some outcome) left =
        starts_trans new.seen (is.before ++ Offer is.replies.filled true ∷ []) is.before
        (settled_grows_from (is.before ++ Offer is.replies.filled true ∷ []) new.seen outcome left) (Offer is.replies.filled true ∷ [], refl)

flush_grows : (old new : GroupView) (result : Result Flushed AllocError) → FlushesTo old new result → StartsWith new.seen old.seen
flush_grows old new (Err error) is = subst (λ (l : List GroupItem). StartsWith l old.seen) (sym is.replies) is.grows
flush_grows old new (Ok Busy) is = subst (λ (l : List GroupItem). StartsWith l old.seen) (sym is.replies.0) is.grows
flush_grows old new (Ok Nothing) is = subst (λ (l : List GroupItem). StartsWith l old.seen) (sym is.replies.0) is.grows
flush_grows old new (Ok (Led outcome)) is =
    let led : List GroupItem = is.before ++ Lead ∷ [] in
    starts_trans new.seen is.before old.seen
    (starts_trans new.seen led is.before (settled_grows_from led new.seen outcome is.replies.2) (Lead ∷ [], refl)) is.grows

seen_grows : (threshold : ℕ) (old new : Views) (asked : Sharing) (reply : LineReply) → Shares threshold old asked reply new → (stream : ℕ) → StartsWith (new stream).seen (old stream).seen
seen_grows threshold old new (Gives s points) reply shares stream =
    elim (cases_eq stream s) [
      | inl same ↦ subst (λ x. StartsWith (new x).seen (old x).seen) (sym same) (offer_grows s threshold (old s) (new s) points shares.0 shares.1)
      | inr differs ↦ subst (λ (v : GroupView). StartsWith v.seen (old stream).seen) (sym (shares.3 stream differs)) (starts_refl (old stream).seen)
    ]
seen_grows threshold old new (Leads s) reply shares stream =
    elim (cases_eq stream s) [
      | inl same ↦ subst (λ x. StartsWith (new x).seen (old x).seen) (sym same) (flush_grows (old s) (new s) shares.0 shares.1)
      | inr differs ↦ subst (λ (v : GroupView). StartsWith v.seen (old stream).seen) (sym (shares.3 stream differs)) (starts_refl (old stream).seen)
    ]
seen_grows threshold old new (Declines reason) reply shares stream =
    subst (λ (v : Views). StartsWith (v stream).seen (old stream).seen) (sym shares.1) (starts_refl (old stream).seen)

module _ (threshold rounds : ℕ) (script : List ScriptLine) (start : StoreState) (log : LogState) (running : start.stopped ≡ false) (sound : log.failed ≡ None) (follows : Follows log.history) (low : List Entry) (has : ℕ → Bool) (lists : ℕ → List GroupItem) (found : (a : List Entry) (id stream : ℕ) → StartsWith a low → has stream ≡ true → stream_of a id ≡ Some stream → stream_of low id ≡ Some stream) where
  abbrev Here : Service → Type 0
  Here s = Served (Shared threshold) rounds script low log.history s

  abbrev Full : List Entry → Entry → Purpose → Type 0
  Full p e purpose = FindsFull threshold rounds script start log running sound follows low p e purpose

  abbrev Lands : Purpose → Type 0
  Lands purpose = NoLanding threshold rounds script start log running sound follows low purpose

  abbrev Has : List Gift → ℕ → ℕ → Type 0
  Has gifts stream n = Known script low lists gifts stream n

  -- Each item of a buffer's list that a lane added, if it is an offer, is one of these gifts, or it was there before.
  abbrev pub AreKnown : List Gift → Views → Views → Type 0
  AreKnown gifts old new = (stream : ℕ) → has stream ≡ true → (n : ℕ) → 1 ≤ times n (new stream).own → (1 ≤ times n (old stream).own) ⊎ Has gifts stream n

  -- Each batch of each buffer has an outcome that asks for a benign status.
  abbrev pub Calm : Type 0
  Calm = (stream : ℕ) → has stream ≡ true → AreCalmBatches (book (lists stream)).settled

  -- The lists of the buffers begin with what was seen of them.
  abbrev pub AreSeen : Views → Type 0
  AreSeen views = (stream : ℕ) → has stream ≡ true → StartsWith (lists stream) (views stream).seen

  -- ---- one line

  -- What a line did, at this place of the script, in a lane in which these places waited.
  record LineGives (lane place : ℕ) (old : SharedState) (pending : List Pending) (reply : LineReply) (own : List ℕ) (new : SharedState) : Type 0 where
    waiting : List Pending
    services : List Service
    gifts : List Gift
    waits : Waits script new.lane.history lane waiting new.lane.waiting
    longer : StartsWith new.lane.history old.lane.history
    numbers : (n : ℕ) → counted n services ≡ times n own
    are : AllByRecursion Here services
    above : Above (length old.lane.history) services
    gives : (k : ℕ) → gifts_of k gifts ≤ one (place == k)
    lines : (k : ℕ) → lines_had k services + gifts_of k gifts + waits_for k waiting ≤ waits_for k pending + one (place == k)
    landings : (round output : ℕ) → landings_had round output services ≡ 0
    known : AreKnown gifts old.views new.views
    benign : Calm → ((p : List Entry) (e : Entry) (purpose : Purpose) → Full p e purpose → Lands purpose → StartsWith p old.lane.history → StartsWith new.lane.history p
        → ((k : ℕ) → has_line k purpose + lines_had k services + gifts_of k gifts ≤ waits_for k pending + one (place == k)) → ⊥) → IsBenign (status_of_reply reply)

  module _ (lane place : ℕ) (old : SharedState) (pending : List Pending) (line : Option Line) (reply : LineReply) (own : List ℕ) (new : SharedState) (begins : StartsWith old.lane.history low) (at_place : slice_get script place ≡ Some (record { lane = lane; line = line })) (waits : Waits script old.lane.history lane pending old.lane.waiting) (inside : AreSeen new.views) where
    abbrev Did : Type 0
    Did = LineGives lane place old pending reply own new

    module _ (is : RunsSharing has threshold log old line reply own new) where
      given : (gifts : List Gift) → ((k : ℕ) → gifts_of k gifts ≤ one (place == k)) → AreKnown gifts old.views new.views → (Calm → IsBenign (status_of_reply reply)) → Did
      given gifts gives known benign = record {
        waiting = pending;
        services = [];
        gifts = gifts;
        waits = subst (λ w. Waits script new.lane.history lane pending w) (sym is.waiting) (waits_longer script old.lane.history lane pending old.lane.waiting waits new.lane.history is.at.after);
        longer = is.at.after;
        numbers = λ n. sym (ap (times n) is.at.none);
        are = tt;
        above = tt;
        gives = gives;
        lines = λ k. let g = gives k in omega (arith, g);
        landings = λ round output. refl;
        known = known;
        benign = λ calm never. benign calm;
      }

      -- What became of one buffer.
      of_buffer : (stream : ℕ) → has stream ≡ true → KeepsOthers stream old.views new.views → ViewServes script low lists stream place reply (old.views stream) (new.views stream) → Did
      of_buffer stream there keeps view =
          given view.gifts view.few
          (λ other has_other n some.
          elim (cases_eq other stream) [
            | inl same ↦
                subst (λ s. 1 ≤ times n (new.views s).own → (1 ≤ times n (old.views s).own) ⊎ Has view.gifts s n) (sym same) (view.known n) some
            | inr differs ↦ inl (subst (λ (v : GroupView). 1 ≤ times n v.own) (keeps other differs) some)
          ])
          (λ calm. view.calm (calm stream there))

      by_sharing : (asked : Sharing) → IsSound has new.lane.history line asked → Shares threshold old.views asked reply new.views → Did
      by_sharing (Gives stream points) asks shares =
          let there : has stream ≡ true = asks.0 in
          let here : stream_of low asks.1 ≡ Some stream = found new.lane.history asks.1 stream (starts_trans new.lane.history old.lane.history low is.at.after begins) there asks.2 in
          let at_line : slice_get script place ≡ Some (record { lane = lane; line = Some (lines.Feed asks.1 points) }) = at_place ∙ ap (λ (l : Option Line). Some (as_line l)) asks.3 in
          let gift : IsGift script low stream place points = record {
            lane = lane;
            feeds = record { id = asks.1; added = points; line = at_line; same_stream = here };
            fed = ap (λ (o : Option ScriptLine). fed_by o) at_line;
          } in
          of_buffer stream there shares.3
          (offer_serves script low lists stream place reply (old.views stream) (new.views stream) (inside stream there) threshold points shares.0 shares.2 shares.1 gift)
        where
          as_line : Option Line → ScriptLine
          as_line l = record { lane = lane; line = l }
      by_sharing (Leads stream) asks shares =
          of_buffer stream asks shares.3
          (flush_serves script low lists stream place reply (old.views stream) (new.views stream) (inside stream asks) shares.0 shares.2 shares.1)
      by_sharing (Declines reason) asks shares =
          given [] (λ k. omega arith)
          (λ stream there n some. inl (subst (λ (v : Views). 1 ≤ times n (v stream).own) shares.1 some))
          (λ calm. along reply (No reason) shares.0 asks)

    line_gives : RunsSharedLine has threshold start log old line reply own new → Did
    line_gives (inl is) = by_sharing is is.at.asked (asked_sound has new.lane.history line is.at.asked is.at.means) is.at.shares
    line_gives (inr is) =
        let did = line_serves (Shared threshold) rounds script start log running sound follows low lane place old.lane pending line reply own new.lane begins at_place waits is.runs in
        record {
          waiting = did.waiting;
          services = did.services;
          gifts = [];
          waits = did.waits;
          longer = did.longer;
          numbers = did.numbers;
          are = did.are;
          above = did.above;
          gives = λ k. omega arith;
          lines = λ k. let l = did.lines k in omega (arith, l);
          landings = did.landings;
          known = λ stream there n some. inl (subst (λ (v : Views). 1 ≤ times n (v stream).own) is.views some);
          benign = λ calm never. did.benign (λ p e purpose refusal none after before few. never p e purpose refusal none after before (λ k. let f = few k in omega (arith, f)));
        }

  -- ---- all lines of a lane

  -- What a lane has seen of a buffer grows.
  view_grows : (old : SharedState) (line : Option Line) (reply : LineReply) (own : List ℕ) (new : SharedState) → RunsSharedLine has threshold start log old line reply own new → (stream : ℕ) → StartsWith (new.views stream).seen (old.views stream).seen
  view_grows old line reply own new (inr is) stream =
      subst (λ (v : Views). StartsWith (v stream).seen (old.views stream).seen) (sym is.views) (starts_refl (old.views stream).seen)
  view_grows old line reply own new (inl is) stream = seen_grows threshold old.views new.views is.at.asked reply is.at.shares stream

  views_grow : (old : SharedState) (ls : List (Option Line)) (all : List LineReply) (own : List ℕ) (new : SharedState) → RunsSharedLines has threshold start log old ls all own new → (stream : ℕ) → StartsWith (new.views stream).seen (old.views stream).seen
  views_grow old [] [] own new is stream = subst (λ (s : SharedState). StartsWith (s.views stream).seen (old.views stream).seen) (sym is.1) (starts_refl (old.views stream).seen)
  views_grow old [] (reply ∷ all) own new is stream = absurd is
  views_grow old (line ∷ ls) [] own new is stream = absurd is
  views_grow old (line ∷ ls) (reply ∷ all) own new is stream =
      let next : SharedState = is.2 in
      starts_trans (new.views stream).seen (next.views stream).seen (old.views stream).seen
      (views_grow next ls all is.1 new is.5 stream) (view_grows old line reply is.0 next is.4 stream)

  -- What the lines at these places did, in a lane that was here, and in which these places waited.
  pub record LinesGive (old : SharedState) (pending : List Pending) (places : List ℕ) (all : List LineReply) (own : List ℕ) (new : SharedState) : Type 0 where
    pub services : List Service
    pub gifts : List Gift
    pub numbers : (n : ℕ) → counted n services ≡ times n own
    pub are : AllByRecursion Here services
    pub above : Above (length old.lane.history) services
    pub gives : (k : ℕ) → gifts_of k gifts ≤ times k places
    pub lines : (k : ℕ) → lines_had k services + gifts_of k gifts ≤ waits_for k pending + times k places
    pub landings : (round output : ℕ) → landings_had round output services ≡ 0
    pub known : AreKnown gifts old.views new.views
    pub benign : Calm → ((p : List Entry) (e : Entry) (purpose : Purpose) → Full p e purpose → Lands purpose
        → ((k : ℕ) → has_line k purpose + lines_had k (up_to (length p) services) + gifts_of k gifts ≤ waits_for k pending + times k places) → ⊥) → AreBenign all

  -- What is known of some gifts is known of these and others.
  known_more : (few many : List Gift) (stream n : ℕ) → ((m k : ℕ) → gifts_at stream m k few ≤ gifts_at stream m k many) → Has few stream n → Has many stream n
  known_more few many stream n more has_few =
      λ before filled leads rest same at.
      more_gifts script low stream few many _ _ (λ k. more _ k) (has_few before filled leads rest same at)

  pub lines_give : (lane : ℕ) (old : SharedState) (pending : List Pending) (places : List ℕ) (ls : List (Option Line)) (all : List LineReply) (own : List ℕ) (new : SharedState) → StartsWith old.lane.history low → AtPlaces script lane places ls → Waits script old.lane.history lane pending old.lane.waiting → AreSeen new.views → RunsSharedLines has threshold start log old ls all own new → LinesGive old pending places all own new
  lines_give lane old pending [] [] [] own new begins at waits inside is = record {
    services = [];
    gifts = [];
    numbers = λ n. sym (ap (times n) is.0);
    are = tt;
    above = tt;
    gives = λ k. omega arith;
    lines = λ k. omega arith;
    landings = λ round output. refl;
    known = λ stream there n some. inl (subst (λ (s : SharedState). 1 ≤ times n (s.views stream).own) is.1 some);
    benign = λ calm never. tt;
  }
  lines_give lane old pending places [] (reply ∷ all) own new begins at waits inside is = absurd is
  lines_give lane old pending places (line ∷ ls) [] own new begins at waits inside is = absurd is
  lines_give lane old pending [] (line ∷ ls) (reply ∷ all) own new begins at waits inside is = absurd at
  lines_give lane old pending (place ∷ places) [] [] own new begins at waits inside is = absurd at
  lines_give lane old pending (place ∷ places) (line ∷ ls) (reply ∷ all) own new begins at waits inside is =
      let next : SharedState = is.2 in
      let seen : AreSeen next.views = λ stream there. starts_trans (lists stream) (new.views stream).seen (next.views stream).seen (inside stream there) (views_grow next ls all is.1 new is.5 stream) in
      let first = line_gives lane place old pending line reply is.0 next begins at.0 waits seen is.4 in
      let rest = lines_give lane next first.waiting places ls all is.1 new (starts_trans next.lane.history old.lane.history low first.longer begins) at.1 first.waits inside is.5 in
      let grown = starts_length next.lane.history old.lane.history first.longer in
      let gifts : List Gift = first.gifts ++ rest.gifts in
      record {
        services = first.services ++ rest.services;
        gifts = gifts;
        numbers = counted_append first.services rest.services own is.0 is.1 is.3 first.numbers rest.numbers;
        are = served_append (Shared threshold) rounds script low log.history first.services rest.services first.are rest.are;
        above = above_append (length old.lane.history) first.services rest.services first.above (above_lower (length old.lane.history) (length next.lane.history) rest.services grown rest.above);
        gives = λ k.
            let sum = total_append (λ (g : Gift). one (g.place == k)) first.gifts rest.gifts in
            let here = first.gives k in
            let later = rest.gives k in
            omega (arith, sum, here, later);
        lines = λ k.
            let sum = lines_append k first.services rest.services in
            let gave = total_append (λ (g : Gift). one (g.place == k)) first.gifts rest.gifts in
            let here = first.lines k in
            let later = rest.lines k in
            omega (arith, sum, gave, here, later);
        landings = landings_none first.services rest.services first.landings rest.landings;
        known = λ stream there n some.
            elim (rest.known stream there n some) [
              | inl before ↦
                  elim (first.known stream there n before) [
                    | inl old_one ↦ inl old_one
                    | inr has_first ↦ inr (known_more first.gifts gifts stream n (λ m k. let sum = total_append (at_number stream m k) first.gifts rest.gifts in omega (arith, sum)) has_first)
                  ]
              | inr has_rest ↦ inr (known_more rest.gifts gifts stream n (λ m k. let sum = total_append (at_number stream m k) first.gifts rest.gifts in omega (arith, sum)) has_rest)
            ];
        benign = λ calm never. (
          first.benign calm (λ p e purpose refusal none after before few.
              never p e purpose refusal none (λ k.
              let budget = few k in
              let sum = up_to_sum (λ (s : Service). has_line k s.purpose) (length p) first.services rest.services in
              let part = up_to_least (λ (s : Service). has_line k s.purpose) (length p) first.services in
              let long = starts_length next.lane.history p before in
              let none_later = up_to_above (λ (s : Service). has_line k s.purpose) (length p) rest.services (above_lower (length p) (length next.lane.history) rest.services long rest.above) in
              let gave = total_append (λ (g : Gift). one (g.place == k)) first.gifts rest.gifts in
              let later = rest.gives k in
              omega (arith, budget, sum, part, none_later, gave, later))),
          rest.benign calm (λ p e purpose refusal none few.
              never p e purpose refusal none (λ k.
              let budget = few k in
              let sum = up_to_sum (λ (s : Service). has_line k s.purpose) (length p) first.services rest.services in
              let part = up_to_least (λ (s : Service). has_line k s.purpose) (length p) first.services in
              let gave = total_append (λ (g : Gift). one (g.place == k)) first.gifts rest.gifts in
              let here = first.lines k in
              omega (arith, budget, sum, part, gave, here))),
        );
      }
    where
      at_number : ℕ → ℕ → ℕ → Gift → ℕ
      at_number stream m k g = cond (g.number == m) (cond (g.stream == stream) (one (g.place == k)) 0) 0
