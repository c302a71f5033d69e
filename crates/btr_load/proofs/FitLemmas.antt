-- Lemmas on the room that a load needs: if the most that its rows need is left, nothing is refused for lack of room.
use Rattle.std.specs.Prelude.{◌≡◌, ℕ, ◌+◌, ◌≤◌, List, [], ◌∷◌, ◌++◌, length, Option, Some, None, Result, Ok, Err}
use Rattle.std.specs.List.{AllByRecursion}
use Rattle.std.specs.Option.{is_some}
use Rattle.std.proofs.Common.{refl, sym, ap, ◌∙◌, subst, arith, inl, inr}
use Rattle.std.proofs.lemmas.List.{append-nil}
use Rattle.btr_hist.specs.declared.entry.Entry.{Entry}
use Rattle.btr_hist.specs.declared.entry.Entry.TheVariants.{Create}
use Rattle.btr_hist.specs.declared.kernel.Spec.{Spec}
use Rattle.btr_hist.specs.History.{ids, stream_of, spec_of, commits, latest}
use Rattle.btr_hist.specs.Legal.{Follows}
use Rattle.btr_hist.proofs.HistoryLemmas.{commits-append, streams-append, unknown}
use Rattle.btr_rows.specs.declared.row.NumberedPoint.{NumberedPoint}
use Rattle.btr_rows.specs.Streams.{StreamValue}
use Rattle.btr_streams.specs.declared.board.Receipt.{Receipt}
use Rattle.btr_engine.specs.declared.step.StepFault.{StepFault}
use Rattle.btr_engine.specs.declared.step.StepFault.TheVariants as steps
use Rattle.btr_engine.specs.Body.{need_after, need_of, needs_after, needs_of, most_need_of}
use Rattle.btr_engine.specs.Step.{history_after}
use Rattle.btr_engine.proofs.NeedLemmas.{need-most}
use Rattle.btr_gate.specs.Numbers.{one, total}
use Rattle.btr_gate.specs.Prefixes.{StartsWith}
use Rattle.btr_gate.proofs.PrefixLemmas.{starts_refl, starts_trans, starts_length}
use Rattle.btr_jobs.specs.States.{StoreState, LogState}
use Rattle.btr_jobs.specs.Turns as turns
use Rattle.btr_jobs.specs.Turns.{IsFull}
use Rattle.btr_load.specs.declared.outcome.RowsOutcome.{RowsOutcome}
use Rattle.btr_load.specs.declared.outcome.RowsOutcome.TheVariants.{Output, NotCreated, Committed}
use Rattle.btr_load.specs.declared.stream.LoadedStream.{LoadedStream}
use Rattle.btr_load.specs.Batches.{batches_of, batch_entry}
use Rattle.btr_load.specs.Work.{BatchDid, BatchesDid, OutcomeDid, StreamsDid}
use Rattle.btr_load.specs.Loads.{OutcomeOfFound, OutcomeOfCreated, CreatesIfNew, CreatesEach}
use Rattle.btr_load.specs.Fits.{batches_need, create_need, commits_found, rows_need, HadRoom, OutcomeHadRoom, LoadsFit}
use Rattle.btr_load.proofs.TotalLemmas.{total_append, totals_alike}
use Rattle.btr_load.proofs.BatchLemmas.{did_long}
use Rattle.btr_load.proofs.CreateLemmas.{next_is}
use Rattle.btr_load.proofs.OfferLemmas.{nothing_left}
use Rattle.btr_load.proofs.SumLemmas.{numbers_sum}
use Rattle.btr_load.proofs.ThereLemmas.{accepted_count, accepted_own, latest_grows, opens_grows, all_open_grow}
use Rattle.btr_load.proofs.ThereLemmas.{OutcomeIsNamed, IsNamed, IsOnly, load_sound}
use Rattle.btr_load.proofs.NeedSums.{need_at, needs_at, own_needs, none_at, need_alike, added_at, refused_at, batches_later, first_own, batches_least}

-- Entries need no more than the most that each of them may need.
pub needs_least : (low since : List Entry) → needs_after low since ≤ total most_need_of since
needs_least low [] = omega arith
needs_least low (e ∷ since) =
    let here = need-most low e in
    let rest = needs_least (low ++ e ∷ []) since in
    omega (arith, here, rest)

-- ---- the commits of a stream before its batches

-- A create commits to no stream.
created_keeps : (result : Result Receipt StepFault) (p : List Entry) (id stream : ℕ) → commits (history_after result p (Create id)) stream ≡ commits p stream
created_keeps (Ok receipt) p id stream = commits-append p (Create id ∷ []) stream ∙ append-nil (commits p stream)
created_keeps (Err fault) p id stream = refl

module _ (start : StoreState) (log : LogState) (low : List Entry) where
  opens_keep : (p : List Entry) (id : ℕ) (o : Option ℕ) (outcome : RowsOutcome) (own : List ℕ) (next : List Entry) (stream : ℕ) → CreatesIfNew start log low p id o outcome own next → commits next stream ≡ commits p stream
  opens_keep p id (Some found) outcome own next stream opens = ap (λ l. commits l stream) opens.1.next
  opens_keep p id None outcome own next stream opens =
      ap (λ l. commits l stream) (next_is start log p (Create id) opens.0 own next opens.1) ∙ created_keeps opens.0 p id stream

  all_open_keep : (p : List Entry) (batch : ℕ) (rows : List StreamValue) (streams : List LoadedStream) (own : List ℕ) (last : List Entry) (stream : ℕ) → CreatesEach start log low p batch rows streams own last → commits last stream ≡ commits p stream
  all_open_keep p batch [] [] own last stream opens = ap (λ l. commits l stream) opens.next
  all_open_keep p batch [] (s ∷ streams) own last stream opens = absurd opens
  all_open_keep p batch (r ∷ rows) [] own last stream opens = absurd opens
  all_open_keep p batch (r ∷ rows) (s ∷ streams) own last stream opens =
      all_open_keep opens.4 batch rows streams opens.3 last stream opens.7
      ∙ opens_keep p r.id (stream_of low r.id) s.outcome opens.2 opens.4 stream opens.6

  -- The create of the stream of rows is that of its id.
  opened_of : (p : List Entry) (r : StreamValue) (s : LoadedStream) (own : List ℕ) (next : List Entry) → s.rows ≡ r → CreatesIfNew start log low p r.id (stream_of low r.id) s.outcome own next → CreatesIfNew start log low p s.rows.id (stream_of low s.rows.id) s.outcome own next
  opened_of p r s own next is opens =
      subst (λ n. CreatesIfNew start log low p n (stream_of low n) s.outcome own next) (sym (ap (λ (v : StreamValue). v.id) is)) opens

  -- The commits of the stream of rows are those of their id, which has none if it is new.
  found_past : (found : ℕ) (o : Option Spec) (stream : ℕ) (results : List (Result Receipt StepFault)) (last : ℕ) → OutcomeOfFound low found o (Committed stream results last) → commits low stream ≡ commits low found
  found_past found None stream results last is = ap (commits low) is.0
  found_past found (Some spec) stream results last is = absurd (cc)

  created_past : (follows : Follows low) (p : List Entry) (id : ℕ) (result : Result Receipt StepFault) (own : List ℕ) (next : List Entry) (stream : ℕ) (results : List (Result Receipt StepFault)) (last : ℕ) → StartsWith p low → turns.Committed start log p (Create id) result own next → OutcomeOfCreated result (Committed stream results last) → commits low stream ≡ []
  created_past follows p id (Ok receipt) own next stream results last starts turn is =
      let reported = turn.1.stream in
      let long : length (ids p) ≡ length (ids low) + length (ids starts.0) = ap (λ l. length (ids l)) starts.1 ∙ streams-append low starts.0 in
      let none = unknown low receipt.stream follows (omega (arith, reported, long)) in
      ap (commits low) is.0 ∙ nothing_left (commits low receipt.stream) (omega (arith, none))
  created_past follows p id (Err fault) own next stream results last starts turn is = absurd (cc)

  opens_past : (follows : Follows low) (p : List Entry) (id : ℕ) (o : Option ℕ) (own : List ℕ) (next : List Entry) (stream : ℕ) (results : List (Result Receipt StepFault)) (last : ℕ) → StartsWith p low → CreatesIfNew start log low p id o (Committed stream results last) own next → commits low stream ≡ commits_found low o
  opens_past follows p id (Some found) own next stream results last starts opens =
      found_past found (spec_of low found) stream results last opens.0
  opens_past follows p id None own next stream results last starts opens =
      created_past follows p id opens.0 own next stream results last starts opens.1 opens.2

-- What is known of the batches of rows whose id has this stream, or none: the commits before them, and that nobody else commits to the stream.
abbrev OutcomeIsOwn : LogState → List Entry → List Entry → Option ℕ → RowsOutcome → Type 0
OutcomeIsOwn log low mid o Output = Unit {0}
OutcomeIsOwn log low mid o (NotCreated fault) = Unit {0}
OutcomeIsOwn log low mid o (Committed stream results last) =
    (commits mid stream ≡ commits_found low o) × (latest log.history stream ≤ latest mid stream + accepted_count results)

abbrev AreOwn : LogState → List Entry → List Entry → List LoadedStream → Type 0
AreOwn log low mid streams = AllByRecursion (λ s. OutcomeIsOwn log low mid (stream_of low s.rows.id) s.outcome) streams

module _ (start : StoreState) (log : LogState) (low mid : List Entry) (follows : Follows low) (mid_low : StartsWith mid low) (keeps : (stream : ℕ) → commits mid stream ≡ commits low stream) where
  outcome_own : (p : List Entry) (id : ℕ) (o : Option ℕ) (batches : List (List NumberedPoint)) (outcome : RowsOutcome) (created own : List ℕ) (next : List Entry) → StartsWith p low → CreatesIfNew start log low p id o outcome created next → OutcomeDid start log mid batches outcome own → OutcomeIsNamed low mid id outcome → IsOnly log low mid id batches outcome → OutcomeIsOwn log low mid o outcome
  outcome_own p id o batches Output created own next starts opens did named only = tt
  outcome_own p id o batches (NotCreated fault) created own next starts opens did named only = tt
  outcome_own p id o batches (Committed stream results last) created own next starts opens did named only =
      let all = only stream named.0 in
      let count = accepted_own stream batches results (did_long start log mid stream batches results own did.0 did.1) in
      let grows = latest_grows mid low stream mid_low in
      (keeps stream ∙ opens_past start log low follows p id o created next stream results last starts opens, omega (arith, all, count, grows))

  all_own : (p : List Entry) (batch : ℕ) (rows : List StreamValue) (streams : List LoadedStream) (created own : List ℕ) (last : List Entry) → StartsWith p low → CreatesEach start log low p batch rows streams created last → StreamsDid start log mid streams own → AllByRecursion (IsNamed low mid) streams → AllByRecursion (λ s. IsOnly log low mid s.rows.id (batches_of s.batch s.rows.points) s.outcome) streams → AreOwn log low mid streams
  all_own p batch [] [] created own last starts opens did named only = tt
  all_own p batch [] (s ∷ streams) created own last starts opens did named only = absurd opens
  all_own p batch (r ∷ rows) [] created own last starts opens did named only = absurd opens
  all_own p batch (r ∷ rows) (s ∷ streams) created own last starts opens did named only =
      let opened = opened_of start log low p r s opens.2 opens.4 opens.0 opens.6 in (
        outcome_own p s.rows.id (stream_of low s.rows.id) (batches_of s.batch s.rows.points) s.outcome opens.2 did.0 opens.4 starts opened did.2 named.0 only.0,
        all_own opens.4 batch rows streams opens.3 did.1 last (starts_trans opens.4 p low (opens_grows start log low follows p r.id (stream_of low r.id) s.outcome opens.2 opens.4 opens.6) starts) opens.7 did.3 named.1 only.1,
      )

-- ---- what a load needs is no more than what its rows need

-- The most that one stream needs, and that many need.
abbrev own_need : List Entry → LoadedStream → ℕ
own_need low s =
    create_need s.rows.id (stream_of low s.rows.id)
    + batches_need (commits_found low (stream_of low s.rows.id)) (batches_of s.batch s.rows.points)

abbrev all_need : List Entry → List LoadedStream → ℕ
all_need low [] = 0
all_need low (s ∷ streams) = own_need low s + all_need low streams

-- The need of rows is that of their streams.
need_is : (start : StoreState) (log : LogState) (low p : List Entry) (batch : ℕ) (rows : List StreamValue) (streams : List LoadedStream) (own : List ℕ) (last : List Entry) → CreatesEach start log low p batch rows streams own last → all_need low streams ≡ rows_need low batch rows
need_is start log low p batch [] [] own last opens = refl
need_is start log low p batch [] (s ∷ streams) own last opens = absurd opens
need_is start log low p batch (r ∷ rows) [] own last opens = absurd opens
need_is start log low p batch (r ∷ rows) (s ∷ streams) own last opens =
    let rest = need_is start log low opens.4 batch rows streams opens.3 last opens.7 in
    let here : own_need low s ≡ create_need r.id (stream_of low r.id) + batches_need (commits_found low (stream_of low r.id)) (batches_of batch r.points) =
    λ i. create_need (opens.0 i).id (stream_of low (opens.0 i).id) + batches_need (commits_found low (stream_of low (opens.0 i).id)) (batches_of (opens.1 i) (opens.0 i).points) in
    omega (arith, rest, here)

module _ (start : StoreState) (log : LogState) (low mid p : List Entry) (seen : StartsWith log.history mid) (begins : StartsWith log.history p) where
  made_least : (q : List Entry) (id : ℕ) (result : Result Receipt StepFault) (own : List ℕ) (next : List Entry) → turns.Committed start log q (Create id) result own next → needs_at p own ≤ create_need id None
  made_least q id (Ok receipt) own next turn =
      let most = added_at start log p begins q (Create id) own next turn.2 in omega (arith, most)
  made_least q id (Err fault) own next turn =
      let none = refused_at start log p begins q (Create id) fault own next turn in omega (arith, none)

  create_least : (q : List Entry) (id : ℕ) (o : Option ℕ) (outcome : RowsOutcome) (own : List ℕ) (next : List Entry) → CreatesIfNew start log low q id o outcome own next → needs_at p own ≤ create_need id o
  create_least q id (Some found) outcome own next opens =
      let none = none_at start log p begins own opens.1.own in omega (arith, none)
  create_least q id None outcome own next opens = made_least q id opens.0 own next opens.1

  outcome_least : (o : Option ℕ) (batches : List (List NumberedPoint)) (outcome : RowsOutcome) (own : List ℕ) → OutcomeDid start log mid batches outcome own → OutcomeIsOwn log low mid o outcome → needs_at p own ≤ batches_need (commits_found low o) batches
  outcome_least o batches Output own did mine = let none = none_at start log p begins own did in omega (arith, none)
  outcome_least o batches (NotCreated fault) own did mine = let none = none_at start log p begins own did in omega (arith, none)
  outcome_least o batches (Committed stream results last) own did mine =
      let most = batches_least start log stream p mid batches results own did.0 begins seen mine.1 did.1 in
      let past = ap (λ l. batches_need l batches) mine.0 in
      omega (arith, most, past)

  all_least : (q : List Entry) (batch : ℕ) (rows : List StreamValue) (streams : List LoadedStream) (created own : List ℕ) (last : List Entry) → CreatesEach start log low q batch rows streams created last → StreamsDid start log mid streams own → AreOwn log low mid streams → needs_at p created + needs_at p own ≤ all_need low streams
  all_least q batch [] [] created own last opens did mine =
      let none = none_at start log p begins created opens.own in
      let empty = totals_alike (need_at p) own [] did in
      omega (arith, none, empty)
  all_least q batch [] (s ∷ streams) created own last opens did mine = absurd opens
  all_least q batch (r ∷ rows) [] created own last opens did mine = absurd opens
  all_least q batch (r ∷ rows) (s ∷ streams) created own last opens did mine =
      let creates = ap (needs_at p) opens.5 ∙ total_append (need_at p) opens.2 opens.3 in
      let commits = numbers_sum (need_at p) own did.0 did.1 did.4 in
      let opened = opened_of start log low q r s opens.2 opens.4 opens.0 opens.6 in
      let a = create_least q s.rows.id (stream_of low s.rows.id) s.outcome opens.2 opens.4 opened in
      let b = outcome_least (stream_of low s.rows.id) (batches_of s.batch s.rows.points) s.outcome did.0 did.2 mine.0 in
      let rest = all_least opens.4 batch rows streams opens.3 did.1 last opens.7 did.3 mine.1 in
      omega (arith, creates, commits, a, b, rest)

-- ---- room

-- Of each history with which the log begins: if what was spent for these numbers is taken back, so much is left.
abbrev Leaves : StoreState → LogState → (List Entry → ℕ) → ℕ → Type 0
Leaves start log spent most =
    (p : List Entry) → StartsWith p start.history → StartsWith log.history p
    → needs_of p + most ≤ (needs_of start.history + start.left) + spent p

module _ (start : StoreState) (log : LogState) where
  never_full : (spent : List Entry → ℕ) (most : ℕ) (p : List Entry) (e : Entry) (need left : ℕ) → Leaves start log spent most → StartsWith p start.history → StartsWith log.history p → IsFull start p e need left → spent p ≡ 0 → need_of p e ≤ most → ⊥
  never_full spent most p e need left leaves starts begins full none fits =
      let room = leaves p starts begins in
      let needed = full.need in
      let whole = full.left in
      let short = full.short in
      omega (arith, room, needed, whole, short, none, fits)

  module _ (stream : ℕ) where
    result_fits : (low : List Entry) (batch : List NumberedPoint) (batches : List (List NumberedPoint)) (result : Result Receipt StepFault) (results : List (Result Receipt StepFault)) (own : List ℕ) (last : List Entry) → StartsWith low start.history → StartsWith log.history low → latest log.history stream ≤ latest low stream + accepted_count (result ∷ results) → Leaves start log (λ p. needs_at p own) (batches_need (commits low stream) (batch ∷ batches)) → BatchesDid start log low stream (batch ∷ batches) (result ∷ results) own last → HadRoom result
    result_fits low batch batches (Ok receipt) results own last starts begins most leaves did = tt
    result_fits low batch batches (Err (steps.Stopped count)) results own last starts begins most leaves did = tt
    result_fits low batch batches (Err steps.Sealed) results own last starts begins most leaves did = tt
    result_fits low batch batches (Err (steps.Rejected why)) results own last starts begins most leaves did = tt
    result_fits low batch batches (Err steps.Want) results own last starts begins most leaves did = tt
    result_fits low batch batches (Err steps.DeviceFault) results own last starts begins most leaves did = tt
    result_fits low batch batches (Err (steps.DeviceFull need left)) results own last starts begins most leaves did =
        full did.4
      where
        full : BatchDid start log low (batch_entry stream batch) (Err (steps.DeviceFull need left)) did.0 did.2 → ⊥
        full (inr none) = absurd (cc (none.0))
        full (inl turn) =
            let p = turn.0 in
            let e = batch_entry stream batch in
            let idle = turn.3.2 in
            let one = first_own start log stream low batch batches (Err (steps.DeviceFull need left)) results own last begins most did in
            let all = ap (needs_at p) did.3 ∙ total_append (need_at p) did.0 did.1 in
            let first = none_at start log p turn.2 did.0 idle.own in
            let long = ap (length {A = Entry}) idle.next in
            let rest = batches_later start log p turn.2 did.2 stream batches results did.1 last (omega (arith, long)) did.5 in
            let past : commits p stream ≡ commits low stream = ap (λ l. commits l stream) (sym idle.next) ∙ one.past in
            let same : need_of p e ≡ need_after (commits low stream) (batch_entry 0 batch) =
            ap (λ l. need_after l e) past ∙ need_alike (commits low stream) stream 0 batch in
            never_full (λ k. needs_at k own) (batches_need (commits low stream) (batch ∷ batches)) p e need left leaves (starts_trans p low start.history turn.1 starts) turn.2 turn.3.1
            (omega (arith, all, first, rest)) (omega (arith, same))

    batches_fit : (low : List Entry) (batches : List (List NumberedPoint)) (results : List (Result Receipt StepFault)) (own : List ℕ) (last : List Entry) → StartsWith low start.history → StartsWith log.history low → latest log.history stream ≤ latest low stream + accepted_count results → Leaves start log (λ p. needs_at p own) (batches_need (commits low stream) batches) → BatchesDid start log low stream batches results own last → AllByRecursion HadRoom results
    batches_fit low [] [] own last starts begins most leaves did = tt
    batches_fit low [] (result ∷ results) own last starts begins most leaves did = absurd did
    batches_fit low (batch ∷ batches) [] own last starts begins most leaves did = absurd did
    batches_fit low (batch ∷ batches) (result ∷ results) own last starts begins most leaves did =
        let one = first_own start log stream low batch batches result results own last begins most did in (
          result_fits low batch batches result results own last starts begins most leaves did,
          batches_fit did.2 batches results did.1 last (starts_trans did.2 low start.history one.grows starts) one.seen one.most
              (λ p from to.
              let room = leaves p from to in
              let all = ap (needs_at p) did.3 ∙ total_append (need_at p) did.0 did.1 in
              let spent = one.need p batches to in
              omega (arith, room, all, spent))
              did.5,
        )

  -- The create of a stream that was refused.
  refused_fits : (q : List Entry) (id : ℕ) (own other : List ℕ) (next : List Entry) (fault : StepFault) (more : ℕ) → StartsWith q start.history → StartsWith log.history q → turns.Committed start log q (Create id) (Err fault) own next → other ≡ [] → Leaves start log (λ p. needs_at p own + needs_at p other) (create_need id None + more) → HadRoom (Err fault)
  refused_fits q id own other next (steps.Stopped count) more starts begins turn none leaves = tt
  refused_fits q id own other next steps.Sealed more starts begins turn none leaves = tt
  refused_fits q id own other next (steps.Rejected why) more starts begins turn none leaves = tt
  refused_fits q id own other next steps.Want more starts begins turn none leaves = tt
  refused_fits q id own other next steps.DeviceFault more starts begins turn none leaves = tt
  refused_fits q id own other next (steps.DeviceFull need left) more starts begins turn none leaves =
      let first = none_at start log q begins own turn.2.own in
      let second = none_at start log q begins other none in
      never_full (λ p. needs_at p own + needs_at p other) (create_need id None + more) q (Create id) need left leaves starts begins turn.1 (omega (arith, first, second)) (omega arith)

  made_fits : (q : List Entry) (id : ℕ) (result : Result Receipt StepFault) (own other : List ℕ) (next : List Entry) (fault : StepFault) (more : ℕ) → StartsWith q start.history → StartsWith log.history q → turns.Committed start log q (Create id) result own next → OutcomeOfCreated result (NotCreated fault) → other ≡ [] → Leaves start log (λ p. needs_at p own + needs_at p other) (create_need id None + more) → HadRoom (Err fault)
  made_fits q id (Ok receipt) own other next fault more starts begins turn is none leaves = absurd is
  made_fits q id (Err given) own other next fault more starts begins turn is none leaves =
      let same : given ≡ fault = cc in
      subst (λ f. HadRoom (Err f)) same (refused_fits q id own other next given more starts begins turn none leaves)

  found_fits : (stream : ℕ) (o : Option Spec) (fault : StepFault) → OutcomeOfFound start.history stream o (NotCreated fault) → ⊥
  found_fits stream None fault is = is
  found_fits stream (Some spec) fault is = absurd (cc)

  create_fits : (q : List Entry) (id : ℕ) (o : Option ℕ) (own other : List ℕ) (next : List Entry) (fault : StepFault) (more : ℕ) → StartsWith q start.history → StartsWith log.history q → CreatesIfNew start log start.history q id o (NotCreated fault) own next → other ≡ [] → Leaves start log (λ p. needs_at p own + needs_at p other) (create_need id o + more) → HadRoom (Err fault)
  create_fits q id (Some found) own other next fault more starts begins opens none leaves =
      absurd (found_fits found (spec_of start.history found) fault opens.0)
  create_fits q id None own other next fault more starts begins opens none leaves =
      made_fits q id opens.0 own other next fault more starts begins opens.1 opens.2 none leaves

  module _ (mid : List Entry) (mid_low : StartsWith mid start.history) (seen : StartsWith log.history mid) where
    -- One stream.
    outcome_fits : (q : List Entry) (id : ℕ) (o : Option ℕ) (batches : List (List NumberedPoint)) (outcome : RowsOutcome) (created own : List ℕ) (next : List Entry) → StartsWith q start.history → StartsWith log.history q → CreatesIfNew start log start.history q id o outcome created next → OutcomeDid start log mid batches outcome own → OutcomeIsOwn log start.history mid o outcome → Leaves start log (λ p. needs_at p created + needs_at p own) (create_need id o + batches_need (commits_found start.history o) batches) → OutcomeHadRoom outcome
    outcome_fits q id o batches Output created own next starts begins opens did mine leaves = tt
    outcome_fits q id o batches (NotCreated fault) created own next starts begins opens did mine leaves =
        create_fits q id o created own next fault (batches_need (commits_found start.history o) batches) starts begins opens did leaves
    outcome_fits q id o batches (Committed stream results last) created own next starts begins opens did mine leaves =
        batches_fit stream mid batches results own did.0 mid_low seen mine.1
        (λ p from to.
        let room = leaves p from to in
        let spent = create_least start log start.history mid p seen to q id o (Committed stream results last) created next opens in
        let past = ap (λ l. batches_need l batches) mine.0 in
        omega (arith, room, spent, past))
        did.1

    -- All streams.
    all_fit : (follows : Follows start.history) (q : List Entry) (batch : ℕ) (rows : List StreamValue) (streams : List LoadedStream) (created own : List ℕ) (last : List Entry) → StartsWith q start.history → StartsWith log.history last → CreatesEach start log start.history q batch rows streams created last → StreamsDid start log mid streams own → AreOwn log start.history mid streams → Leaves start log (λ p. needs_at p created + needs_at p own) (all_need start.history streams) → AllByRecursion (λ s. OutcomeHadRoom s.outcome) streams
    all_fit follows q batch [] [] created own last starts begins opens did mine leaves = tt
    all_fit follows q batch [] (s ∷ streams) created own last starts begins opens did mine leaves = absurd opens
    all_fit follows q batch (r ∷ rows) [] created own last starts begins opens did mine leaves = absurd opens
    all_fit follows q batch (r ∷ rows) (s ∷ streams) created own last starts begins opens did mine leaves =
        let low = start.history in
        let id = s.rows.id in
        let o = stream_of low id in
        let batches = batches_of s.batch s.rows.points in
        let opened = opened_of start log low q r s opens.2 opens.4 opens.0 opens.6 in
        let here = starts_trans log.history last q begins (all_open_grow start log low follows q batch (r ∷ rows) (s ∷ streams) created last opens) in
        let grows = opens_grows start log low follows q r.id (stream_of low r.id) s.outcome opens.2 opens.4 opens.6 in
        let creates : (p : List Entry) → needs_at p created ≡ needs_at p opens.2 + needs_at p opens.3 = λ p.
        ap (needs_at p) opens.5 ∙ total_append (need_at p) opens.2 opens.3 in
        let sums : (p : List Entry) → needs_at p own ≡ needs_at p did.0 + needs_at p did.1 = λ p. numbers_sum (need_at p) own did.0 did.1 did.4 in (
          outcome_fits q id o batches s.outcome opens.2 did.0 opens.4 starts here opened did.2 mine.0
              (λ p from to.
              let room = leaves p from to in
              let rest = all_least start log low mid p seen to opens.4 batch rows streams opens.3 did.1 last opens.7 did.3 mine.1 in
              omega (arith, room, rest, creates p, sums p)),
          all_fit follows opens.4 batch rows streams opens.3 did.1 last (starts_trans opens.4 q low grows starts) begins opens.7 did.3 mine.1
              (λ p from to.
              let room = leaves p from to in
              let a = create_least start log low mid p seen to q id o s.outcome opens.2 opens.4 opened in
              let b = outcome_least start log low mid p seen to o batches s.outcome did.0 did.2 mine.0 in
              omega (arith, room, a, b, creates p, sums p)),
        )

-- ---- the law

pub loads_fit : LoadsFit
loads_fit start log rows batch reported numbers follows distinct mine loads fits =
    let low = start.history in
    let mid = loads.middle in
    let streams = reported.streams in
    let sound = load_sound start log low rows batch reported numbers follows distinct mine loads in
    let keeps : (stream : ℕ) → commits mid stream ≡ commits low stream = λ stream.
    all_open_keep start log low low batch rows.streams streams loads.created mid stream loads.opens in
    let own = all_own start log low mid follows sound.mid_low keeps low batch rows.streams streams loads.created loads.committed mid (starts_refl low) loads.opens loads.commits sound.named sound.only in
    let need = need_is start log low low batch rows.streams streams loads.created mid loads.opens in
    all_fit start log mid sound.mid_low loads.begins follows low batch rows.streams streams loads.created loads.committed mid (starts_refl low) loads.begins loads.opens loads.commits own
    (λ p from to.
    let long = starts_length log.history p to in
    let all = own_needs p low (length log.history + one (is_some log.failed)) numbers from (omega (arith, long)) mine in
    let sum = numbers_sum (need_at p) numbers loads.created loads.committed loads.own in
    omega (arith, all, sum, need, fits))
