-- Lemmas on a load by one worker: each turn is right after the one before it, so the history and the results are those of the plain load
-- on a device.
use Rattle.std.specs.Prelude.{◌≡◌, ℕ, ◌+◌, ◌≤◌, List, [], ◌∷◌, ◌++◌, length, map, Option, Some, None, Result, Ok, Err}
use Rattle.std.specs.List.{AllByRecursion}
use Rattle.std.specs.Option.{is_some}
use Rattle.std.proofs.Common.{refl, sym, ap, ◌∙◌, subst, arith, inl, inr, length-append}
use Rattle.btr_hist.specs.declared.entry.Entry.{Entry}
use Rattle.btr_hist.specs.declared.entry.Entry.TheVariants.{Create}
use Rattle.btr_hist.specs.declared.kernel.Spec.{Spec}
use Rattle.btr_hist.specs.History.{stream_of, spec_of, latest}
use Rattle.btr_rows.specs.declared.row.NumberedPoint.{NumberedPoint}
use Rattle.btr_rows.specs.Streams.{StreamValue}
use Rattle.btr_streams.specs.declared.board.Receipt.{Receipt}
use Rattle.btr_engine.specs.declared.step.StepFault.{StepFault}
use Rattle.btr_engine.specs.Step.{history_after}
use Rattle.btr_gate.specs.Numbers.{one, total}
use Rattle.btr_gate.specs.Prefixes.{StartsWith}
use Rattle.btr_gate.proofs.PrefixLemmas.{starts_refl, starts_trans, starts_length, starts_whole}
use Rattle.btr_jobs.specs.States.{StoreState, LogState}
use Rattle.btr_jobs.specs.Turns as turns
use Rattle.btr_jobs.specs.PlainStore.{PlainStore, TakeResult, take_result, store_after, result_of, first_store, RunsThrough}
use Rattle.btr_jobs.specs.PlainStore.TakeResult.{Taken, Rejected, Full}
use Rattle.btr_jobs.proofs.PlainStoreLemmas.{middle_runs, Holds, first_holds, committed_plain}
use Rattle.btr_load.specs.declared.outcome.RowsOutcome.{RowsOutcome}
use Rattle.btr_load.specs.declared.outcome.RowsOutcome.TheVariants.{Output, NotCreated, Committed}
use Rattle.btr_load.specs.declared.stream.LoadedStream.{LoadedStream}
use Rattle.btr_load.specs.Batches.{batches_of, batch_entry, last_version}
use Rattle.btr_load.specs.Work.{BatchDid, BatchesDid, OutcomeDid, StreamsInTurn}
use Rattle.btr_load.specs.Loads.{IsCommittedTo, OutcomeOfFound, OutcomeOfCreated, CreatesIfNew, CreatesEach}
use Rattle.btr_load.specs.There.{accepted, outcome_entries, batch_entries, create_entry, create_entries}
use Rattle.btr_load.specs.InOrder.{store_after_all, results_all, with_stream, with_streams, found_outcome, created_outcome, first_outcome, first_outcomes}
use Rattle.btr_load.specs.InOrder.{with_batches, with_rows, last_outcome, last_outcomes, HadMemory, OutcomeHadMemory, LoadsInOrder}
use Rattle.btr_load.proofs.CreateLemmas.{next_is}
use Rattle.btr_load.proofs.SumLemmas.{load_sum}
use Rattle.btr_load.proofs.TotalLemmas.{total_append, entries_sum}

-- ---- how many entries were added

-- 1 of each entry.
abbrev each : Entry → ℕ
each e = 1

each_long : (l : List Entry) → total each l ≡ length l
each_long [] = refl
each_long (e ∷ l) = let rest = each_long l in omega (arith, rest)

-- 1 if the entry was accepted.
abbrev got : Result Receipt StepFault → ℕ
got (Ok receipt) = 1
got (Err fault) = 0

accepted_more : (stream : ℕ) (batch : List NumberedPoint) (batches : List (List NumberedPoint)) (result : Result Receipt StepFault) (results : List (Result Receipt StepFault)) → total each (accepted stream (batch ∷ batches) (result ∷ results)) ≡ got result + total each (accepted stream batches results)
accepted_more stream batch batches (Ok receipt) results = omega arith
accepted_more stream batch batches (Err fault) results = omega arith

module _ (start : StoreState) (log : LogState) where
  -- What a turn leaves has happened, and has one entry more if the entry was accepted.
  record Grows (p next : List Entry) (result : Result Receipt StepFault) : Type 0 where
    pub seen : StartsWith log.history next
    pub more : length next ≡ length p + got result

  same_grows : (p next : List Entry) (fault : StepFault) → StartsWith log.history p → next ≡ p → Grows p next (Err fault)
  same_grows p next fault starts same = record {
    seen = subst (StartsWith log.history) (sym same) starts;
    more = let long = ap (length {A = Entry}) same in omega (arith, long);
  }

  turn_grows : (p : List Entry) (e : Entry) (result : Result Receipt StepFault) (own : List ℕ) (next : List Entry) → StartsWith log.history p → turns.Committed start log p e result own next → Grows p next result
  turn_grows p e (Ok receipt) own next starts is = record {
    seen = subst (StartsWith log.history) (sym is.2.next) is.2.follows;
    more = let long = ap (length {A = Entry}) is.2.next in let both = length-append p (e ∷ []) in omega (arith, long, both);
  }
  turn_grows p e (Err fault) own next starts is = same_grows p next fault starts (next_is start log p e (Err fault) own next is)

  batch_grows : (low : List Entry) (e : Entry) (result : Result Receipt StepFault) (own : List ℕ) (next : List Entry) → StartsWith log.history low → BatchDid start log low e result own next → StartsWith log.history next × (length low + got result ≤ length next)
  batch_grows low e result own next starts (inl turn) =
      let grows = turn_grows turn.0 e result own next turn.2 turn.3 in
      let least = starts_length turn.0 low turn.1 in
      let more = grows.more in
      (grows.seen, omega (arith, least, more))
  batch_grows low e result own next starts (inr none) =
      let long = ap (length {A = Entry}) none.1.next in
      let no : got result ≡ 0 = ap got none.0 in
      (subst (StartsWith log.history) (sym none.1.next) starts, omega (arith, long, no))

  batches_least : (low : List Entry) (stream : ℕ) (batches : List (List NumberedPoint)) (results : List (Result Receipt StepFault)) (own : List ℕ) (last : List Entry) → StartsWith log.history low → BatchesDid start log low stream batches results own last → length low + total each (accepted stream batches results) ≤ length log.history
  batches_least low stream [] [] own last starts did =
      let least = starts_length log.history low starts in omega (arith, least)
  batches_least low stream [] (result ∷ results) own last starts did = absurd did
  batches_least low stream (batch ∷ batches) [] own last starts did = absurd did
  batches_least low stream (batch ∷ batches) (result ∷ results) own last starts did =
      let first = batch_grows low (batch_entry stream batch) result did.0 did.2 starts did.4 in
      let rest = batches_least did.2 stream batches results did.1 last first.0 did.5 in
      let both = accepted_more stream batch batches result results in
      omega (arith, first.1, rest, both)

  outcome_least : (low : List Entry) (batches : List (List NumberedPoint)) (outcome : RowsOutcome) (own : List ℕ) → StartsWith log.history low → OutcomeDid start log low batches outcome own → length low + total each (outcome_entries batches outcome) ≤ length log.history
  outcome_least low batches Output own starts did =
      let least = starts_length log.history low starts in omega (arith, least)
  outcome_least low batches (NotCreated fault) own starts did =
      let least = starts_length log.history low starts in omega (arith, least)
  outcome_least low batches (Committed stream results latest) own starts did = batches_least low stream batches results own did.0 starts did.1

streams_least : (start : StoreState) (late : LogState) (low : List Entry) (streams : List LoadedStream) (own : List ℕ) → StreamsInTurn start late low streams own → length low + total each (batch_entries streams) ≤ length late.history
streams_least start late low [] own turn =
    let least = starts_length late.history low turn.0 in omega (arith, least)
streams_least start late low (s ∷ streams) own turn =
    let batches = batches_of s.batch s.rows.points in
    let first = outcome_least start turn.0 low batches s.outcome turn.3 turn.2 turn.5 in
    let rest = streams_least start late turn.0.history streams turn.4 turn.6 in
    let both = total_append each (outcome_entries batches s.outcome) (batch_entries streams) in
    omega (arith, first, rest, both)

-- The outcome is that of rows whose outcome before their first batch was this.
abbrev IsFrom : RowsOutcome → RowsOutcome → Type 0
IsFrom Output now = now ≡ Output
IsFrom (NotCreated fault) now = now ≡ NotCreated fault
IsFrom (Committed stream none version) now = IsCommittedTo stream version now

-- These are the streams of rows, and their outcomes come from these.
abbrev AreFrom : ℕ → List StreamValue → List RowsOutcome → List LoadedStream → Type 0
AreFrom batch [] [] [] = Unit {0}
AreFrom batch [] [] (s ∷ streams) = ⊥
AreFrom batch [] (outcome ∷ outcomes) streams = ⊥
AreFrom batch (r ∷ rows) [] streams = ⊥
AreFrom batch (r ∷ rows) (outcome ∷ outcomes) [] = ⊥
AreFrom batch (r ∷ rows) (outcome ∷ outcomes) (s ∷ streams) =
    (s.rows ≡ r) × (s.batch ≡ batch) × IsFrom outcome s.outcome × AreFrom batch rows outcomes streams

-- ---- the batches of one stream

module _ (start : StoreState) (log : LogState) (ran : RunsThrough start log) where
  -- Nothing else was added, so each batch was committed right after the one before it.
  batches_exact : (c : PlainStore) (low : List Entry) (stream : ℕ) (batches : List (List NumberedPoint)) (results : List (Result Receipt StepFault)) (own : List ℕ) (last : List Entry) → Holds start c low → StartsWith log.history low → length log.history ≤ length low + total each (accepted stream batches results) → AllByRecursion HadMemory results → BatchesDid start log low stream batches results own last → (results ≡ results_all c (map (batch_entry stream) batches)) × Holds start (store_after_all c (map (batch_entry stream) batches)) log.history
  batches_exact c low stream [] [] own last holds starts most memory did =
      (refl, subst (Holds start c) (sym (starts_whole log.history low starts (omega (arith, most)))) holds)
  batches_exact c low stream [] (result ∷ results) own last holds starts most memory did = absurd did
  batches_exact c low stream (batch ∷ batches) [] own last holds starts most memory did = absurd did
  batches_exact c low stream (batch ∷ batches) (result ∷ results) own last holds starts most memory did =
      elim (did.4) [
        | inr none ↦ absurd (subst HadMemory none.0 memory.0)
        | inl turn ↦
            let p = turn.0 in
            let e = batch_entry stream batch in
            let next = did.2 in
            let grows = turn_grows start log p e result did.0 next turn.2 turn.3 in
            let more = grows.more in
            let least = batches_least start log next stream batches results did.1 last grows.seen did.5 in
            let both = accepted_more stream batch batches result results in
            let same : p ≡ low = starts_whole p low turn.1 (omega (arith, more, least, both, most)) in
            let long = ap (length {A = Entry}) same in
            let here = committed_plain start log ran c p e result did.0 next (subst (Holds start c) (sym same) holds) (λ want. subst HadMemory want memory.0) turn.3 in
            let rest = batches_exact (store_after c e) next stream batches results did.1 last here.1 grows.seen (omega (arith, more, both, most, long)) memory.1 did.5 in
            ((λ i. here.0 i ∷ rest.0 i), rest.1)
      ]

  whole_holds : (d : PlainStore) (low : List Entry) → Holds start d low → StartsWith log.history low → length log.history ≤ length low → Holds start d log.history
  whole_holds d low holds starts most = subst (Holds start d) (sym (starts_whole log.history low starts most)) holds

  committed_exact : (d : PlainStore) (low : List Entry) (batches : List (List NumberedPoint)) (stream of version latest : ℕ) (results : List (Result Receipt StepFault)) (own : List ℕ) (last : List Entry) → of ≡ stream → latest ≡ last_version version results → Holds start d low → StartsWith log.history low → length log.history ≤ length low + total each (accepted of batches results) → AllByRecursion HadMemory results → BatchesDid start log low of batches results own last → (Committed of results latest ≡ Committed stream (results_all d (map (batch_entry stream) batches)) (last_version version (results_all d (map (batch_entry stream) batches)))) × Holds start (store_after_all d (map (batch_entry stream) batches)) log.history
  committed_exact d low batches stream of version latest results own last same is holds starts most memory did =
      let exact = batches_exact d low of batches results own last holds starts most memory did in
      let reported : results ≡ results_all d (map (batch_entry stream) batches) = exact.0 ∙ ap (λ n. results_all d (map (batch_entry n) batches)) same in
      let end : latest ≡ last_version version (results_all d (map (batch_entry stream) batches)) = is ∙ ap (last_version version) reported in (
        (λ i. Committed (same i) (reported i) (end i)),
        subst (λ n. Holds start (store_after_all d (map (batch_entry n) batches)) log.history) same exact.1,
      )

  outcome_exact : (d : PlainStore) (low : List Entry) (batch : ℕ) (r : StreamValue) (first now : RowsOutcome) (own : List ℕ) → IsFrom first now → OutcomeDid start log low (batches_of batch r.points) now own → Holds start d low → StartsWith log.history low → length log.history ≤ length low + total each (outcome_entries (batches_of batch r.points) now) → OutcomeHadMemory now → (now ≡ last_outcome d batch r first) × Holds start (with_batches d batch r first) log.history
  outcome_exact d low batch r Output Output own from did holds starts most memory = (refl, whole_holds d low holds starts (omega (arith, most)))
  outcome_exact d low batch r Output (NotCreated fault) own from did holds starts most memory = absurd (cc)
  outcome_exact d low batch r Output (Committed stream results latest) own from did holds starts most memory = absurd (cc)
  outcome_exact d low batch r (NotCreated other) Output own from did holds starts most memory = absurd (cc)
  outcome_exact d low batch r (NotCreated other) (NotCreated fault) own from did holds starts most memory = (from, whole_holds d low holds starts (omega (arith, most)))
  outcome_exact d low batch r (NotCreated other) (Committed stream results latest) own from did holds starts most memory = absurd (cc)
  outcome_exact d low batch r (Committed stream none version) Output own from did holds starts most memory = absurd from
  outcome_exact d low batch r (Committed stream none version) (NotCreated fault) own from did holds starts most memory = absurd from
  outcome_exact d low batch r (Committed stream none version) (Committed of results latest) own from did holds starts most memory =
      committed_exact d low (batches_of batch r.points) stream of version latest results own did.0 from.0 from.1 holds starts most memory did.1

-- ---- all streams

outcomes_exact : (start : StoreState) (late : LogState) (low : List Entry) (d : PlainStore) (batch : ℕ) (rows : List StreamValue) (outcomes : List RowsOutcome) (streams : List LoadedStream) (own : List ℕ) → RunsThrough start late → AreFrom batch rows outcomes streams → StreamsInTurn start late low streams own → Holds start d low → length late.history ≤ length low + total each (batch_entries streams) → AllByRecursion (λ s. OutcomeHadMemory s.outcome) streams → (map (λ s. s.outcome) streams ≡ last_outcomes d batch rows outcomes) × Holds start (with_rows d batch rows outcomes) late.history
outcomes_exact start late low d batch [] [] [] own ran from turn holds most memory =
    (refl, subst (Holds start d) (sym (starts_whole late.history low turn.0 (omega (arith, most)))) holds)
outcomes_exact start late low d batch [] [] (s ∷ streams) own ran from turn holds most memory = absurd from
outcomes_exact start late low d batch [] (outcome ∷ outcomes) streams own ran from turn holds most memory = absurd from
outcomes_exact start late low d batch (r ∷ rows) [] streams own ran from turn holds most memory = absurd from
outcomes_exact start late low d batch (r ∷ rows) (outcome ∷ outcomes) [] own ran from turn holds most memory = absurd from
outcomes_exact start late low d batch (r ∷ rows) (outcome ∷ outcomes) (s ∷ streams) own ran from turn holds most memory =
    let middle = turn.0 in
    let same : batches_of s.batch s.rows.points ≡ batches_of batch r.points = λ i. batches_of (from.1 i) (from.0 i).points in
    let did = subst (λ b. OutcomeDid start middle low b s.outcome turn.3) same turn.5 in
    let first = outcome_least start middle low (batches_of batch r.points) s.outcome turn.3 turn.2 did in
    let rest = streams_least start late middle.history streams turn.4 turn.6 in
    let both = total_append each (outcome_entries (batches_of s.batch s.rows.points) s.outcome) (batch_entries streams) in
    let count : total each (outcome_entries (batches_of s.batch s.rows.points) s.outcome) ≡ total each (outcome_entries (batches_of batch r.points) s.outcome) = ap (λ b. total each (outcome_entries b s.outcome)) same in
    let here = outcome_exact start middle (middle_runs start late middle turn.1 ran) d low batch r outcome s.outcome turn.3 from.2 did holds turn.2 (omega (arith, rest, both, count, most)) memory.0 in
    let more = outcomes_exact start late middle.history (with_batches d batch r outcome) batch rows outcomes streams turn.4 ran from.3 turn.6 here.1 (omega (arith, first, both, count, most)) memory.1 in
    ((λ i. here.0 i ∷ more.0 i), more.1)

-- ---- the creates

found_from : (low : List Entry) (stream : ℕ) (o : Option Spec) (outcome : RowsOutcome) → OutcomeOfFound low stream o outcome → IsFrom (found_outcome low stream o) outcome
found_from low stream None outcome is = is
found_from low stream (Some spec) outcome is = is

created_from : (o : TakeResult) (result : Result Receipt StepFault) (outcome : RowsOutcome) → result ≡ result_of o → OutcomeOfCreated result outcome → IsFrom (created_outcome o) outcome
created_from (Taken receipt) result outcome same is = subst (λ r. OutcomeOfCreated r outcome) same is
created_from (Rejected why) result outcome same is = subst (λ r. OutcomeOfCreated r outcome) same is
created_from (Full need left) result outcome same is = subst (λ r. OutcomeOfCreated r outcome) same is

-- A create that was accepted is one entry.
created_count : (id : ℕ) (result : Result Receipt StepFault) (outcome : RowsOutcome) → OutcomeOfCreated result outcome → total each (create_entry None id outcome) ≡ got result
created_count id (Ok receipt) Output is = absurd is
created_count id (Ok receipt) (NotCreated fault) is = absurd is
created_count id (Ok receipt) (Committed stream results latest) is = refl
created_count id (Err fault) outcome is = ap (λ f. total each (create_entry None id f)) is

module _ (start : StoreState) (log : LogState) (ran : RunsThrough start log) (low : List Entry) where
  -- What one create, or none, leaves.
  record Opened (c : PlainStore) (p : List Entry) (id : ℕ) (o : Option ℕ) (outcome : RowsOutcome) (next : List Entry) : Type 0 where
    pub from : IsFrom (first_outcome low c id o) outcome
    pub holds : Holds start (with_stream c id o) next
    pub begins : StartsWith next p
    pub count : length next ≡ length p + total each (create_entry o id outcome)

  history_starts : (p : List Entry) (e : Entry) (result : Result Receipt StepFault) → StartsWith (history_after result p e) p
  history_starts p e (Ok receipt) = (e ∷ [], refl)
  history_starts p e (Err fault) = starts_refl p

  history_count : (p : List Entry) (e : Entry) (result : Result Receipt StepFault) → length (history_after result p e) ≡ length p + got result
  history_count p e (Ok receipt) = length-append p (e ∷ [])
  history_count p e (Err fault) = omega arith

  open_exact : (c : PlainStore) (p : List Entry) (id : ℕ) (o : Option ℕ) (outcome : RowsOutcome) (own : List ℕ) (next : List Entry) → Holds start c p → OutcomeHadMemory outcome → CreatesIfNew start log low p id o outcome own next → Opened c p id o outcome next
  open_exact c p id (Some stream) outcome own next holds memory opens = record {
    from = found_from low stream (spec_of low stream) outcome opens.0;
    holds = subst (Holds start c) (sym opens.1.next) holds;
    begins = subst (λ l. StartsWith l p) (sym opens.1.next) (starts_refl p);
    count = let long = ap (length {A = Entry}) opens.1.next in omega (arith, long);
  }
  open_exact c p id None outcome own next holds memory opens =
      let e = Create id in
      let result = opens.0 in
      let here = committed_plain start log ran c p e result own next holds (λ want. subst OutcomeHadMemory (subst (λ r. OutcomeOfCreated r outcome) want opens.2) memory) opens.1 in
      let after = next_is start log p e result own next opens.1 in
      record {
        from = created_from (take_result c e) result outcome here.0 opens.2;
        holds = here.1;
        begins = subst (λ l. StartsWith l p) (sym after) (history_starts p e result);
        count =
            let long = ap (length {A = Entry}) after in
            let grown = history_count p e result in
            let made = created_count id result outcome opens.2 in
            omega (arith, long, grown, made);
      }

  -- What all creates leave.
  record AllOpened (c : PlainStore) (p : List Entry) (batch : ℕ) (rows : List StreamValue) (streams : List LoadedStream) (last : List Entry) : Type 0 where
    pub from : AreFrom batch rows (first_outcomes low c rows) streams
    pub holds : Holds start (with_streams low c rows) last
    pub begins : StartsWith last p
    pub count : length last ≡ length p + total each (create_entries low streams)

  all_open_exact : (c : PlainStore) (p : List Entry) (batch : ℕ) (rows : List StreamValue) (streams : List LoadedStream) (own : List ℕ) (last : List Entry) → Holds start c p → AllByRecursion (λ s. OutcomeHadMemory s.outcome) streams → CreatesEach start log low p batch rows streams own last → AllOpened c p batch rows streams last
  all_open_exact c p batch [] [] own last holds memory opens = record {
    from = tt;
    holds = subst (Holds start c) (sym opens.next) holds;
    begins = subst (λ l. StartsWith l p) (sym opens.next) (starts_refl p);
    count = let long = ap (length {A = Entry}) opens.next in omega (arith, long);
  }
  all_open_exact c p batch [] (s ∷ streams) own last holds memory opens = absurd opens
  all_open_exact c p batch (r ∷ rows) [] own last holds memory opens = absurd opens
  all_open_exact c p batch (r ∷ rows) (s ∷ streams) own last holds memory opens =
      let next = opens.4 in
      let here = open_exact c p r.id (stream_of low r.id) s.outcome opens.2 next holds memory.0 opens.6 in
      let more = all_open_exact (with_stream c r.id (stream_of low r.id)) next batch rows streams opens.3 last here.holds memory.1 opens.7 in
      let both = total_append each (create_entry (stream_of low s.rows.id) s.rows.id s.outcome) (create_entries low streams) in
      let same : total each (create_entry (stream_of low s.rows.id) s.rows.id s.outcome) ≡ total each (create_entry (stream_of low r.id) r.id s.outcome) =
      ap (λ (v : StreamValue). total each (create_entry (stream_of low v.id) v.id s.outcome)) opens.0 in
      record {
        from = (opens.0, opens.1, here.from, more.from);
        holds = more.holds;
        begins = starts_trans last next p more.begins here.begins;
        count =
            let first = here.count in
            let rest = more.count in
            omega (arith, first, rest, both, same);
      }

-- ---- the law

pub loads_in_order : LoadsInOrder
loads_in_order start log rows batch reported numbers ran mine turn memory =
    let low = start.history in
    let first = first_store start in
    let streams = reported.streams in
    let loads = turn.loads in
    let opened = all_open_exact start log ran low first low batch rows.streams streams loads.created loads.middle (first_holds start) memory loads.opens in
    let begins = starts_trans log.history loads.middle low loads.begins opened.begins in
    let since = begins.0 in
    let sum : total each since ≡ total each (create_entries low streams ++ batch_entries streams) =
    sym (entries_sum each log.history low since (one (is_some log.failed)) numbers begins.1 mine)
    ∙ load_sum each start log low rows batch reported numbers loads in
    let both = total_append each (create_entries low streams) (batch_entries streams) in
    let grown : length log.history ≡ length low + length since = ap (length {A = Entry}) begins.1 ∙ length-append low since in
    let count = opened.count in
    let long = each_long since in
    let exact = outcomes_exact start log loads.middle (with_streams low first rows.streams) batch rows.streams (first_outcomes low first rows.streams) streams loads.committed ran opened.from turn.in_turn opened.holds (omega (arith, sum, both, grown, count, long)) memory in
    record { history = sym exact.1.same; outcomes = exact.0 }
