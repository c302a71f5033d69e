-- Lemmas on the history after a load: the accepted batches are there, each stream has its number, and its latest version is the last one.
use Rattle.std.specs.Prelude.{◌≡◌, ◌≢◌, ℕ, ◌+◌, ◌-◌, ◌<◌, ◌≤◌, nat_eq, Bool, true, false, List, [], ◌∷◌, ◌++◌, length, map, cond, slice_get}
use Rattle.std.specs.Prelude.{Option, Some, None, Result, Ok, Err}
use Rattle.std.specs.List.{AllByRecursion, cons_option, position_from}
use Rattle.std.specs.Option.{is_some}
use Rattle.std.proofs.Common.{suc, refl, sym, ap, ◌∙◌, subst, arith, inl, inr, append_assoc, length-append}
use Rattle.std.proofs.lemmas.List.{map-append}
use Rattle.std.proofs.lemmas.Bool.{eq-eqb, ne_eqb, eqb-true}
use Rattle.btr_base.specs.Bag.{sort}
use Rattle.btr_base.specs.Commit.{Change}
use Rattle.btr_base.proofs.ListLemmas.{get-append}
use Rattle.btr_hist.specs.declared.entry.Entry.{Entry}
use Rattle.btr_hist.specs.declared.entry.Entry.TheVariants as entries
use Rattle.btr_hist.specs.declared.kernel.Spec.{Spec}
use Rattle.btr_hist.specs.History.{ids, stream_of, spec_of, commits, change_of}
use Rattle.btr_hist.specs.History as history
use Rattle.btr_hist.specs.Legal.{Follows}
use Rattle.btr_hist.proofs.HistoryLemmas.{ids-append, latest-append, unknown}
use Rattle.btr_rows.specs.declared.row.NumberedPoint.{NumberedPoint}
use Rattle.btr_rows.specs.Streams.{StreamValue, RowListValue}
use Rattle.btr_streams.specs.declared.board.Receipt.{Receipt}
use Rattle.btr_engine.specs.declared.step.StepFault.{StepFault}
use Rattle.btr_engine.specs.Step.{history_after}
use Rattle.btr_gate.specs.Numbers.{one, total, times}
use Rattle.btr_gate.specs.Prefixes.{StartsWith}
use Rattle.btr_gate.proofs.NumberLemmas.{one_same, times_append}
use Rattle.btr_gate.proofs.PrefixLemmas.{starts_refl, starts_trans}
use Rattle.btr_jobs.specs.States.{StoreState, LogState}
use Rattle.btr_jobs.specs.Turns as turns
use Rattle.btr_load.specs.declared.outcome.RowsOutcome.{RowsOutcome}
use Rattle.btr_load.specs.declared.outcome.RowsOutcome.TheVariants.{Output, NotCreated, Committed}
use Rattle.btr_load.specs.declared.stream.LoadedStream.{LoadedStream}
use Rattle.btr_load.specs.Batches.{batches_of, batch_entry, last_version}
use Rattle.btr_load.specs.Work.{BatchDid, BatchesDid, OutcomeDid, StreamsDid}
use Rattle.btr_load.specs.Loads.{LoadedValue, IsCommittedTo, OutcomeOfFound, OutcomeOfCreated, CreatesIfNew, CreatesEach, Loads}
use Rattle.btr_load.specs.There.{accepted, outcome_entries, batch_entries, create_entry, create_entries, HasSame, OnlyOwn, AreDistinct}
use Rattle.btr_load.specs.There.{AreAt, OutcomeIsThere, StreamIsThere, BatchesAreThere}
use Rattle.btr_load.proofs.TotalLemmas.{total_append, get_middle, entries_sum}
use Rattle.btr_load.proofs.SumLemmas.{load_sum}
use Rattle.btr_load.proofs.BatchLemmas.{did_long}
use Rattle.btr_load.proofs.CreateLemmas.{next_is}

-- ---- commits of a stream

-- 1 for a commit of the stream, 0 for another entry.
abbrev pub commit_of : ℕ → Entry → ℕ
commit_of stream e = one (is_some (change_of stream e))

pub latest_total : (h : List Entry) (stream : ℕ) → history.latest h stream ≡ total (commit_of stream) h
latest_total [] stream = refl
latest_total (e ∷ h) stream =
    let rest = latest_total h stream in
    elim (change_of stream e) as (λ (o : Option Change). length (cons_option o (commits h stream)) ≡ one (is_some o) + total (commit_of stream) h) [
      | None ↦ omega (arith, rest)
      | Some c ↦ omega (arith, rest)
    ]

-- A longer history has no fewer versions.
pub latest_grows : (h k : List Entry) (stream : ℕ) → StartsWith h k → history.latest k stream ≤ history.latest h stream
latest_grows h k stream starts =
    let all : history.latest h stream ≡ history.latest k stream + history.latest starts.0 stream =
    ap (λ l. history.latest l stream) starts.1 ∙ latest-append k starts.0 stream in
    omega (arith, all)

batch_commits : (stream : ℕ) (batch : List NumberedPoint) → commit_of stream (batch_entry stream batch) ≡ 1
batch_commits stream batch =
    let c : Change = record { cut = []; added = sort (map (λ b. b.point) batch) } in
    ap {A = Bool} (λ t. one (is_some {T = Change} (cond t (Some c) None))) (eq-eqb stream stream refl)

batch_commits_other : (stream other : ℕ) (batch : List NumberedPoint) → (other ≢ stream) → commit_of stream (batch_entry other batch) ≡ 0
batch_commits_other stream other batch ne =
    let c : Change = record { cut = []; added = sort (map (λ b. b.point) batch) } in
    ap {A = Bool} (λ t. one (is_some {T = Change} (cond t (Some c) None))) (ne_eqb other stream ne)

pub latest_push : (p : List Entry) (stream : ℕ) (batch : List NumberedPoint) → history.latest (p ++ batch_entry stream batch ∷ []) stream ≡ history.latest p stream + 1
latest_push p stream batch =
    let all = latest-append p (batch_entry stream batch ∷ []) stream in
    let last = latest_total (batch_entry stream batch ∷ []) stream in
    omega (arith, all, last, batch_commits stream batch)

-- How many batches were accepted.
abbrev pub accepted_count : List (Result Receipt StepFault) → ℕ
accepted_count [] = 0
accepted_count (Ok receipt ∷ results) = suc (accepted_count results)
accepted_count (Err fault ∷ results) = accepted_count results

-- ---- the batches of a stream

module _ (start : StoreState) (log : LogState) (stream : ℕ) where
  -- What the turn of a batch that was accepted says: what it had seen has happened, the version is the latest one in `next`, and there
  -- is one version more than before.
  record Accepted (low next : List Entry) (batch : List NumberedPoint) (receipt : Receipt) : Type 0 where
    pub seen : StartsWith log.history next
    pub there : (0 < receipt.number) × (slice_get log.history (receipt.number - 1) ≡ Some (batch_entry stream batch))
    pub version : receipt.version ≡ history.latest next stream
    pub more : history.latest low stream + 1 ≤ history.latest next stream

  batch_accepted : (low : List Entry) (batch : List NumberedPoint) (receipt : Receipt) (own : List ℕ) (next : List Entry) → BatchDid start log low (batch_entry stream batch) (Ok receipt) own next → Accepted low next batch receipt
  batch_accepted low batch receipt own next (inr none) = absurd (cc (none.0))
  batch_accepted low batch receipt own next (inl turn) =
      let p = turn.0 in
      let e = batch_entry stream batch in
      let reported = turn.3.1 in
      let added = turn.3.2 in
      let number : receipt.number ≡ length p + 1 = reported.number in
      let split : log.history ≡ p ++ e ∷ added.follows.0 = added.follows.1 ∙ append_assoc p (e ∷ []) added.follows.0 in
      let here : history.latest next stream ≡ history.latest p stream + 1 = ap (λ l. history.latest l stream) added.next ∙ latest_push p stream batch in
      record {
        seen = subst (StartsWith log.history) (sym added.next) added.follows;
        there = (omega (arith, number), ap (λ k. slice_get k (receipt.number - 1)) split ∙ get_middle p added.follows.0 e (receipt.number - 1) (omega (arith, number)));
        version = reported.version ∙ sym here;
        more = omega (arith, here, latest_grows p low stream turn.1);
      }

  refused_next : (p : List Entry) (e : Entry) (fault : StepFault) (own : List ℕ) (next : List Entry) → turns.Committed start log p e (Err fault) own next → next ≡ p
  refused_next p e fault own next is = next_is start log p e (Err fault) own next is

  -- What the turn of a batch that was refused says.
  record Refused (low next : List Entry) : Type 0 where
    pub seen : StartsWith log.history next
    pub more : history.latest low stream ≤ history.latest next stream

  batch_refused : (low : List Entry) (batch : List NumberedPoint) (fault : StepFault) (own : List ℕ) (next : List Entry) → StartsWith log.history low → BatchDid start log low (batch_entry stream batch) (Err fault) own next → Refused low next
  batch_refused low batch fault own next starts (inr none) = record {
    seen = subst (StartsWith log.history) (sym none.1.next) starts;
    more = let same = ap (λ l. history.latest l stream) none.1.next in omega (arith, same);
  }
  batch_refused low batch fault own next starts (inl turn) =
      let same = refused_next turn.0 (batch_entry stream batch) fault own next turn.3 in
      record {
        seen = subst (StartsWith log.history) (sym same) turn.2;
        more = let here = ap (λ l. history.latest l stream) same in omega (arith, here, latest_grows turn.0 low stream turn.1);
      }

  -- The accepted batches are there.
  are_at : (low : List Entry) (batches : List (List NumberedPoint)) (results : List (Result Receipt StepFault)) (own : List ℕ) (last : List Entry) → StartsWith log.history low → BatchesDid start log low stream batches results own last → AreAt log.history stream batches results
  are_at low [] results own last starts did = tt
  are_at low (batch ∷ batches) [] own last starts did = tt
  are_at low (batch ∷ batches) (Ok receipt ∷ results) own last starts did =
      let one = batch_accepted low batch receipt did.0 did.2 did.4 in
      (one.there.0, one.there.1, are_at did.2 batches results did.1 last one.seen did.5)
  are_at low (batch ∷ batches) (Err fault ∷ results) own last starts did =
      are_at did.2 batches results did.1 last (batch_refused low batch fault did.0 did.2 starts did.4).seen did.5

  -- The history has a version for each of them.
  pub versions_least : (low : List Entry) (batches : List (List NumberedPoint)) (results : List (Result Receipt StepFault)) (own : List ℕ) (last : List Entry) → StartsWith log.history low → BatchesDid start log low stream batches results own last → history.latest low stream + accepted_count results ≤ history.latest log.history stream
  versions_least low [] [] own last starts did = let grows = latest_grows log.history low stream starts in omega (arith, grows)
  versions_least low [] (result ∷ results) own last starts did = absurd did
  versions_least low (batch ∷ batches) [] own last starts did = absurd did
  versions_least low (batch ∷ batches) (Ok receipt ∷ results) own last starts did =
      let one = batch_accepted low batch receipt did.0 did.2 did.4 in
      let rest = versions_least did.2 batches results did.1 last one.seen did.5 in
      let more = one.more in
      omega (arith, rest, more)
  versions_least low (batch ∷ batches) (Err fault ∷ results) own last starts did =
      let one = batch_refused low batch fault did.0 did.2 starts did.4 in
      let rest = versions_least did.2 batches results did.1 last one.seen did.5 in
      let more = one.more in
      omega (arith, rest, more)

  -- If it has no more, the version of the last one is the latest.
  version_last : (low : List Entry) (version : ℕ) (batches : List (List NumberedPoint)) (results : List (Result Receipt StepFault)) (own : List ℕ) (last : List Entry) → StartsWith log.history low → version ≡ history.latest low stream → history.latest log.history stream ≤ history.latest low stream + accepted_count results → BatchesDid start log low stream batches results own last → last_version version results ≡ history.latest log.history stream
  version_last low version [] [] own last starts is most did =
      let least = versions_least low [] [] own last starts did in omega (arith, least, is, most)
  version_last low version [] (result ∷ results) own last starts is most did = absurd did
  version_last low version (batch ∷ batches) [] own last starts is most did = absurd did
  version_last low version (batch ∷ batches) (Ok receipt ∷ results) own last starts is most did =
      let one = batch_accepted low batch receipt did.0 did.2 did.4 in
      let rest = versions_least did.2 batches results did.1 last one.seen did.5 in
      let more = one.more in
      version_last did.2 receipt.version batches results did.1 last one.seen one.version (omega (arith, more, most)) did.5
  version_last low version (batch ∷ batches) (Err fault ∷ results) own last starts is most did =
      let one = batch_refused low batch fault did.0 did.2 starts did.4 in
      let rest = versions_least did.2 batches results did.1 last one.seen did.5 in
      let more = one.more in
      version_last did.2 version batches results did.1 last one.seen (omega (arith, rest, more, most, is)) (omega (arith, more, most)) did.5

-- How many commits of a stream the accepted batches are.
pub accepted_own : (stream : ℕ) (batches : List (List NumberedPoint)) (results : List (Result Receipt StepFault)) → length batches ≡ length results → total (commit_of stream) (accepted stream batches results) ≡ accepted_count results
accepted_own stream [] [] long = refl
accepted_own stream [] (result ∷ results) long = absurd (omega arith)
accepted_own stream (batch ∷ batches) [] long = absurd (omega arith)
accepted_own stream (batch ∷ batches) (Ok receipt ∷ results) long =
    let rest = accepted_own stream batches results (omega arith) in
    omega (arith, rest, batch_commits stream batch)
accepted_own stream (batch ∷ batches) (Err fault ∷ results) long = accepted_own stream batches results (omega arith)

pub accepted_other : (stream other : ℕ) (batches : List (List NumberedPoint)) (results : List (Result Receipt StepFault)) → (other ≢ stream) → total (commit_of stream) (accepted other batches results) ≡ 0
accepted_other stream other [] results ne = refl
accepted_other stream other (batch ∷ batches) [] ne = refl
accepted_other stream other (batch ∷ batches) (Ok receipt ∷ results) ne =
    let rest = accepted_other stream other batches results ne in
    omega (arith, rest, batch_commits_other stream other batch ne)
accepted_other stream other (batch ∷ batches) (Err fault ∷ results) ne = accepted_other stream other batches results ne

-- ---- the numbers of the streams

-- The stream of the rows has this id, and the load began with its latest version.
abbrev pub OutcomeIsNamed : List Entry → List Entry → ℕ → RowsOutcome → Type 0
OutcomeIsNamed low mid id Output = Unit {0}
OutcomeIsNamed low mid id (NotCreated fault) = Unit {0}
OutcomeIsNamed low mid id (Committed stream results latest) =
    (slice_get (ids mid) stream ≡ Some id) × (latest ≡ last_version (history.latest low stream) results)

abbrev pub IsNamed : List Entry → List Entry → LoadedStream → Type 0
IsNamed low mid s = OutcomeIsNamed low mid s.rows.id s.outcome

-- The id of a stream stays.
id_stays : (late early : List Entry) (stream id : ℕ) → StartsWith late early → slice_get (ids early) stream ≡ Some id → slice_get (ids late) stream ≡ Some id
id_stays late early stream id starts is =
    let all : ids late ≡ ids early ++ ids starts.0 = ap ids starts.1 ∙ ids-append early starts.0 in
    subst (λ l. slice_get l stream ≡ Some id) (sym all) (get-append (ids early) (ids starts.0) stream id is)

named_stays : (low late early : List Entry) (id : ℕ) (outcome : RowsOutcome) → StartsWith late early → OutcomeIsNamed low early id outcome → OutcomeIsNamed low late id outcome
named_stays low late early id Output starts named = named
named_stays low late early id (NotCreated fault) starts named = named
named_stays low late early id (Committed stream results latest) starts named = (id_stays late early stream id starts named.0, named.1)

found_id : (id at : ℕ) (xs : List ℕ) (n : ℕ) → position_from (nat_eq id) at xs ≡ Some n → (at ≤ n) × (slice_get xs (n - at) ≡ Some id)
found_id id at [] n is = absurd (cc)
found_id id at (x ∷ xs) n is =
    elim (nat_eq id x) as (λ t. nat_eq id x ≡ t → cond t (Some at) (position_from (nat_eq id) (at + 1) xs) ≡ Some n → (at ≤ n) × (slice_get (x ∷ xs) (n - at) ≡ Some id)) [
      | true ↦ λ e here.
          let same : at ≡ n = cc in
          let none : n - at ≡ 0 = omega arith in
          (omega arith, ap (slice_get (x ∷ xs)) none ∙ ap (λ k. Some k) (sym (eqb-true id x e)))
      | false ↦ λ e later.
          let rest = found_id id (at + 1) xs n later in
          let next : n - at ≡ suc (n - (at + 1)) = let low = rest.0 in omega arith in
          (let low = rest.0 in omega arith, ap (slice_get (x ∷ xs)) next ∙ rest.1)
    ] refl is

to_named : (low mid : List Entry) (id stream version : ℕ) (outcome : RowsOutcome) → slice_get (ids mid) stream ≡ Some id → version ≡ history.latest low stream → IsCommittedTo stream version outcome → OutcomeIsNamed low mid id outcome
to_named low mid id stream version Output is same to = tt
to_named low mid id stream version (NotCreated fault) is same to = tt
to_named low mid id stream version (Committed of results latest) is same to =
    (ap (slice_get (ids mid)) to.0 ∙ is, to.1 ∙ ap (λ v. last_version v results) (same ∙ ap (history.latest low) (sym to.0)))

output_named : (low mid : List Entry) (id : ℕ) (outcome : RowsOutcome) → outcome ≡ Output → OutcomeIsNamed low mid id outcome
output_named low mid id outcome is = subst (OutcomeIsNamed low mid id) (sym is) tt

found_named : (low mid : List Entry) (id stream : ℕ) (o : Option Spec) (outcome : RowsOutcome) → slice_get (ids mid) stream ≡ Some id → OutcomeOfFound low stream o outcome → OutcomeIsNamed low mid id outcome
found_named low mid id stream None outcome is to = to_named low mid id stream (history.latest low stream) outcome is refl to
found_named low mid id stream (Some spec) outcome is out = output_named low mid id outcome out

refused_named : (low mid : List Entry) (id : ℕ) (outcome : RowsOutcome) (fault : StepFault) → outcome ≡ NotCreated fault → OutcomeIsNamed low mid id outcome
refused_named low mid id outcome fault is = subst (OutcomeIsNamed low mid id) (sym is) tt

after_starts : (result : Result Receipt StepFault) (p : List Entry) (e : Entry) → StartsWith (history_after result p e) p
after_starts (Ok receipt) p e = (e ∷ [], refl)
after_starts (Err fault) p e = starts_refl p

module _ (start : StoreState) (log : LogState) (low : List Entry) (follows : Follows low) where
  -- The history after a create begins with the one before.
  pub opens_grows : (p : List Entry) (id : ℕ) (o : Option ℕ) (outcome : RowsOutcome) (own : List ℕ) (next : List Entry) → CreatesIfNew start log low p id o outcome own next → StartsWith next p
  opens_grows p id (Some stream) outcome own next opens = subst (λ l. StartsWith l p) (sym opens.1.next) (starts_refl p)
  opens_grows p id None outcome own next opens =
      subst (λ l. StartsWith l p) (sym (next_is start log p (entries.Create id) opens.0 own next opens.1)) (after_starts opens.0 p (entries.Create id))

  pub all_open_grow : (p : List Entry) (batch : ℕ) (rows : List StreamValue) (streams : List LoadedStream) (own : List ℕ) (last : List Entry) → CreatesEach start log low p batch rows streams own last → StartsWith last p
  all_open_grow p batch [] [] own last opens = subst (λ l. StartsWith l p) (sym opens.next) (starts_refl p)
  all_open_grow p batch [] (s ∷ streams) own last opens = absurd opens
  all_open_grow p batch (r ∷ rows) [] own last opens = absurd opens
  all_open_grow p batch (r ∷ rows) (s ∷ streams) own last opens =
      starts_trans last opens.4 p (all_open_grow opens.4 batch rows streams opens.3 last opens.7) (opens_grows p r.id (stream_of low r.id) s.outcome opens.2 opens.4 opens.6)

  created_named : (p : List Entry) (id : ℕ) (result : Result Receipt StepFault) (outcome : RowsOutcome) (own : List ℕ) (next : List Entry) → StartsWith p low → turns.Committed start log p (entries.Create id) result own next → OutcomeOfCreated result outcome → OutcomeIsNamed low next id outcome
  created_named p id (Err fault) outcome own next starts turn is = refused_named low next id outcome fault is
  created_named p id (Ok receipt) outcome own next starts turn is =
      let reported = turn.1.stream in
      let after : next ≡ p ++ entries.Create id ∷ [] = turn.2.next in
      let all : ids next ≡ ids p ++ id ∷ [] = ap ids after ∙ ids-append p (entries.Create id ∷ []) in
      let place : slice_get (ids next) receipt.stream ≡ Some id =
      ap (λ l. slice_get l receipt.stream) all ∙ get_middle (ids p) [] id receipt.stream reported in
      let long : length (ids p) ≡ length (ids low) + length (ids starts.0) =
      ap (length {A = ℕ}) (ap ids starts.1 ∙ ids-append low starts.0) ∙ length-append (ids low) (ids starts.0) in
      let none = unknown low receipt.stream follows (omega (arith, reported, long)) in
      to_named low next id receipt.stream 0 outcome place (sym none) is

  opens_named : (p : List Entry) (id : ℕ) (o : Option ℕ) (outcome : RowsOutcome) (own : List ℕ) (next : List Entry) → stream_of low id ≡ o → StartsWith p low → CreatesIfNew start log low p id o outcome own next → OutcomeIsNamed low next id outcome
  opens_named p id None outcome own next is starts opens = created_named p id opens.0 outcome own next starts opens.1 opens.2
  opens_named p id (Some stream) outcome own next is starts opens =
      let none : stream ≡ stream - 0 = omega arith in
      let here : slice_get (ids low) stream ≡ Some id = ap (slice_get (ids low)) none ∙ (found_id id 0 (ids low) stream is).1 in
      let there = id_stays next low stream id (subst (λ l. StartsWith l low) (sym opens.1.next) starts) here in
      found_named low next id stream (spec_of low stream) outcome there opens.0

  -- Each stream has the number of its id in the history after the creates.
  pub all_named : (p : List Entry) (batch : ℕ) (rows : List StreamValue) (streams : List LoadedStream) (own : List ℕ) (last : List Entry) → StartsWith p low → CreatesEach start log low p batch rows streams own last → AllByRecursion (IsNamed low last) streams
  all_named p batch [] [] own last starts opens = tt
  all_named p batch [] (s ∷ streams) own last starts opens = absurd opens
  all_named p batch (r ∷ rows) [] own last starts opens = absurd opens
  all_named p batch (r ∷ rows) (s ∷ streams) own last starts opens =
      let next = opens.4 in
      let one = opens_named p r.id (stream_of low r.id) s.outcome opens.2 next refl starts opens.6 in
      let grows = opens_grows p r.id (stream_of low r.id) s.outcome opens.2 next opens.6 in
      let later = all_open_grow next batch rows streams opens.3 last opens.7 in
      let id : r.id ≡ s.rows.id = sym (ap (λ (v : StreamValue). v.id) opens.0) in (
        subst (λ n. OutcomeIsNamed low last n s.outcome) id (named_stays low last next r.id s.outcome later one),
        all_named next batch rows streams opens.3 last (starts_trans next p low grows starts) opens.7,
      )

-- ---- each stream alone

-- The ids of the streams.
abbrev pub ids_in : List LoadedStream → List ℕ
ids_in streams = map (λ s. s.rows.id) streams

pub ids_are : (start : StoreState) (log : LogState) (low p : List Entry) (batch : ℕ) (rows : List StreamValue) (streams : List LoadedStream) (own : List ℕ) (last : List Entry) → CreatesEach start log low p batch rows streams own last → ids_in streams ≡ map (λ r. r.id) rows
ids_are start log low p batch [] [] own last opens = refl
ids_are start log low p batch [] (s ∷ streams) own last opens = absurd opens
ids_are start log low p batch (r ∷ rows) [] own last opens = absurd opens
ids_are start log low p batch (r ∷ rows) (s ∷ streams) own last opens =
    let rest = ids_are start log low opens.4 batch rows streams opens.3 last opens.7 in
    λ i. (opens.0 i).id ∷ rest i

create_none : (stream : ℕ) (o : Option ℕ) (id : ℕ) (outcome : RowsOutcome) → total (commit_of stream) (create_entry o id outcome) ≡ 0
create_none stream (Some n) id outcome = refl
create_none stream None id Output = refl
create_none stream None id (NotCreated fault) = refl
create_none stream None id (Committed n results latest) = refl

creates_none : (stream : ℕ) (low : List Entry) (streams : List LoadedStream) → total (commit_of stream) (create_entries low streams) ≡ 0
creates_none stream low [] = refl
creates_none stream low (s ∷ streams) =
    let both = total_append (commit_of stream) (create_entry (stream_of low s.rows.id) s.rows.id s.outcome) (create_entries low streams) in
    let rest = creates_none stream low streams in
    omega (arith, both, rest, create_none stream (stream_of low s.rows.id) s.rows.id s.outcome)

entries_append : (f : Entry → ℕ) (a b : List LoadedStream) → total f (batch_entries (a ++ b)) ≡ total f (batch_entries a) + total f (batch_entries b)
entries_append f [] b = omega arith
entries_append f (s ∷ a) b =
    let here = outcome_entries (batches_of s.batch s.rows.points) s.outcome in
    let rest = entries_append f a b in
    omega (arith, rest, total_append f here (batch_entries (a ++ b)), total_append f here (batch_entries a))

all_push : (P : LoadedStream → Type 0) (streams : List LoadedStream) (s : LoadedStream) → AllByRecursion P streams → P s → AllByRecursion P (streams ++ s ∷ [])
all_push P [] s all one = (one, tt)
all_push P (first ∷ streams) s all one = (all.0, all_push P streams s all.1 one)

module _ (low mid : List Entry) where
  -- The batches of another id are of another stream.
  outcome_absent : (id stream other : ℕ) (batches : List (List NumberedPoint)) (outcome : RowsOutcome) → slice_get (ids mid) stream ≡ Some id → other ≢ id → OutcomeIsNamed low mid other outcome → total (commit_of stream) (outcome_entries batches outcome) ≡ 0
  outcome_absent id stream other batches Output is ne named = refl
  outcome_absent id stream other batches (NotCreated fault) is ne named = refl
  outcome_absent id stream other batches (Committed n results latest) is ne named =
      accepted_other stream n batches results (λ e.
      let same : Some other ≡ Some id = sym named.0 ∙ ap (slice_get (ids mid)) e ∙ is in
      ne (cc))

  absent : (id stream : ℕ) (streams : List LoadedStream) → slice_get (ids mid) stream ≡ Some id → AllByRecursion (IsNamed low mid) streams → times id (ids_in streams) ≡ 0 → total (commit_of stream) (batch_entries streams) ≡ 0
  absent id stream [] is named none = refl
  absent id stream (s ∷ streams) is named none =
      let here = outcome_entries (batches_of s.batch s.rows.points) s.outcome in
      let one = outcome_absent id stream s.rows.id (batches_of s.batch s.rows.points) s.outcome is (λ e. let at = one_same s.rows.id id e in omega (arith, none, at)) named.0 in
      let rest = absent id stream streams is named.1 (omega (arith, none)) in
      omega (arith, one, rest, total_append (commit_of stream) here (batch_entries streams))

-- The versions of the stream of this id that were made since are those of these batches.
abbrev pub IsOnly : LogState → List Entry → List Entry → ℕ → List (List NumberedPoint) → RowsOutcome → Type 0
IsOnly log low mid id batches outcome =
    (stream : ℕ) → slice_get (ids mid) stream ≡ Some id
    → history.latest log.history stream ≡ history.latest low stream + total (commit_of stream) (outcome_entries batches outcome)

pub all_only : (log : LogState) (low mid : List Entry) (front back : List LoadedStream) → ((id : ℕ) → times id (ids_in (front ++ back)) ≤ 1) → ((stream : ℕ) → history.latest log.history stream ≡ history.latest low stream + total (commit_of stream) (batch_entries (front ++ back))) → AllByRecursion (IsNamed low mid) front → AllByRecursion (IsNamed low mid) back → AllByRecursion (λ s. IsOnly log low mid s.rows.id (batches_of s.batch s.rows.points) s.outcome) back
all_only log low mid front [] distinct count named_front named = tt
all_only log low mid front (s ∷ back) distinct count named_front named =
    let id = s.rows.id in
    let batches = batches_of s.batch s.rows.points in
    let once : times id (ids_in front) + (1 + times id (ids_in back)) ≤ 1 =
    let all : times id (ids_in (front ++ s ∷ back)) ≡ times id (ids_in front ++ id ∷ ids_in back) = ap (times id) (map-append (λ (x : LoadedStream). x.rows.id) front (s ∷ back)) in
    let both = times_append id (ids_in front) (id ∷ ids_in back) in
    let here = one_same id id refl in
    let most = distinct id in
    omega (arith, all, both, here, most) in
    let whole : front ++ s ∷ back ≡ (front ++ s ∷ []) ++ back = sym (append_assoc front (s ∷ []) back) in (
      (λ stream is.
          let all = count stream in
          let parts = entries_append (commit_of stream) front (s ∷ back) in
          let rest = total_append (commit_of stream) (outcome_entries batches s.outcome) (batch_entries back) in
          let before = absent low mid id stream front is named_front (omega (arith, once)) in
          let after = absent low mid id stream back is named.1 (omega (arith, once)) in
          omega (arith, all, parts, rest, before, after)),
      all_only log low mid (front ++ s ∷ []) back
          (subst (λ l. (id : ℕ) → times id (ids_in l) ≤ 1) whole distinct)
          (subst (λ l. (stream : ℕ) → history.latest log.history stream ≡ history.latest low stream + total (commit_of stream) (batch_entries l)) whole count)
          (all_push (IsNamed low mid) front s named_front named.0) named.1,
    )

module _ (start : StoreState) (log : LogState) (low mid : List Entry) (mid_low : StartsWith mid low) (begins : StartsWith log.history mid) where
  outcome_there : (id : ℕ) (batches : List (List NumberedPoint)) (outcome : RowsOutcome) (own : List ℕ) → OutcomeDid start log mid batches outcome own → OutcomeIsNamed low mid id outcome → IsOnly log low mid id batches outcome → OutcomeIsThere log.history batches outcome
  outcome_there id batches Output own did named alone = tt
  outcome_there id batches (NotCreated fault) own did named alone = tt
  outcome_there id batches (Committed stream results latest) own did named alone =
      let all = alone stream named.0 in
      let long = did_long start log mid stream batches results own did.0 did.1 in
      let count = accepted_own stream batches results long in
      let least = versions_least start log stream mid batches results own did.0 begins did.1 in
      let grows = latest_grows mid low stream mid_low in
      let last = version_last start log stream mid (history.latest low stream) batches results own did.0 begins (omega (arith, all, count, least, grows)) (omega (arith, all, count, least, grows)) did.1 in
      (are_at start log stream mid batches results own did.0 begins did.1, named.1 ∙ last)

  all_there : (streams : List LoadedStream) (own : List ℕ) → AllByRecursion (λ s. IsOnly log low mid s.rows.id (batches_of s.batch s.rows.points) s.outcome) streams → AllByRecursion (IsNamed low mid) streams → StreamsDid start log mid streams own → AllByRecursion (StreamIsThere log.history) streams
  all_there [] own only named did = tt
  all_there (s ∷ streams) own only named did = (
    outcome_there s.rows.id (batches_of s.batch s.rows.points) s.outcome did.0 did.2 named.0 only.0,
    all_there streams did.1 only.1 named.1 did.3,
  )

-- ---- the law

-- What both laws need of a load.
pub record IsSound (log : LogState) (low mid : List Entry) (streams : List LoadedStream) : Type 0 where
  pub mid_low : StartsWith mid low
  pub since : StartsWith log.history low
  pub same : HasSame since.0 (create_entries low streams ++ batch_entries streams)
  pub named : AllByRecursion (IsNamed low mid) streams
  pub once : (id : ℕ) → times id (ids_in streams) ≤ 1
  pub count : (stream : ℕ) → history.latest log.history stream ≡ history.latest low stream + total (commit_of stream) (batch_entries streams)
  pub only : AllByRecursion (λ s. IsOnly log low mid s.rows.id (batches_of s.batch s.rows.points) s.outcome) streams

pub load_sound : (start : StoreState) (log : LogState) (low : List Entry) (rows : RowListValue) (batch : ℕ) (loaded : LoadedValue) (numbers : List ℕ) → Follows low → AreDistinct rows.streams → OnlyOwn log low numbers → (loads : Loads start log low rows batch loaded numbers) → IsSound log low loads.middle loaded.streams
load_sound start log low rows batch loaded numbers follows distinct mine loads =
    let streams = loaded.streams in
    let grows = all_open_grow start log low follows low batch rows.streams streams loads.created loads.middle loads.opens in
    let begins = starts_trans log.history loads.middle low loads.begins grows in
    let same : HasSame begins.0 (create_entries low streams ++ batch_entries streams) = λ f.
    sym (entries_sum f log.history low begins.0 (one (is_some log.failed)) numbers begins.1 mine)
    ∙ load_sum f start log low rows batch loaded numbers loads in
    let named = all_named start log low follows low batch rows.streams streams loads.created loads.middle (starts_refl low) loads.opens in
    let ids_same = ids_are start log low low batch rows.streams streams loads.created loads.middle loads.opens in
    let once : (id : ℕ) → times id (ids_in streams) ≤ 1 = λ id. let all = ap (times id) ids_same in let most = distinct id in omega (arith, all, most) in
    let count : (stream : ℕ) → history.latest log.history stream ≡ history.latest low stream + total (commit_of stream) (batch_entries streams) = λ stream.
    let all : history.latest log.history stream ≡ history.latest low stream + history.latest begins.0 stream =
    ap (λ l. history.latest l stream) begins.1 ∙ latest-append low begins.0 stream in
    let part = latest_total begins.0 stream in
    let sum = same (commit_of stream) in
    let both = total_append (commit_of stream) (create_entries low streams) (batch_entries streams) in
    let none = creates_none stream low streams in
    omega (arith, all, part, sum, both, none) in
    record {
      mid_low = grows;
      since = begins;
      same = same;
      named = named;
      once = once;
      count = count;
      only = all_only log low loads.middle [] streams once count tt named;
    }

pub batches_there : BatchesAreThere
batches_there start log low rows batch loaded numbers follows distinct mine loads =
    let sound = load_sound start log low rows batch loaded numbers follows distinct mine loads in
    record {
      since = sound.since.0;
      begins = sound.since.1;
      same = sound.same;
      each = all_there start log low loads.middle sound.mid_low loads.begins loaded.streams loads.committed sound.only sound.named loads.commits;
    }
