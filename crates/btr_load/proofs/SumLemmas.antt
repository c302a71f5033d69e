-- Lemmas on the entries of a load: sums over them are those over the numbers of what the load added.
use Rattle.std.specs.Prelude.{◌≡◌, ℕ, ◌+◌, List, [], ◌∷◌, ◌++◌, length, Option, Some, None, Result, Ok, Err}
use Rattle.std.proofs.Common.{refl, sym, ap, ◌∙◌, subst, arith, inl, inr, append_assoc}
use Rattle.btr_hist.specs.declared.entry.Entry.{Entry}
use Rattle.btr_hist.specs.declared.entry.Entry.TheVariants.{Create}
use Rattle.btr_hist.specs.History.{stream_of}
use Rattle.btr_rows.specs.declared.row.NumberedPoint.{NumberedPoint}
use Rattle.btr_rows.specs.Streams.{StreamValue, RowListValue}
use Rattle.btr_streams.specs.declared.board.Receipt.{Receipt}
use Rattle.btr_engine.specs.declared.step.StepFault.{StepFault}
use Rattle.btr_engine.specs.declared.step.StepFault.TheVariants as steps
use Rattle.btr_gate.specs.Numbers.{total, times}
use Rattle.btr_gate.proofs.NumberLemmas.{times_append}
use Rattle.btr_jobs.specs.States.{StoreState, LogState}
use Rattle.btr_jobs.specs.Turns as turns
use Rattle.btr_load.specs.declared.outcome.RowsOutcome.{RowsOutcome}
use Rattle.btr_load.specs.declared.outcome.RowsOutcome.TheVariants.{Output, NotCreated, Committed}
use Rattle.btr_load.specs.declared.stream.LoadedStream.{LoadedStream}
use Rattle.btr_load.specs.Batches.{batches_of, batch_entry}
use Rattle.btr_load.specs.Work.{BatchDid, BatchesDid, OutcomeDid, StreamsDid}
use Rattle.btr_load.specs.Loads.{LoadedValue, OutcomeOfCreated, CreatesIfNew, CreatesEach, Loads}
use Rattle.btr_load.specs.There.{accepted, outcome_entries, batch_entries, create_entry, create_entries}
use Rattle.btr_load.proofs.TotalLemmas.{total_append, totals_alike, at_number, at_there, at_past}

-- The entry, if it was accepted.
abbrev entry_if : Result Receipt StepFault → Entry → List Entry
entry_if (Ok receipt) e = e ∷ []
entry_if (Err fault) e = []

-- The numbers of two lists together.
pub numbers_sum : (g : ℕ → ℕ) (own a b : List ℕ) → ((n : ℕ) → times n own ≡ times n a + times n b) → total g own ≡ total g a + total g b
numbers_sum g own a b sum = totals_alike g own (a ++ b) (λ n. sum n ∙ sym (times_append n a b)) ∙ total_append g a b

module _ (f : Entry → ℕ) (start : StoreState) (log : LogState) where
  -- The sum over numbers.
  abbrev pub sum_at : List ℕ → ℕ
  sum_at own = total (at_number f log.history) own

  none_sum : (own : List ℕ) → own ≡ [] → sum_at own ≡ 0
  none_sum own none = ap sum_at none

  one_sum : (own : List ℕ) (n k : ℕ) → own ≡ n ∷ [] → at_number f log.history n ≡ k → sum_at own ≡ k
  one_sum own n k is at = let all = ap sum_at is in omega (arith, all, at)

  committed_sum : (p : List Entry) (e : Entry) (result : Result Receipt StepFault) (own : List ℕ) (next : List Entry) → turns.Committed start log p e result own next → sum_at own ≡ total f (entry_if result e)
  committed_sum p e (Ok receipt) own next is =
      let added = is.2 in
      let split : log.history ≡ p ++ e ∷ added.follows.0 = added.follows.1 ∙ append_assoc p (e ∷ []) added.follows.0 in
      let here : at_number f log.history (length p + 1) ≡ f e =
      ap (λ k. at_number f k (length p + 1)) split ∙ at_there f p added.follows.0 e (length p + 1) refl in
      let all = one_sum own (length p + 1) (f e) added.own here in
      omega (arith, all)
  committed_sum p e (Err (steps.Stopped count)) own next is = none_sum own is.1.own
  committed_sum p e (Err steps.Sealed) own next is = none_sum own is.1.own
  committed_sum p e (Err (steps.Rejected why)) own next is = none_sum own is.1.own
  committed_sum p e (Err steps.Want) own next is = none_sum own is.1.own
  committed_sum p e (Err (steps.DeviceFull need left)) own next is = none_sum own is.2.own
  committed_sum p e (Err steps.DeviceFault) own next is =
      let failed = is.1 in
      let past = ap (λ k. at_number f k (length p + 1)) failed.last ∙ at_past f p (length p + 1) (omega arith) in
      one_sum own (length p + 1) 0 failed.own past

  batch_sum : (low : List Entry) (e : Entry) (result : Result Receipt StepFault) (own : List ℕ) (next : List Entry) → BatchDid start log low e result own next → sum_at own ≡ total f (entry_if result e)
  batch_sum low e result own next (inl turn) = committed_sum turn.0 e result own next turn.3
  batch_sum low e result own next (inr none) =
      none_sum own none.1.own ∙ sym (ap (λ r. total f (entry_if r e)) none.0)

  accepted_sum : (stream : ℕ) (batch : List NumberedPoint) (batches : List (List NumberedPoint)) (result : Result Receipt StepFault) (results : List (Result Receipt StepFault)) → total f (accepted stream (batch ∷ batches) (result ∷ results)) ≡ total f (entry_if result (batch_entry stream batch)) + total f (accepted stream batches results)
  accepted_sum stream batch batches (Ok receipt) results = omega arith
  accepted_sum stream batch batches (Err fault) results = omega arith

  batches_sum : (low : List Entry) (stream : ℕ) (batches : List (List NumberedPoint)) (results : List (Result Receipt StepFault)) (own : List ℕ) (last : List Entry) → BatchesDid start log low stream batches results own last → sum_at own ≡ total f (accepted stream batches results)
  batches_sum low stream [] [] own last did = none_sum own did.own
  batches_sum low stream [] (result ∷ results) own last did = absurd did
  batches_sum low stream (batch ∷ batches) [] own last did = absurd did
  batches_sum low stream (batch ∷ batches) (result ∷ results) own last did =
      let all : sum_at own ≡ sum_at did.0 + sum_at did.1 = ap sum_at did.3 ∙ total_append (at_number f log.history) did.0 did.1 in
      let one = batch_sum low (batch_entry stream batch) result did.0 did.2 did.4 in
      let more = batches_sum did.2 stream batches results did.1 last did.5 in
      let both = accepted_sum stream batch batches result results in
      omega (arith, all, one, more, both)

  outcome_sum : (low : List Entry) (batches : List (List NumberedPoint)) (outcome : RowsOutcome) (own : List ℕ) → OutcomeDid start log low batches outcome own → sum_at own ≡ total f (outcome_entries batches outcome)
  outcome_sum low batches Output own did = none_sum own did
  outcome_sum low batches (NotCreated fault) own did = none_sum own did
  outcome_sum low batches (Committed stream results latest) own did = batches_sum low stream batches results own did.0 did.1

  streams_sum : (low : List Entry) (streams : List LoadedStream) (own : List ℕ) → StreamsDid start log low streams own → sum_at own ≡ total f (batch_entries streams)
  streams_sum low [] own did = totals_alike (at_number f log.history) own [] did
  streams_sum low (s ∷ streams) own did =
      let all = numbers_sum (at_number f log.history) own did.0 did.1 did.4 in
      let one = outcome_sum low (batches_of s.batch s.rows.points) s.outcome did.0 did.2 in
      let more = streams_sum low streams did.1 did.3 in
      let both = total_append f (outcome_entries (batches_of s.batch s.rows.points) s.outcome) (batch_entries streams) in
      omega (arith, all, one, more, both)

  created_sum : (id : ℕ) (result : Result Receipt StepFault) (outcome : RowsOutcome) → OutcomeOfCreated result outcome → total f (entry_if result (Create id)) ≡ total f (create_entry None id outcome)
  created_sum id (Ok receipt) Output is = absurd is
  created_sum id (Ok receipt) (NotCreated fault) is = absurd is
  created_sum id (Ok receipt) (Committed stream results latest) is = refl
  created_sum id (Err fault) outcome is = sym (ap (λ x. total f (create_entry None id x)) is)

  opens_one_sum : (h p : List Entry) (id : ℕ) (o : Option ℕ) (outcome : RowsOutcome) (own : List ℕ) (next : List Entry) → CreatesIfNew start log h p id o outcome own next → sum_at own ≡ total f (create_entry o id outcome)
  opens_one_sum h p id (Some stream) outcome own next is = none_sum own is.1.own
  opens_one_sum h p id None outcome own next is =
      committed_sum p (Create id) is.0 own next is.1 ∙ created_sum id is.0 outcome is.2

  opens_sum : (h p : List Entry) (batch : ℕ) (rows : List StreamValue) (streams : List LoadedStream) (own : List ℕ) (last : List Entry) → CreatesEach start log h p batch rows streams own last → sum_at own ≡ total f (create_entries h streams)
  opens_sum h p batch [] [] own last is = none_sum own is.own
  opens_sum h p batch [] (s ∷ streams) own last is = absurd is
  opens_sum h p batch (r ∷ rows) [] own last is = absurd is
  opens_sum h p batch (r ∷ rows) (s ∷ streams) own last is =
      let all : sum_at own ≡ sum_at is.2 + sum_at is.3 = ap sum_at is.5 ∙ total_append (at_number f log.history) is.2 is.3 in
      let id : r.id ≡ s.rows.id = sym (ap (λ (v : StreamValue). v.id) is.0) in
      let one = opens_one_sum h p s.rows.id (stream_of h s.rows.id) s.outcome is.2 is.4
      (subst (λ n. CreatesIfNew start log h p n (stream_of h n) s.outcome is.2 is.4) id is.6) in
      let more = opens_sum h is.4 batch rows streams is.3 last is.7 in
      let both = total_append f (create_entry (stream_of h s.rows.id) s.rows.id s.outcome) (create_entries h streams) in
      omega (arith, all, one, more, both)

-- Sums over the numbers of a load are those over its entries.
pub load_sum : (f : Entry → ℕ) (start : StoreState) (log : LogState) (low : List Entry) (rows : RowListValue) (batch : ℕ) (loaded : LoadedValue) (numbers : List ℕ) → Loads start log low rows batch loaded numbers → total (at_number f log.history) numbers ≡ total f (create_entries low loaded.streams ++ batch_entries loaded.streams)
load_sum f start log low rows batch loaded numbers loads =
    let all = numbers_sum (at_number f log.history) numbers loads.created loads.committed loads.own in
    let creates = opens_sum f start log low low batch rows.streams loaded.streams loads.created loads.middle loads.opens in
    let batches = streams_sum f start log loads.middle loaded.streams loads.committed loads.commits in
    let both = total_append f (create_entries low loaded.streams) (batch_entries loaded.streams) in
    omega (arith, all, creates, batches, both)
