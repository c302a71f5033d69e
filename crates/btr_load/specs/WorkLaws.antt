-- The laws of what a stream's job did: it is true for ever, and also of a job that had seen less.
use Rattle.std.specs.Prelude.{ℕ, List, [], ◌∷◌, Result}
use Rattle.std.proofs.Common.{refl, sym, subst, inl, inr}
use Rattle.btr_hist.specs.declared.entry.Entry.{Entry}
use Rattle.btr_rows.specs.declared.row.NumberedPoint.{NumberedPoint}
use Rattle.btr_streams.specs.declared.board.Receipt.{Receipt}
use Rattle.btr_engine.specs.declared.step.StepFault.{StepFault}
use Rattle.btr_gate.specs.Prefixes.{StartsWith}
use Rattle.btr_gate.proofs.PrefixLemmas.{starts_refl}
use Rattle.btr_jobs.specs.States.{StoreState, LogState, GoesOn}
use Rattle.btr_jobs.specs.TurnLaws.{committed_lasts, committed_lowers}
use Rattle.btr_load.specs.declared.outcome.RowsOutcome.{RowsOutcome}
use Rattle.btr_load.specs.declared.outcome.RowsOutcome.TheVariants.{Output, NotCreated, Committed}
use Rattle.btr_load.specs.declared.stream.LoadedStream.{LoadedStream}
use Rattle.btr_load.specs.Batches.{batches_of, batch_entry}
use Rattle.btr_load.specs.Work.{BatchDid, BatchesDid, OutcomeWorks, CommitsStream}

-- ---- for ever

pub batch_lasts : (start : StoreState) (late early : LogState) (low : List Entry) (e : Entry) (result : Result Receipt StepFault)
    (own : List ℕ) (next : List Entry) → GoesOn start late early → BatchDid start early low e result own next
    → BatchDid start late low e result own next
batch_lasts start late early low e result own next on (inl turn) = inl (committed_lasts start late early low e result own next on turn)
batch_lasts start late early low e result own next on (inr none) = inr none

pub batches_last : (start : StoreState) (late early : LogState) (low : List Entry) (stream : ℕ) (batches : List (List NumberedPoint))
    (results : List (Result Receipt StepFault)) (own : List ℕ) (last : List Entry) → GoesOn start late early
    → BatchesDid start early low stream batches results own last → BatchesDid start late low stream batches results own last
batches_last start late early low stream [] [] own last on did = did
batches_last start late early low stream [] (result ∷ results) own last on did = absurd did
batches_last start late early low stream (batch ∷ batches) [] own last on did = absurd did
batches_last start late early low stream (batch ∷ batches) (result ∷ results) own last on did = (
  did.0,
  did.1,
  did.2,
  did.3,
  batch_lasts start late early low (batch_entry stream batch) result did.0 did.2 on did.4,
  batches_last start late early did.2 stream batches results did.1 last on did.5,
)

outcome_lasts : (start : StoreState) (late early : LogState) (low : List Entry) (batches : List (List NumberedPoint))
    (was now : RowsOutcome) (own : List ℕ) → GoesOn start late early → OutcomeWorks start early low batches was now own
    → OutcomeWorks start late low batches was now own
outcome_lasts start late early low batches Output now own on did = did
outcome_lasts start late early low batches (NotCreated fault) now own on did = did
outcome_lasts start late early low batches (Committed stream blank version) now own on did =
    (did.0, did.1, did.2, batches_last start late early low stream batches did.0 own did.1 on did.3)

pub works_lasts : (start : StoreState) (late early : LogState) (low : List Entry) (was now : LoadedStream) (own : List ℕ)
    → GoesOn start late early → CommitsStream start early low was now own → CommitsStream start late low was now own
works_lasts start late early low was now own on did = record {
  rows = did.rows;
  batch = did.batch;
  outcome = λ ready.
      outcome_lasts start late early low (batches_of was.batch was.rows.points) was.outcome now.outcome own on (did.outcome ready);
}

-- ---- after less had been seen

-- A batch without a turn had seen no more than what was seen before it.
pub batch_lowers : (start : StoreState) (log : LogState) (low less : List Entry) (e : Entry) (result : Result Receipt StepFault)
    (own : List ℕ) (next : List Entry) → StartsWith low less → BatchDid start log low e result own next
    → (then : List Entry) × StartsWith next then × BatchDid start log less e result own then
batch_lowers start log low less e result own next starts (inl turn) =
    (next, starts_refl next, inl (committed_lowers start log low less e result own next starts turn))
batch_lowers start log low less e result own next starts (inr none) =
    (less, subst (λ l. StartsWith l less) (sym none.1.next) starts, inr (none.0, record { own = none.1.own; next = refl }))

pub batches_lower : (start : StoreState) (log : LogState) (low less : List Entry) (stream : ℕ) (batches : List (List NumberedPoint))
    (results : List (Result Receipt StepFault)) (own : List ℕ) (last : List Entry) → StartsWith low less
    → BatchesDid start log low stream batches results own last
    → (then : List Entry) × BatchesDid start log less stream batches results own then
batches_lower start log low less stream [] [] own last starts did = (less, record { own = did.own; next = refl })
batches_lower start log low less stream [] (result ∷ results) own last starts did = absurd did
batches_lower start log low less stream (batch ∷ batches) [] own last starts did = absurd did
batches_lower start log low less stream (batch ∷ batches) (result ∷ results) own last starts did =
    let one = batch_lowers start log low less (batch_entry stream batch) result did.0 did.2 starts did.4 in
    let more = batches_lower start log did.2 one.0 stream batches results did.1 last one.1 did.5 in
    (more.0, (did.0, did.1, one.0, did.3, one.2, more.1))

outcome_lowers : (start : StoreState) (log : LogState) (low less : List Entry) (batches : List (List NumberedPoint)) (was now : RowsOutcome)
    (own : List ℕ) → StartsWith low less → OutcomeWorks start log low batches was now own
    → OutcomeWorks start log less batches was now own
outcome_lowers start log low less batches Output now own starts did = did
outcome_lowers start log low less batches (NotCreated fault) now own starts did = did
outcome_lowers start log low less batches (Committed stream blank version) now own starts did =
    let more = batches_lower start log low less stream batches did.0 own did.1 starts did.3 in
    (did.0, more.0, did.2, more.1)

pub works_lowers : (start : StoreState) (log : LogState) (low less : List Entry) (was now : LoadedStream) (own : List ℕ)
    → StartsWith low less → CommitsStream start log low was now own → CommitsStream start log less was now own
works_lowers start log low less was now own starts did = record {
  rows = did.rows;
  batch = did.batch;
  outcome = λ ready.
      outcome_lowers start log low less (batches_of was.batch was.rows.points) was.outcome now.outcome own starts (did.outcome ready);
}
