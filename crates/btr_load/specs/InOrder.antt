-- What one worker leaves on a device: the creates in order, and then stream by stream its batches in order. Each entry is added if the
-- model accepts it and blocks are left for it.
use Rattle.std.specs.Prelude.{◌≡◌, ℕ, List, [], ◌∷◌, map, Option, Some, None, Result, Err}
use Rattle.std.specs.List.{AllByRecursion}
use Rattle.btr_hist.specs.declared.entry.Entry.{Entry}
use Rattle.btr_hist.specs.declared.entry.Entry.TheVariants.{Create}
use Rattle.btr_hist.specs.declared.kernel.Spec.{Spec}
use Rattle.btr_hist.specs.History.{stream_of, spec_of, latest}
use Rattle.btr_rows.specs.Streams.{StreamValue, RowListValue}
use Rattle.btr_streams.specs.declared.board.Receipt.{Receipt}
use Rattle.btr_engine.specs.declared.step.StepFault.{StepFault}
use Rattle.btr_engine.specs.declared.step.StepFault.TheVariants as steps
use Rattle.btr_jobs.specs.States.{StoreState, LogState}
use Rattle.btr_jobs.specs.PlainStore.{PlainStore, TakeResult, take_result, store_after, result_of, first_store, RunsThrough}
use Rattle.btr_jobs.specs.PlainStore.TakeResult.{Taken, Rejected, Full}
use Rattle.btr_load.specs.declared.outcome.RowsOutcome.{RowsOutcome}
use Rattle.btr_load.specs.declared.outcome.RowsOutcome.TheVariants.{Output, NotCreated, Committed}
use Rattle.btr_load.specs.declared.stream.LoadedStream.{LoadedStream}
use Rattle.btr_load.specs.Batches.{batches_of, batch_entry, last_version}
use Rattle.btr_load.specs.Loads.{LoadedValue, LoadsInTurn}
use Rattle.btr_load.specs.There.{OnlyOwn}

-- ---- entries one after another

-- What the store has after entries.
abbrev pub store_after_all : PlainStore → List Entry → PlainStore
store_after_all c [] = c
store_after_all c (e ∷ more) = store_after_all (store_after c e) more

-- The result of each.
abbrev pub results_all : PlainStore → List Entry → List (Result Receipt StepFault)
results_all c [] = []
results_all c (e ∷ more) = result_of (take_result c e) ∷ results_all (store_after c e) more

-- ---- the creates

-- What the store has after the create of a stream with this id, if it is not there.
abbrev pub with_stream : PlainStore → ℕ → Option ℕ → PlainStore
with_stream c id (Some stream) = c
with_stream c id None = store_after c (Create id)

-- What it has after the creates of all streams of rows that the history `low` has not.
abbrev pub with_streams : List Entry → PlainStore → List StreamValue → PlainStore
with_streams low c [] = c
with_streams low c (r ∷ rows) = with_streams low (with_stream c r.id (stream_of low r.id)) rows

-- The outcome of rows before their first batch, if their stream was there.
abbrev pub found_outcome : List Entry → ℕ → Option Spec → RowsOutcome
found_outcome low stream None = Committed stream [] (latest low stream)
found_outcome low stream (Some spec) = Output

-- The same, if this became of the create of their stream.
abbrev pub created_outcome : TakeResult → RowsOutcome
created_outcome (Taken receipt) = Committed receipt.stream [] 0
created_outcome (Rejected why) = NotCreated (steps.Rejected why)
created_outcome (Full need left) = NotCreated (steps.DeviceFull need left)

abbrev pub first_outcome : List Entry → PlainStore → ℕ → Option ℕ → RowsOutcome
first_outcome low c id (Some stream) = found_outcome low stream (spec_of low stream)
first_outcome low c id None = created_outcome (take_result c (Create id))

-- The outcomes of all rows before the first batch, if the creates begin when the store has this.
abbrev pub first_outcomes : List Entry → PlainStore → List StreamValue → List RowsOutcome
first_outcomes low c [] = []
first_outcomes low c (r ∷ rows) =
    first_outcome low c r.id (stream_of low r.id) ∷ first_outcomes low (with_stream c r.id (stream_of low r.id)) rows

-- ---- the batches

-- The entries of the batches of rows.
abbrev pub row_entries : ℕ → ℕ → StreamValue → List Entry
row_entries stream batch r = map (batch_entry stream) (batches_of batch r.points)

-- What the store has after the batches of rows with this outcome.
abbrev pub with_batches : PlainStore → ℕ → StreamValue → RowsOutcome → PlainStore
with_batches c batch r Output = c
with_batches c batch r (NotCreated fault) = c
with_batches c batch r (Committed stream none version) = store_after_all c (row_entries stream batch r)

-- What it has after the batches of all rows, stream by stream.
abbrev pub with_rows : PlainStore → ℕ → List StreamValue → List RowsOutcome → PlainStore
with_rows c batch [] outcomes = c
with_rows c batch (r ∷ rows) [] = c
with_rows c batch (r ∷ rows) (outcome ∷ outcomes) = with_rows (with_batches c batch r outcome) batch rows outcomes

-- The outcome of rows after their batches.
abbrev pub last_outcome : PlainStore → ℕ → StreamValue → RowsOutcome → RowsOutcome
last_outcome c batch r Output = Output
last_outcome c batch r (NotCreated fault) = NotCreated fault
last_outcome c batch r (Committed stream none version) =
    Committed stream (results_all c (row_entries stream batch r)) (last_version version (results_all c (row_entries stream batch r)))

abbrev pub last_outcomes : PlainStore → ℕ → List StreamValue → List RowsOutcome → List RowsOutcome
last_outcomes c batch [] outcomes = []
last_outcomes c batch (r ∷ rows) [] = []
last_outcomes c batch (r ∷ rows) (outcome ∷ outcomes) =
    last_outcome c batch r outcome ∷ last_outcomes (with_batches c batch r outcome) batch rows outcomes

-- ---- the whole

-- What the store has after a load, and the outcome of each stream.
abbrev pub loaded_store : PlainStore → List StreamValue → ℕ → PlainStore
loaded_store c rows batch = with_rows (with_streams c.history c rows) batch rows (first_outcomes c.history c rows)

abbrev pub loaded_outcomes : PlainStore → List StreamValue → ℕ → List RowsOutcome
loaded_outcomes c rows batch = last_outcomes (with_streams c.history c rows) batch rows (first_outcomes c.history c rows)

-- ---- the law

-- The memory sufficed for the entry.
abbrev pub HadMemory : Result Receipt StepFault → Type 0
HadMemory (Err steps.Want) = ⊥
HadMemory result = Unit {0}

abbrev pub OutcomeHadMemory : RowsOutcome → Type 0
OutcomeHadMemory Output = Unit {0}
OutcomeHadMemory (NotCreated fault) = HadMemory (Err fault)
OutcomeHadMemory (Committed stream results latest) = AllByRecursion HadMemory results

-- The history and the outcomes are those that one worker leaves.
pub record IsLoadedInOrder (start : StoreState) (log : LogState) (rows : List StreamValue) (batch : ℕ) (streams : List LoadedStream)
    : Type 0 where
  pub history : log.history ≡ (loaded_store (first_store start) rows batch).history
  pub outcomes : map (λ s. s.outcome) streams ≡ loaded_outcomes (first_store start) rows batch

-- If nobody else added anything since the hall began, and memory and device did not fail, one worker leaves just this.
abbrev pub LoadsInOrder : Type 0
LoadsInOrder =
    (start : StoreState) (log : LogState) (rows : RowListValue) (batch : ℕ) (reported : LoadedValue) (numbers : List ℕ)
    → RunsThrough start log → OnlyOwn log start.history numbers
    → LoadsInTurn start log start.history rows batch reported numbers
    → AllByRecursion (λ s. OutcomeHadMemory s.outcome) reported.streams
    → IsLoadedInOrder start log rows.streams batch reported.streams
