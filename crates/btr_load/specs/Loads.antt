-- What a load does: it creates the streams that are not there, one after another, and then commits the batches of all streams.
use Rattle.std.specs.Prelude.{◌≡◌, ℕ, ◌+◌, List, [], ◌∷◌, ◌++◌, Option, Some, None, Result, Ok, Err}
use Rattle.btr_hist.specs.declared.entry.Entry.{Entry}
use Rattle.btr_hist.specs.declared.entry.Entry.TheVariants as entries
use Rattle.btr_hist.specs.declared.kernel.Spec.{Spec}
use Rattle.btr_hist.specs.History.{stream_of, spec_of, latest}
use Rattle.btr_rows.specs.declared.row.RefusedRow.{RefusedRow}
use Rattle.btr_rows.specs.Streams.{StreamValue, RowListValue}
use Rattle.btr_streams.specs.declared.board.Receipt.{Receipt}
use Rattle.btr_engine.specs.declared.step.StepFault.{StepFault}
use Rattle.btr_engine.specs.declared.step.StepFault.TheVariants as steps
use Rattle.btr_gate.specs.Numbers.{times}
use Rattle.btr_gate.specs.Prefixes.{StartsWith}
use Rattle.btr_jobs.specs.States.{StoreState, LogState}
use Rattle.btr_jobs.specs.Turns as turns
use Rattle.btr_jobs.specs.Turns.{IsIdle}
use Rattle.btr_load.specs.declared.outcome.RowsOutcome.{RowsOutcome}
use Rattle.btr_load.specs.declared.outcome.RowsOutcome.TheVariants.{Output, NotCreated, Committed}
use Rattle.btr_load.specs.declared.stream.LoadedStream.{LoadedStream}
use Rattle.btr_load.specs.Batches.{last_version}
use Rattle.btr_load.specs.Work.{StreamsDid, StreamsInTurn}

-- What became of rows: the streams in the order of the rows, and the rows that were refused before.
pub record LoadedValue : Type 0 where
  pub streams : List LoadedStream
  pub refused : List RefusedRow

-- The rows were committed to this stream, which had this latest version before. `latest` is its latest version after the last batch.
abbrev pub IsCommittedTo : ℕ → ℕ → RowsOutcome → Type 0
IsCommittedTo stream version Output = ⊥
IsCommittedTo stream version (NotCreated fault) = ⊥
IsCommittedTo stream version (Committed of results latest) = (of ≡ stream) × (latest ≡ last_version version results)

-- The outcome of rows whose stream was there: an output takes none.
abbrev pub OutcomeOfFound : List Entry → ℕ → Option Spec → RowsOutcome → Type 0
OutcomeOfFound low stream None outcome = IsCommittedTo stream (latest low stream) outcome
OutcomeOfFound low stream (Some spec) outcome = outcome ≡ Output

-- The outcome of rows whose stream was created, or refused.
abbrev pub OutcomeOfCreated : Result Receipt StepFault → RowsOutcome → Type 0
OutcomeOfCreated (Ok receipt) outcome = IsCommittedTo receipt.stream 0 outcome
OutcomeOfCreated (Err fault) outcome = outcome ≡ NotCreated fault

-- The stream of an id is the one that the history `low` has, or else it is created right after the history p.
abbrev pub CreatesIfNew : StoreState → LogState → List Entry → List Entry → ℕ → Option ℕ → RowsOutcome → List ℕ → List Entry → Type 0
CreatesIfNew start log low p id (Some stream) outcome own next = OutcomeOfFound low stream (spec_of low stream) outcome × IsIdle p own next
CreatesIfNew start log low p id None outcome own next =
    (result : Result Receipt StepFault) × turns.Committed start log p (entries.Create id) result own next × OutcomeOfCreated result outcome
    × turns.SaysSealed start steps.Sealed result

-- The streams of rows, in order. Those that `low` has not are created one after another, the first right after the history p.
-- `own` are the numbers of what was added, in order, and `last` is the history after it.
abbrev pub CreatesEach : StoreState → LogState → List Entry → List Entry → ℕ → List StreamValue → List LoadedStream
    → List ℕ → List Entry → Type 0
CreatesEach start log low p batch [] [] own last = IsIdle p own last
CreatesEach start log low p batch [] (s ∷ streams) own last = ⊥
CreatesEach start log low p batch (r ∷ rows) [] own last = ⊥
CreatesEach start log low p batch (r ∷ rows) (s ∷ streams) own last =
    (s.rows ≡ r) × (s.batch ≡ batch) × (first rest : List ℕ) × (next : List Entry) × (own ≡ first ++ rest)
    × CreatesIfNew start log low p r.id (stream_of low r.id) s.outcome first next
    × CreatesEach start log low next batch rows streams rest last

-- A load in a hall, by a session that had seen `low` and was the only one. `numbers` are those of what the load added.
pub record Loads (start : StoreState) (log : LogState) (low : List Entry) (rows : RowListValue) (batch : ℕ) (loaded : LoadedValue)
    (numbers : List ℕ) : Type 0 where
  pub refused : loaded.refused ≡ rows.refused
  -- the numbers of the creates, and the history after them
  pub created : List ℕ
  pub middle : List Entry
  -- the numbers of the batches
  pub committed : List ℕ
  pub opens : CreatesEach start log low low batch rows.streams loaded.streams created middle
  pub begins : StartsWith log.history middle
  pub commits : StreamsDid start log middle loaded.streams committed
  pub own : (n : ℕ) → times n numbers ≡ times n created + times n committed

-- A load by one worker: the streams were committed one after another.
pub record LoadsInTurn (start : StoreState) (log : LogState) (low : List Entry) (rows : RowListValue) (batch : ℕ) (loaded : LoadedValue)
    (numbers : List ℕ) : Type 0 where
  pub loads : Loads start log low rows batch loaded numbers
  pub in_turn : StreamsInTurn start log loads.middle loaded.streams loads.committed
