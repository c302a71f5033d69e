-- What is in the history after a load to which nobody else added anything: just the creates and the batches that were accepted.
use Rattle.std.specs.Prelude.{◌≡◌, ℕ, ◌+◌, ◌-◌, ◌<◌, ◌≤◌, List, [], ◌∷◌, ◌++◌, length, map, slice_get, Option, Some, None, Result, Ok, Err}
use Rattle.std.specs.List.{AllByRecursion}
use Rattle.std.specs.Option.{is_some}
use Rattle.btr_hist.specs.declared.entry.Entry.{Entry}
use Rattle.btr_hist.specs.declared.entry.Entry.TheVariants.{Create}
use Rattle.btr_hist.specs.History as history
use Rattle.btr_hist.specs.History.{stream_of}
use Rattle.btr_hist.specs.Legal.{Follows}
use Rattle.btr_rows.specs.declared.row.NumberedPoint.{NumberedPoint}
use Rattle.btr_rows.specs.declared.row.Row.{Row}
use Rattle.btr_rows.specs.declared.row.RowReason.{RowReason}
use Rattle.btr_rows.specs.Streams.{StreamValue, RowListValue, list_of}
use Rattle.btr_streams.specs.declared.board.Receipt.{Receipt}
use Rattle.btr_engine.specs.declared.step.StepFault.{StepFault}
use Rattle.btr_gate.specs.Numbers.{one, total, times, given}
use Rattle.btr_jobs.specs.States.{StoreState, LogState}
use Rattle.btr_load.specs.declared.outcome.RowsOutcome.{RowsOutcome}
use Rattle.btr_load.specs.declared.outcome.RowsOutcome.TheVariants.{Output, NotCreated, Committed}
use Rattle.btr_load.specs.declared.stream.LoadedStream.{LoadedStream}
use Rattle.btr_load.specs.Batches.{batches_of, batch_entry}
use Rattle.btr_load.specs.Loads.{LoadedValue, Loads}

-- ---- the entries of a load

-- The entries of the batches that were accepted.
abbrev pub accepted : ℕ → List (List NumberedPoint) → List (Result Receipt StepFault) → List Entry
accepted stream [] results = []
accepted stream (batch ∷ batches) [] = []
accepted stream (batch ∷ batches) (Ok receipt ∷ results) = batch_entry stream batch ∷ accepted stream batches results
accepted stream (batch ∷ batches) (Err fault ∷ results) = accepted stream batches results

abbrev pub outcome_entries : List (List NumberedPoint) → RowsOutcome → List Entry
outcome_entries batches Output = []
outcome_entries batches (NotCreated fault) = []
outcome_entries batches (Committed stream results latest) = accepted stream batches results

abbrev pub batch_entries : List LoadedStream → List Entry
batch_entries [] = []
batch_entries (s ∷ streams) = outcome_entries (batches_of s.batch s.rows.points) s.outcome ++ batch_entries streams

-- The entries of the creates that were accepted: those of the streams that the history `low` has not, and that were committed to.
abbrev pub create_entry : Option ℕ → ℕ → RowsOutcome → List Entry
create_entry (Some stream) id outcome = []
create_entry None id Output = []
create_entry None id (NotCreated fault) = []
create_entry None id (Committed stream results latest) = Create id ∷ []

abbrev pub create_entries : List Entry → List LoadedStream → List Entry
create_entries low [] = []
create_entries low (s ∷ streams) = create_entry (stream_of low s.rows.id) s.rows.id s.outcome ++ create_entries low streams

-- The entries of one list are those of another, each as often, in some order: each sum over the one is the sum over the other.
abbrev pub HasSame : List Entry → List Entry → Type 0
HasSame a b = (f : Entry → ℕ) → total f a ≡ total f b

-- ---- what the results say of the history

-- Each accepted batch is there, at the number of its receipt.
abbrev pub AreAt : List Entry → ℕ → List (List NumberedPoint) → List (Result Receipt StepFault) → Type 0
AreAt h stream [] results = Unit {0}
AreAt h stream (batch ∷ batches) [] = Unit {0}
AreAt h stream (batch ∷ batches) (Ok receipt ∷ results) =
    (0 < receipt.number) × (slice_get h (receipt.number - 1) ≡ Some (batch_entry stream batch)) × AreAt h stream batches results
AreAt h stream (batch ∷ batches) (Err fault ∷ results) = AreAt h stream batches results

-- The latest version is that of the history.
abbrev pub OutcomeIsThere : List Entry → List (List NumberedPoint) → RowsOutcome → Type 0
OutcomeIsThere h batches Output = Unit {0}
OutcomeIsThere h batches (NotCreated fault) = Unit {0}
OutcomeIsThere h batches (Committed stream results latest) = AreAt h stream batches results × (latest ≡ history.latest h stream)

abbrev pub StreamIsThere : List Entry → LoadedStream → Type 0
StreamIsThere h s = OutcomeIsThere h (batches_of s.batch s.rows.points) s.outcome

-- What is in the history h after a load that began after the history `low`.
pub record AreThere (h low : List Entry) (loaded : LoadedValue) : Type 0 where
  pub since : List Entry
  pub begins : h ≡ low ++ since
  -- no other entry is there, and none twice
  pub same : HasSame since (create_entries low loaded.streams ++ batch_entries loaded.streams)
  pub each : AllByRecursion (StreamIsThere h) loaded.streams

-- ---- the law

-- Nobody else added anything after the history `low`: each number after it is one of these, once.
abbrev pub OnlyOwn : LogState → List Entry → List ℕ → Type 0
OnlyOwn log low numbers = (n : ℕ) → times n numbers ≡ given (length low) (length log.history + one (is_some log.failed)) n

-- No id stands twice.
abbrev pub AreDistinct : List StreamValue → Type 0
AreDistinct rows = (id : ℕ) → times id (map (λ r. r.id) rows) ≤ 1

-- Rows that were read have each id once.
abbrev pub RowsAreDistinct : Type 0
RowsAreDistinct = (rows : List (ℕ × Result Row RowReason)) → AreDistinct (list_of rows).streams

-- A batch is in the history exactly if it was accepted, and nothing else was added but the creates.
abbrev pub BatchesAreThere : Type 0
BatchesAreThere =
    (start : StoreState) (log : LogState) (low : List Entry) (rows : RowListValue) (batch : ℕ) (loaded : LoadedValue) (numbers : List ℕ)
    → Follows low → AreDistinct rows.streams → OnlyOwn log low numbers → Loads start log low rows batch loaded numbers
    → AreThere log.history low loaded
