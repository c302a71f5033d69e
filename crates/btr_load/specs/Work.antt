-- What the commits of one stream's batches did, and what the job of a stream promises.
use Rattle.std.specs.Prelude.{◌≡◌, ◌⊎◌, ℕ, ◌+◌, ◌<◌, List, [], ◌∷◌, ◌++◌, length, replicate, Result, Err}
use Rattle.btr_hist.specs.declared.entry.Entry.{Entry}
use Rattle.btr_rows.specs.declared.row.NumberedPoint.{NumberedPoint}
use Rattle.btr_streams.specs.declared.board.Receipt.{Receipt}
use Rattle.btr_engine.specs.declared.step.StepFault.{StepFault}
use Rattle.btr_engine.specs.declared.step.StepFault.TheVariants.{Want}
use Rattle.btr_gate.specs.Numbers.{times}
use Rattle.btr_gate.specs.Prefixes.{StartsWith}
use Rattle.btr_jobs.specs.States.{StoreState, LogState, GoesOn}
use Rattle.btr_jobs.specs.Turns.{IsIdle, CommittedAfter}
use Rattle.btr_load.specs.declared.outcome.RowsOutcome.{RowsOutcome}
use Rattle.btr_load.specs.declared.outcome.RowsOutcome.TheVariants.{Output, NotCreated, Committed}
use Rattle.btr_load.specs.declared.stream.LoadedStream.{LoadedStream}
use Rattle.btr_load.specs.Batches.{batches_of, batch_entry, last_version}

-- The result of a batch, after all of `low` had been seen: that of its entry in a turn, or memory ran out before a turn.
abbrev pub BatchDid : StoreState → LogState → List Entry → Entry → Result Receipt StepFault → List ℕ → List Entry → Type 0
BatchDid start log low e result own next =
    CommittedAfter start log low e result own next ⊎ ((result ≡ Err Want) × IsIdle low own next)

-- The results of batches, one after another: each batch has one, and began after all that the one before it had seen. `own` are
-- the numbers of what they added, in order, and `last` is what the last one had seen.
abbrev pub BatchesDid : StoreState → LogState → List Entry → ℕ → List (List NumberedPoint) → List (Result Receipt StepFault)
    → List ℕ → List Entry → Type 0
BatchesDid start log low stream [] [] own last = IsIdle low own last
BatchesDid start log low stream [] (result ∷ results) own last = ⊥
BatchesDid start log low stream (batch ∷ batches) [] own last = ⊥
BatchesDid start log low stream (batch ∷ batches) (result ∷ results) own last =
    (first rest : List ℕ) × (next : List Entry) × (own ≡ first ++ rest)
    × BatchDid start log low (batch_entry stream batch) result first next
    × BatchesDid start log next stream batches results rest last

-- What was committed of a stream, by its outcome: all its batches, or nothing.
abbrev pub OutcomeDid : StoreState → LogState → List Entry → List (List NumberedPoint) → RowsOutcome → List ℕ → Type 0
OutcomeDid start log low batches Output own = own ≡ []
OutcomeDid start log low batches (NotCreated fault) own = own ≡ []
OutcomeDid start log low batches (Committed stream results latest) own =
    (last : List Entry) × BatchesDid start log low stream batches results own last

abbrev pub StreamDid : StoreState → LogState → List Entry → LoadedStream → List ℕ → Type 0
StreamDid start log low s own = OutcomeDid start log low (batches_of s.batch s.rows.points) s.outcome own

-- What was committed of many streams, each after all of `low` had been seen. `own` are the numbers of it, in some order.
abbrev pub StreamsDid : StoreState → LogState → List Entry → List LoadedStream → List ℕ → Type 0
StreamsDid start log low [] own = (n : ℕ) → times n own ≡ 0
StreamsDid start log low (s ∷ streams) own =
    (first rest : List ℕ) × StreamDid start log low s first × StreamsDid start log low streams rest
    × ((n : ℕ) → times n own ≡ times n first + times n rest)

-- The streams were committed one after another. `middle` is the log after the first one. Of it is said what was committed of this
-- stream, after all of `low` had been seen. The others followed after all of its history. `own` are the numbers of it, in some order.
abbrev pub StreamsInTurn : StoreState → LogState → List Entry → List LoadedStream → List ℕ → Type 0
StreamsInTurn start late low [] own = StartsWith late.history low × ((n : ℕ) → times n own ≡ 0)
StreamsInTurn start late low (s ∷ streams) own =
    (middle : LogState) × GoesOn start late middle × StartsWith middle.history low × (first rest : List ℕ)
    × StreamDid start middle low s first × StreamsInTurn start late middle.history streams rest
    × ((n : ℕ) → times n own ≡ times n first + times n rest)

-- ---- what private functions promise

-- One batch, and that what it had seen has happened.
abbrev pub OneBatchDid : StoreState → LogState → List Entry → ℕ → List NumberedPoint → Result Receipt StepFault → List ℕ → Type 0
OneBatchDid start log low stream batch result own =
    (next : List Entry) × BatchDid start log low (batch_entry stream batch) result own next × StartsWith log.history next

-- All batches of a stream, if there is a place for the result of each.
abbrev pub AllBatchesDid : StoreState → LogState → List Entry → ℕ → ℕ → List NumberedPoint → List (Result Receipt StepFault)
    → List (Result Receipt StepFault) → List ℕ → Type 0
AllBatchesDid start log low stream size points places results own =
    0 < size → length places ≡ length (batches_of size points)
    → (last : List Entry) × BatchesDid start log low stream (batches_of size points) results own last

-- ---- the job of a stream

-- A stream has a place for the result of each batch, in which it says that memory ran out.
abbrev pub IsBlank : List (List NumberedPoint) → RowsOutcome → Type 0
IsBlank batches Output = Unit {0}
IsBlank batches (NotCreated fault) = Unit {0}
IsBlank batches (Committed stream results latest) = results ≡ replicate (length batches) (Err Want)

pub record IsReady (s : LoadedStream) : Type 0 where
  pub some : 0 < s.batch
  pub blank : IsBlank (batches_of s.batch s.rows.points) s.outcome

-- What becomes of a outcome when the batches are committed.
abbrev pub OutcomeWorks : StoreState → LogState → List Entry → List (List NumberedPoint) → RowsOutcome → RowsOutcome → List ℕ → Type 0
OutcomeWorks start log low batches Output now own = (now ≡ Output) × (own ≡ [])
OutcomeWorks start log low batches (NotCreated fault) now own = (now ≡ NotCreated fault) × (own ≡ [])
OutcomeWorks start log low batches (Committed stream blank version) now own =
    (results : List (Result Receipt StepFault)) × (last : List Entry) × (now ≡ Committed stream results (last_version version results))
    × BatchesDid start log low stream batches results own last

-- What the job of a stream that is ready does: it commits the batches of the stream.
pub record CommitsStream (start : StoreState) (log : LogState) (low : List Entry) (was now : LoadedStream) (own : List ℕ) : Type 0 where
  pub rows : now.rows ≡ was.rows
  pub batch : now.batch ≡ was.batch
  pub outcome : IsReady was → OutcomeWorks start log low (batches_of was.batch was.rows.points) was.outcome now.outcome own
