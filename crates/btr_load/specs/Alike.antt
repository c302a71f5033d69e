-- The plain load: the creates in order, and then stream by stream its batches in order. Any number of workers leaves each stream
-- as it does.
use Rattle.std.specs.Prelude.{◌≡◌, ℕ, List, [], ◌∷◌, length, map, Option, Some, None, Result, Ok, Err}
use Rattle.std.specs.List.{AllByRecursion}
use Rattle.btr_hist.specs.declared.entry.Entry.{Entry}
use Rattle.btr_hist.specs.declared.entry.Entry.TheVariants.{Create}
use Rattle.btr_hist.specs.declared.kernel.Spec.{Spec}
use Rattle.btr_hist.specs.declared.rejection.Rejection.{Rejection}
use Rattle.btr_hist.specs.History.{ids, kinds, stream_of, spec_of, commits}
use Rattle.btr_hist.specs.Legal.{Follows, rejection}
use Rattle.btr_hist.specs.Machine as machine
use Rattle.btr_hist.specs.Machine.{committed}
use Rattle.btr_rows.specs.declared.row.NumberedPoint.{NumberedPoint}
use Rattle.btr_rows.specs.Streams.{StreamValue, RowListValue}
use Rattle.btr_streams.specs.declared.board.Receipt.{Receipt}
use Rattle.btr_engine.specs.declared.step.StepFault.{StepFault}
use Rattle.btr_engine.specs.declared.step.StepFault.TheVariants.{Rejected, Stopped, Sealed, Want, DeviceFull, DeviceFault}
use Rattle.btr_jobs.specs.States.{StoreState, LogState}
use Rattle.btr_load.specs.declared.outcome.RowsOutcome.{RowsOutcome}
use Rattle.btr_load.specs.declared.outcome.RowsOutcome.TheVariants.{Output, NotCreated, Committed}
use Rattle.btr_load.specs.declared.stream.LoadedStream.{LoadedStream}
use Rattle.btr_load.specs.Batches.{batches_of, batch_entry}
use Rattle.btr_load.specs.Loads.{LoadedValue, Loads}
use Rattle.btr_load.specs.There.{OnlyOwn, AreDistinct}

-- ---- the plain load

-- The history after an entry is offered: it is added if it is not rejected.
abbrev pub after_entry : List Entry → Entry → List Entry
after_entry h e = committed h e (rejection h e)

-- The history after entries are offered, one after another.
abbrev pub after_entries : List Entry → List Entry → List Entry
after_entries h [] = h
after_entries h (e ∷ more) = after_entries (after_entry h e) more

-- The history after the create of a stream, if the history `low` has none of this id.
abbrev pub after_create : List Entry → ℕ → Option ℕ → List Entry
after_create p id (Some stream) = p
after_create p id None = after_entry p (Create id)

-- The history after the creates.
abbrev pub after_creates : List Entry → List Entry → List StreamValue → List Entry
after_creates low p [] = p
after_creates low p (r ∷ rows) = after_creates low (after_create p r.id (stream_of low r.id)) rows

-- Where the points of rows go: nowhere since their stream is an output, or since it is refused, or to a stream.
pub data Target : Type 0 where
  AnOutput : Target
  Refused : Rejection → Target
  To : ℕ → Target

abbrev pub goes_to : ℕ → Option Spec → Target
goes_to stream None = To stream
goes_to stream (Some spec) = AnOutput

abbrev pub created : List Entry → Option Rejection → Target
created p None = To (length (ids p))
created p (Some why) = Refused why

-- Of rows whose id has this stream in the history `low`, or none. In that case it is created after p.
abbrev pub target : List Entry → List Entry → ℕ → Option ℕ → Target
target low p id (Some stream) = goes_to stream (spec_of low stream)
target low p id None = created p (rejection p (Create id))

abbrev pub targets : List Entry → List Entry → List StreamValue → List Target
targets low p [] = []
targets low p (r ∷ rows) =
    target low p r.id (stream_of low r.id) ∷ targets low (after_create p r.id (stream_of low r.id)) rows

-- The history after the batches of rows are offered, if they go to a stream.
abbrev pub after_rows : List Entry → ℕ → StreamValue → Target → List Entry
after_rows h batch r AnOutput = h
after_rows h batch r (Refused why) = h
after_rows h batch r (To stream) = after_entries h (map (batch_entry stream) (batches_of batch r.points))

abbrev pub after_batches : List Entry → ℕ → List StreamValue → List Target → List Entry
after_batches h batch [] targets = h
after_batches h batch (r ∷ rows) [] = h
after_batches h batch (r ∷ rows) (t ∷ targets) = after_batches (after_rows h batch r t) batch rows targets

-- The history after a load.
abbrev pub loaded : List Entry → List StreamValue → ℕ → List Entry
loaded low rows batch = after_batches (after_creates low low rows) batch rows (targets low low rows)

-- ---- what it says of the outcomes

-- The result of an entry that is offered after h.
abbrev pub SaysEntry : List Entry → Entry → Result Receipt StepFault → Type 0
SaysEntry h e (Ok receipt) =
    (rejection h e ≡ None) × (receipt.stream ≡ (machine.receipt h e).stream) × (receipt.version ≡ (machine.receipt h e).version)
SaysEntry h e (Err (Rejected why)) = rejection h e ≡ Some why
SaysEntry h e (Err (Stopped entries)) = ⊥
SaysEntry h e (Err Sealed) = ⊥
SaysEntry h e (Err Want) = ⊥
SaysEntry h e (Err (DeviceFull need left)) = ⊥
SaysEntry h e (Err DeviceFault) = ⊥

-- The results of batches that are offered one after another, the first after h.
abbrev pub SaysBatches : List Entry → ℕ → List (List NumberedPoint) → List (Result Receipt StepFault) → Type 0
SaysBatches h stream [] [] = Unit {0}
SaysBatches h stream [] (result ∷ results) = ⊥
SaysBatches h stream (batch ∷ batches) [] = ⊥
SaysBatches h stream (batch ∷ batches) (result ∷ results) =
    SaysEntry h (batch_entry stream batch) result × SaysBatches (after_entry h (batch_entry stream batch)) stream batches results

-- The outcome of rows whose batches are offered after h, if they go to a stream.
abbrev pub SaysOutcome : List Entry → ℕ → StreamValue → Target → RowsOutcome → Type 0
SaysOutcome h batch r AnOutput outcome = outcome ≡ Output
SaysOutcome h batch r (Refused why) outcome = outcome ≡ NotCreated (Rejected why)
SaysOutcome h batch r (To stream) Output = ⊥
SaysOutcome h batch r (To stream) (NotCreated fault) = ⊥
SaysOutcome h batch r (To stream) (Committed of results latest) =
    (of ≡ stream) × SaysBatches h stream (batches_of batch r.points) results

abbrev pub SaysOutcomes : List Entry → ℕ → List StreamValue → List Target → List LoadedStream → Type 0
SaysOutcomes h batch [] [] [] = Unit {0}
SaysOutcomes h batch (r ∷ rows) (t ∷ targets) (s ∷ streams) =
    SaysOutcome h batch r t s.outcome × SaysOutcomes (after_rows h batch r t) batch rows targets streams
SaysOutcomes h batch rows targets streams = ⊥

-- ---- the law

-- The entry was accepted or rejected: the store was not stopped nor sealed, and there was enough memory and room.
abbrev pub IsPlain : Result Receipt StepFault → Type 0
IsPlain (Ok receipt) = Unit {0}
IsPlain (Err (Rejected why)) = Unit {0}
IsPlain (Err (Stopped entries)) = ⊥
IsPlain (Err Sealed) = ⊥
IsPlain (Err Want) = ⊥
IsPlain (Err (DeviceFull need left)) = ⊥
IsPlain (Err DeviceFault) = ⊥

abbrev pub IsPlainOutcome : RowsOutcome → Type 0
IsPlainOutcome Output = Unit {0}
IsPlainOutcome (NotCreated fault) = IsPlain (Err fault)
IsPlainOutcome (Committed stream results latest) = AllByRecursion IsPlain results

-- The history h is, for each stream, the one after the plain load, and the outcomes are what the plain load says.
pub record IsAlike (h low : List Entry) (rows : List StreamValue) (batch : ℕ) (streams : List LoadedStream) : Type 0 where
  pub same_ids : ids h ≡ ids (loaded low rows batch)
  pub same_kinds : kinds h ≡ kinds (loaded low rows batch)
  pub same_commits : (stream : ℕ) → commits h stream ≡ commits (loaded low rows batch) stream
  pub outcomes : SaysOutcomes (after_creates low low rows) batch rows (targets low low rows) streams

-- Any number of workers does what the plain load does.
abbrev pub LoadsAlike : Type 0
LoadsAlike =
    (start : StoreState) (log : LogState) (low : List Entry) (rows : RowListValue) (batch : ℕ) (reported : LoadedValue) (numbers : List ℕ)
    → Follows low → AreDistinct rows.streams → OnlyOwn log low numbers → Loads start log low rows batch reported numbers
    → AllByRecursion (λ s. IsPlainOutcome s.outcome) reported.streams
    → IsAlike log.history low rows.streams batch reported.streams
