-- The commands `load`, `distil` and `sample`: what they did on the store, and why they end as they do.
use Rattle.std.specs.Prelude.{◌⊎◌, ℕ, Bool, true, false, List, Result, Ok, Err}
use Rattle.std.specs.declared.alloc.AllocError.{AllocError}
use Rattle.btr_io.specs.declared.source.Source.{Ghosts as SourceGhosts}
use Rattle.btr_disk.specs.declared.disk.Disk.{Ghosts}
use Rattle.btr_rows.specs.Rows.{rows_of}
use Rattle.btr_rows.specs.Streams.{RowListValue, list_of}
use Rattle.btr_load.specs.There.{AreDistinct}
use Rattle.btr_jobs.specs.States.{StoreState, LogState}
use Rattle.btr_store.specs.declared.transcript.Transcript.{Transcript}
use Rattle.btr_store.specs.Completes.{HasRoomForRows, HasRoomForOutputs}
use Rattle.btr_store.specs.Work.{DoesRightly, IfHolds, IsPlainWork}
use Rattle.btr_store.specs.Load.{LoadsStore, SaysSomeLoad}
use Rattle.btr_store.specs.Distil.{DistilsStore, SaysSomeReport}
use Rattle.btr_store.specs.Sample.{SaysSomeSample}
use Rattle.btr_store.specs.SampleRoom.{HasRoomForSample}
use Rattle.btr_store.specs.SampleLaw.{SamplesStore}
use Rattle.btr_top.specs.declared.ending.Ending.{Ending}
use Rattle.btr_top.specs.declared.ending.Ending.TheVariants.{OutOfMemory, NoDevice, Replied}
use Rattle.btr_top.specs.Command.{HoldsStoreWith, IsWithinLimit, IsKept, OpeningCause, CommandCause}

-- How a command ends that did its work and says this of it. `failed` says whether the device failed in a step. If nothing can be said of
-- the work, this counts more than the memory.
abbrev pub ending_of : Result Transcript AllocError → Bool → Ending
ending_of (Ok transcript) failed = Replied transcript
ending_of (Err error) true = NoDevice
ending_of (Err error) false = OutOfMemory

-- How a command ends that did its work, and of which nothing can be said. A device that failed counts more than the memory.
abbrev pub unsaid : Bool → Ending
unsaid true = NoDevice
unsaid false = OutOfMemory

-- If the command ends with a transcript, this is true of it.
abbrev pub IfReplied : (Transcript → Type 0) → Ending → Type 0
IfReplied Says (Replied transcript) = Says transcript
IfReplied Says e = Unit {0}

-- What work does that says this: from a start, over a state of the log, with these numbers of what it added.
abbrev pub WorkSays : Type 1
WorkSays = Result Transcript AllocError → StoreState → LogState → List ℕ → Type 0

module _ {D : Type 0} (disk : Ghosts D) where
  -- What work did that says this: on each device what is plain of it, and what it did on each history that the device holds. `failed`
  -- says whether the device failed in a step.
  pub record WorkDid (What : WorkSays) (old new : D) (said : Result Transcript AllocError) (failed : Bool) : Type 0 where
    pub plain : IsPlainWork disk old said failed new
    pub rightly : IfHolds disk old (DoesRightly disk (What said) failed old new)

  -- The work was done as far as it says, but there was no memory for its lines.
  abbrev pub DidUnsaid : WorkSays → Bool → D → D → Type 0
  DidUnsaid What failed old new = (error : AllocError) × WorkDid What old new (Err error) failed

  -- Why a command ends so that opens a store and does this work on it. If it ends without memory, or by a failure of the device, the store
  -- was not opened and nothing was written; or the work was done. Then the end is the failure exactly if the device failed in a step.
  abbrev pub WorkCause : WorkSays → D → D → Ending → Type 0
  WorkCause What old new (Replied transcript) = (failed : Bool) × WorkDid What old new (Ok transcript) failed
  WorkCause What old new OutOfMemory = IsKept disk old new ⊎ DidUnsaid What false old new
  WorkCause What old new NoDevice = (OpeningCause disk old new NoDevice × IsKept disk old new) ⊎ DidUnsaid What true old new
  WorkCause What old new e = OpeningCause disk old new e × IsKept disk old new

  -- Why `distil` ends so. On each device it says the lines of a report.
  abbrev pub DistilCause : ℕ → D → D → Ending → Type 0
  DistilCause workers old new e =
      WorkCause (λ said start log own. DistilsStore start log workers said own) old new e × IfReplied SaysSomeReport e

  -- Why `sample` ends so. On each device it says the lines of a sample.
  abbrev pub SampleCause : ℕ → ℕ → ℕ → D → D → Ending → Type 0
  SampleCause number streams points old new e =
      WorkCause (λ said start log own. SamplesStore number streams points start log said own) old new e
      × IfReplied (SaysSomeSample streams) e

  -- Why `load` ends so, after its rows were read. On each device it says the lines of a load.
  abbrev pub RowsCause : ℕ → ℕ → RowListValue → D → D → Ending → Type 0
  RowsCause workers batch rows old new e =
      WorkCause (λ said start log own. LoadsStore start log rows batch workers said own) old new e × IfReplied SaysSomeLoad e

module _ {D : Type 0} (disk : Ghosts D) where
  -- The device holds a store with room for all that may be landed for its outputs, each at most once.
  abbrev pub CanDistil : D → Type 0
  CanDistil old = HoldsStoreWith disk HasRoomForOutputs old

  -- The device holds a store with room for a sample. If the store has an entry, the sample needs no room.
  abbrev pub CanSample : ℕ → ℕ → ℕ → D → Type 0
  CanSample number streams points old = HoldsStoreWith disk (HasRoomForSample number streams points) old

-- Why `load` ends so. Each id has its rows once.
abbrev pub LoadCause : {S D : Type 0} → SourceGhosts S → Ghosts D → ℕ → ℕ → S → S → D → D → Ending → Type 0
LoadCause source disk workers batch given rest old new e =
    CommandCause source
    (λ input was now end. AreDistinct (list_of (rows_of input)).streams
    × RowsCause disk workers batch (list_of (rows_of input)) was now end)
    given rest old new e

-- The device holds a store with room for the rows of the input, and the input is within the limit.
abbrev pub CanLoad : {S D : Type 0} → SourceGhosts S → Ghosts D → ℕ → S → D → Type 0
CanLoad source disk batch given old = IsWithinLimit source given
    × HoldsStoreWith disk (λ store. HasRoomForRows store (list_of (rows_of (source.left given))) batch) old
