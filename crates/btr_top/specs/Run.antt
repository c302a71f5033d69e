-- Why a run ends as it does: by its words, its input, its device and its sink; and what is promised if nothing fails.
use Rattle.std.specs.Prelude.{◌≡◌, ◌⊎◌, ℕ, ◌+◌, Bool, true, false, Option, Some, None}
use Rattle.btr_io.specs.declared.source.Source.{Ghosts as SourceGhosts}
use Rattle.btr_io.specs.declared.sink.Sink.{Ghosts as SinkGhosts}
use Rattle.btr_io.specs.Bytes.{Gives}
use Rattle.btr_io.specs.Faults.{Rose as StreamRose}
use Rattle.btr_disk.specs.declared.disk.Disk.{Ghosts}
use Rattle.btr_disk.specs.Causes.{Rose}
use Rattle.btr_open.specs.Damage.{IsUndamaged}
use Rattle.btr_words.specs.declared.command.Command.{Command}
use Rattle.btr_words.specs.declared.command.Command.TheVariants.{Format, Load, Ask, Distil, Live, LiveGroups, Sample, Checkpoint, Check}
use Rattle.btr_words.specs.declared.command.Command.TheVariants.{Seal, Ship, Hear, Serve, ServeRead}
use Rattle.btr_top.specs.declared.ending.Ending.{Ending}
use Rattle.btr_top.specs.declared.ending.Ending.TheVariants.{Usage, OutOfMemory}
use Rattle.btr_top.specs.declared.command.TheConstants.{MAX_INPUT}
use Rattle.btr_top.specs.declared.checkpoint.CheckpointKind.TheVariants as kind
use Rattle.btr_top.specs.Command.{IsKept}
use Rattle.btr_top.specs.declared.live.FeedKind.TheVariants.{Own, Shared}
use Rattle.btr_top.specs.Live.{LiveCause, CanLive}
use Rattle.btr_top.specs.Ask.{AskCause, CanAsk}
use Rattle.btr_top.specs.Cold.{IsKeptCold, AskColdCause, CanAskCold}
use Rattle.btr_serve.specs.declared.course.Course.{Course}
use Rattle.btr_top.specs.Serve.{ServeCause, ServeReadCause, CanServe, CanServeRead}
use Rattle.btr_top.specs.Format.{FormatCause, FormatLeaves, CanFormat}
use Rattle.btr_top.specs.Checkpoint.{CheckpointEnds, CanCheckpoint}
use Rattle.btr_top.specs.Check.{CheckEnds, HoldsLegalStore}
use Rattle.btr_top.specs.Ship.{ShipEnds, CanShip}
use Rattle.btr_top.specs.Hear.{HearEnds, CanHear}
use Rattle.btr_top.specs.Work.{LoadCause, DistilCause, SampleCause, CanLoad, CanDistil, CanSample}
use Rattle.btr_top.specs.Ending.{Shows}

-- Why a run with this command ends so. `given` and `rest` are the source before and after it, `before` and `sent` the sink before it and
-- before the text of the ending, `old` and `new` the device. `course` has the moments of a talk. What is said of bytes holds of a source, a sink and a device that can be
-- observed, and what is said of a history of each that the device held.
abbrev pub Cause : {S K D : Type 0} → SourceGhosts S → SinkGhosts K → (disk : Ghosts D) → Option Command → S → S → K → K → D → D
    → Course S K D disk → Ending → Type 0
Cause source sink disk None given rest before sent old new course e = (e ≡ Usage) × (rest ≡ given) × (new ≡ old)
Cause source sink disk (Some (Format blocks)) given rest before sent old new course e = (rest ≡ given) × FormatCause disk blocks old new e
Cause source sink disk (Some (Live batch materialize)) given rest before sent old new course e =
    LiveCause source disk (Own batch) materialize given rest old new e
Cause source sink disk (Some (LiveGroups threshold materialize)) given rest before sent old new course e =
    LiveCause source disk (Shared threshold) materialize given rest old new e
Cause source sink disk (Some (Ask false)) given rest before sent old new course e = AskCause source disk given rest old new e
Cause source sink disk (Some (Ask true)) given rest before sent old new course e = AskColdCause source disk given rest old new e
Cause source sink disk (Some (Load workers batch)) given rest before sent old new course e =
    LoadCause source disk workers batch given rest old new e
Cause source sink disk (Some (Distil workers)) given rest before sent old new course e = (rest ≡ given) × DistilCause disk workers old new e
Cause source sink disk (Some (Sample number streams points)) given rest before sent old new course e =
    (rest ≡ given) × SampleCause disk number streams points old new e
Cause source sink disk (Some Checkpoint) given rest before sent old new course e =
    (rest ≡ given) × CheckpointEnds disk kind.Plain old new e
Cause source sink disk (Some Seal) given rest before sent old new course e = (rest ≡ given) × CheckpointEnds disk kind.Seal old new e
Cause source sink disk (Some Check) given rest before sent old new course e = (rest ≡ given) × CheckEnds disk old new e
Cause source sink disk (Some (Ship from)) given rest before sent old new course e = (rest ≡ given) × ShipEnds sink disk from before sent old new e
Cause source sink disk (Some (Serve batch)) given rest before sent old new course e =
    ServeCause disk source sink batch given rest before sent old new course e
Cause source sink disk (Some ServeRead) given rest before sent old new course e =
    ServeReadCause disk source sink given rest before sent old new course e
Cause source sink disk (Some Hear) given rest before sent old new course e = HearEnds source disk given rest old new e

-- There was no memory to read the words, and nothing was done.
abbrev pub WordsLackMemory : {S K D : Type 0} → S → S → K → K → D → D → Ending → Type 0
WordsLackMemory given rest before sent old new e = (e ≡ OutOfMemory) × (rest ≡ given) × (sent ≡ before) × (new ≡ old)

-- Why a run with these words ends so.
abbrev pub RunCause : {S K D : Type 0} → SourceGhosts S → SinkGhosts K → (disk : Ghosts D) → Option Command → S → S → K → K → D → D
    → Course S K D disk → Ending → Type 0
RunCause source sink disk command given rest before sent old new course e =
    Cause source sink disk command given rest before sent old new course e ⊎ WordsLackMemory given rest before sent old new e

-- The command writes nothing to the sink but the text of its ending.
abbrev pub WritesAtEnd : Option Command → Type 0
WritesAtEnd (Some (Ship from)) = ⊥
WritesAtEnd (Some (Serve batch)) = ⊥
WritesAtEnd (Some ServeRead) = ⊥
WritesAtEnd command = Unit {0}

-- The command reads its input before it does anything with it, or reads none.
abbrev pub ReadsAtOnce : Option Command → Type 0
ReadsAtOnce (Some (Serve batch)) = ⊥
ReadsAtOnce (Some ServeRead) = ⊥
ReadsAtOnce command = Unit {0}

-- The device and the input are such that the command comes to its end if nothing fails: there is a store, with room for all that the
-- command may add; for `check`, one with a legal history. Of `format` it is said by `CanFormat`.
abbrev pub CanRun : {S D : Type 0} → SourceGhosts S → Ghosts D → Option Command → S → D → Type 0
CanRun source disk None given old = ⊥
CanRun source disk (Some (Format blocks)) given old = ⊥
CanRun source disk (Some (Live batch materialize)) given old = CanLive source disk (Own batch) materialize given old
CanRun source disk (Some (LiveGroups threshold materialize)) given old = CanLive source disk (Shared threshold) materialize given old
CanRun source disk (Some (Ask false)) given old = CanAsk source disk given old
CanRun source disk (Some (Ask true)) given old = CanAskCold source disk given old
CanRun source disk (Some (Load workers batch)) given old = CanLoad source disk batch given old
CanRun source disk (Some (Distil workers)) given old = CanDistil disk old
CanRun source disk (Some (Sample number streams points)) given old = CanSample disk number streams points old
CanRun source disk (Some Checkpoint) given old = CanCheckpoint disk kind.Plain old
CanRun source disk (Some Seal) given old = CanCheckpoint disk kind.Seal old
CanRun source disk (Some Check) given old = HoldsLegalStore disk old
CanRun source disk (Some (Ship from)) given old = CanShip disk old
CanRun source disk (Some (Serve batch)) given old = CanServe source disk batch given old
CanRun source disk (Some ServeRead) given old = CanServeRead source disk given old
CanRun source disk (Some Hear) given old = CanHear source disk given old

-- The command only reads the device.
abbrev pub IsReader : Option Command → Type 0
IsReader command =
    ((cold : Bool) × (command ≡ Some (Ask cold))) ⊎ (command ≡ Some ServeRead) ⊎ (command ≡ Some Check)
    ⊎ ((from : ℕ) × (command ≡ Some (Ship from)))

-- Nothing was written on the device, and no crash leaves what it might not have left before. Of `ask --cold` it is said as a proposition.
abbrev pub KeepsDevice : {D : Type 0} → Ghosts D → Option Command → D → D → Type 0
KeepsDevice disk (Some (Ask true)) old new = IsKeptCold disk old new
KeepsDevice disk command old new = IsKept disk old new

-- The command opens a store, and works on it or asks it. `ask --cold`, `check` and `ship` open none.
abbrev pub OpensStore : Option Command → Type 0
OpensStore None = ⊥
OpensStore (Some (Format blocks)) = ⊥
OpensStore (Some (Ask true)) = ⊥
OpensStore (Some Check) = ⊥
OpensStore (Some (Ship from)) = ⊥
OpensStore command = Unit {0}

-- The status of a refusal: the source, the sink or the device failed; there was no store, or a damaged one; memory ran out; or the input
-- was too long.
abbrev pub IsRefusal : ℕ → Type 0
IsRefusal status =
    (status ≡ 3) ⊎ (status ≡ 4) ⊎ (status ≡ 5) ⊎ (status ≡ 6) ⊎ (status ≡ 7) ⊎ (status ≡ 9) ⊎ (status ≡ 10)

-- The run did nothing to the device, and ended by a refusal.
pub record IsRefused {D : Type 0} (disk : Ghosts D) (old new : D) (status : ℕ) : Type 0 where
  pub kept : IsKept disk old new
  pub refusal : IsRefusal status

-- The status is 0 if all was done, 1 if something was refused, and 9 if memory ran out.
abbrev pub IsPlainStatus : ℕ → Type 0
IsPlainStatus status = (status ≡ 0) ⊎ (status ≡ 1) ⊎ (status ≡ 9)

-- No call of the device or the sink failed.
pub record DeviceAndSinkWork {K D : Type 0} (sink : SinkGhosts K) (disk : Ghosts D) (before after : K) (old new : D) : Type 0 where
  pub device_works : Rose (disk.faults old) (disk.faults new) → ⊥
  pub sink_works : StreamRose (sink.faults before) (sink.faults after) → ⊥

module _ {S K D : Type 0} (source : SourceGhosts S) (sink : SinkGhosts K) (disk : Ghosts D) where
  -- The run ended in one of the ways above, and what it says of that was written to the sink.
  pub record Ends (command : Option Command) (given rest : S) (before after : K) (old new : D) (course : Course S K D disk) (status : ℕ)
      : Type 0 where
    pub ending : Ending
    -- the sink before the text of the ending
    pub sent : K
    pub cause : RunCause source sink disk command given rest before sent old new course ending
    pub at_end : WritesAtEnd command → sent ≡ before
    pub shown : Shows sink ending sent after status

  -- No call of the source, the device or the sink failed.
  pub record AllWork (given rest : S) (before after : K) (old new : D) : Type 0 where
    pub source_works : StreamRose (source.faults given) (source.faults rest) → ⊥
    pub others : DeviceAndSinkWork sink disk before after old new

  -- What is said of a run of this command.
  pub record Runs (command : Option Command) (given rest : S) (before after : K) (old new : D) (course : Course S K D disk) (status : ℕ)
      : Type 0 where
    pub size : disk.size new ≡ disk.size old
    -- at most one byte more than the limit is read; `serve` reads on as long as there are lines
    pub input : ReadsAtOnce command → source.is_observable → Gives (MAX_INPUT + 1) (source.left given) (source.left rest)
    -- why the run ends so, what the device is then, what a crash leaves of it, and what is written
    pub ends : Ends command given rest before after old new course status
    -- the status is 5 only if a call of the device failed, also on a device that cannot be observed
    pub faulted : status ≡ 5 → Rose (disk.faults old) (disk.faults new)
    pub format_leaves : disk.is_observable → (blocks : ℕ) → command ≡ Some (Format blocks) → FormatLeaves disk blocks old new
    -- if a store can be made and nothing fails, one is made, and 9 says only that there is no memory for the line
    pub formats : disk.is_observable → (blocks : ℕ) → command ≡ Some (Format blocks) → CanFormat disk blocks old
        → DeviceAndSinkWork sink disk before after old new → (status ≡ 0) ⊎ (status ≡ 9)
    -- if there is a store with room for the command and nothing fails, the status is 0, or 1 for what was refused, or 9 without memory
    pub completes : source.is_observable → disk.is_observable → CanRun source disk command given old
        → AllWork given rest before after old new → IsPlainStatus status
    -- on a device that can be observed, and that has no store or a damaged block, a command that opens a store does nothing
    pub unsound : disk.is_observable → OpensStore command → (IsUndamaged (disk.size old) (disk.contents old) → ⊥)
        → IsRefused disk old new status
    -- however `ask`, `serve --read`, `check` or `ship` ends, nothing is written on the device
    pub kept : IsReader command → KeepsDevice disk command old new
