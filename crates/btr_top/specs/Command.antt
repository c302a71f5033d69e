-- What commands share: how an input is read, why no store was opened, and why a command with an input ends as it does.
use Rattle.std.specs.Prelude.{◌≡◌, ◌⊎◌, ℕ, ◌≤◌, ◌<◌, List, [], length}
use Rattle.btr_io.specs.declared.source.Source.{Ghosts as SourceGhosts}
use Rattle.btr_io.specs.Bytes.{gave}
use Rattle.btr_io.specs.Faults.{Rose as SourceRose}
use Rattle.btr_disk.specs.declared.disk.Disk.{Ghosts}
use Rattle.btr_disk.specs.Causes.{Rose}
use Rattle.btr_disk.specs.Moments.{IsUnwritten}
use Rattle.btr_super.specs.Choose.{HasNoSuper}
use Rattle.btr_super.specs.Super.{has_seal}
use Rattle.btr_open.specs.Damage.{IsDamaged}
use Rattle.btr_top.specs.declared.command.TheConstants.{MAX_INPUT}
use Rattle.btr_top.specs.declared.ending.Ending.{Ending}
use Rattle.btr_top.specs.declared.ending.Ending.TheVariants.{NoSource, TooLong, OutOfMemory, NoDevice, NoStore, Damaged}
use Rattle.btr_hist.specs.declared.entry.Entry.{Entry}
use Rattle.btr_engine.specs.Holds.{HoldsHistoryTo}
use Rattle.btr_log.specs.Extents.{left}
use Rattle.btr_jobs.specs.States.{StoreState}
use Rattle.std.specs.Prelude.{false}

module _ {S : Type 0} (source : SourceGhosts S) where
  -- The input is within the limit.
  abbrev pub IsWithinLimit : S → Type 0
  IsWithinLimit given = length (source.left given) ≤ MAX_INPUT

  -- The source gave its whole input, which is within the limit.
  pub record HasRead (input : List ℕ) (old new : S) : Type 0 where
    pub within : length input ≤ MAX_INPUT
    pub all : source.is_observable → input ≡ source.left old
    pub at_end : source.is_observable → source.left new ≡ []

  -- The source gave more than may be read.
  abbrev pub ExceedsInputLimit : S → S → Type 0
  ExceedsInputLimit old new = source.is_observable → MAX_INPUT < gave (source.left old) (source.left new)

  -- Why the input was not read.
  abbrev pub InputCause : S → S → Ending → Type 0
  InputCause old new NoSource = SourceRose (source.faults old) (source.faults new)
  InputCause old new TooLong = ExceedsInputLimit old new
  InputCause old new OutOfMemory = Unit {0}
  InputCause old new _ = ⊥

module _ {D : Type 0} (disk : Ghosts D) where
  -- Nothing was written, and no crash leaves what it might not have left before.
  abbrev pub IsKept : D → D → Type 0
  IsKept old new = disk.is_observable → IsUnwritten disk.calls disk.contents disk.images_now disk.images_since old new

  -- Why the store was not opened.
  abbrev pub OpeningCause : D → D → Ending → Type 0
  OpeningCause old new NoDevice = Rose (disk.faults old) (disk.faults new)
  OpeningCause old new NoStore = disk.is_observable → HasNoSuper (disk.size old) (disk.contents old)
  OpeningCause old new (Damaged block) = disk.is_observable → IsDamaged (disk.size old) (disk.contents old) block
  OpeningCause old new OutOfMemory = Unit {0}
  OpeningCause old new _ = ⊥

  -- The device holds a store, and this is true of its state.
  pub record HoldsStoreWith (Room : StoreState → Type 0) (old : D) : Type 0 where
    pub history : List Entry
    pub blocks : ℕ
    pub tail : ℕ
    pub holds : HoldsHistoryTo (disk.size old) (disk.contents old) blocks tail history
    pub room : Room (record { history = history; left = left blocks tail; stopped = false; sealed = has_seal holds.super })

-- Why a command ends so that reads its whole input and then does something with it, for which `cause` says why it ends so. The device
-- is not called before all of the input is read.
abbrev pub CommandCause : {S D : Type 0} → SourceGhosts S → (List ℕ → D → D → Ending → Type 0) → S → S → D → D → Ending → Type 0
CommandCause source cause given rest old new e =
    (InputCause source given rest e × (new ≡ old)) ⊎ ((input : List ℕ) × HasRead source input given rest × cause input old new e)
