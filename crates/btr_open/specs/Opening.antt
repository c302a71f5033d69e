-- What an opening promises: the engine that it returns, and why it returns none.
use Rattle.std.specs.Prelude.{◌≡◌, ℕ, true, false, List, []}
use Rattle.btr_disk.specs.declared.disk.Disk.{Ghosts}
use Rattle.btr_disk.specs.Bytes.{Image}
use Rattle.btr_disk.specs.Images.{Only}
use Rattle.btr_disk.specs.Causes.{Counted, Rose, KeepsCounts}
use Rattle.btr_disk.specs.Moments.{IsUnwritten}
use Rattle.btr_super.specs.Choose.{HasNoSuper, IsChosen}
use Rattle.btr_hist.specs.declared.entry.Entry.{Entry}
use Rattle.btr_engine.specs.declared.engine.Engine.{Engine}
use Rattle.btr_open.specs.declared.opening.OpenCause.{OpenCause}
use Rattle.btr_open.specs.declared.opening.OpenCause.TheVariants.{NotAStore, Damaged, Fault, Want}
use Rattle.btr_open.specs.declared.opening.OpenFault.{OpenFault}
use Rattle.btr_open.specs.Damage.{IsDamaged, IsUndamaged}
use Rattle.btr_engine.specs.Engine.{device, super_of, entries_of, is_stopped, is_home, synced_of, entries_at_open, calls_at_open}
use Rattle.btr_engine.specs.Engine.{IsAtRest, IsHeldSince, IsDurable}
use Rattle.btr_engine.specs.Holds.{HoldsHistory}

-- Why a device with these bytes is not opened, if `known` holds of them. `before` and `after` are its counts of faults.
abbrev pub OpenCauseHolds : Type 0 → ℕ → Image → ℕ → ℕ → OpenCause → Type 0
OpenCauseHolds known size image before after NotAStore = known → HasNoSuper size image
OpenCauseHolds known size image before after (Damaged block) = known → IsDamaged size image block
OpenCauseHolds known size image before after Fault = Rose before after
OpenCauseHolds known size image before after Want = Unit {0}

module _ {D : Type 0} (disk : Ghosts D) where
  -- The device has as many blocks and no lower count, and nothing was written on it.
  pub record KeepsDisk (old new : D) : Type 0 where
    pub counts : KeepsCounts disk.size disk.calls disk.faults old new
    pub unwritten : disk.is_observable → IsUnwritten disk.calls disk.contents disk.images_now disk.images_since old new

  -- The first call was a sync, which succeeded and left the device as `synced`. Nothing was written after it: a crash since its
  -- return left what a read gives and nothing else, and so does a crash now.
  pub record SyncsFirst (old synced new : D) : Type 0 where
    pub counted : Counted (disk.calls old) (disk.calls synced)
    pub before : KeepsCounts disk.size disk.calls disk.faults old synced
    pub after : KeepsCounts disk.size disk.calls disk.faults synced new
    pub at_sync : disk.is_observable → Only (disk.contents new) (disk.images_now synced)
    pub since : disk.is_observable → Only (disk.contents new) (disk.images_since new (disk.calls synced))
    pub now : disk.is_observable → Only (disk.contents new) (disk.images_now new)

  -- The engine is of this history, which is durable: the device holds it, and so does all that a crash left since the sync.
  pub record IsOpenedOn (h : List Entry) (engine : Engine D disk) : Type 0 where
    pub at_rest : IsAtRest h engine
    pub held : IsHeldSince h (calls_at_open engine) engine
    pub durable : IsDurable h (calls_at_open engine) (entries_at_open engine) engine []

  -- The engine is not stopped, has its log at home, and was opened with all its entries. If the device is observable, the engine has the
  -- superblock that was chosen; and if the device held a history, the engine is of this history. An observable device without a store, or
  -- with a damaged block, is not opened.
  pub record IsOpenedEngine (old : D) (engine : Engine D disk) : Type 0 where
    pub kept : KeepsDisk old (device engine)
    pub synced : SyncsFirst old (synced_of engine) (device engine)
    pub runs : is_stopped engine ≡ false
    pub home : is_home engine ≡ true
    pub entries : entries_at_open engine ≡ entries_of engine
    pub chosen : disk.is_observable → IsChosen (disk.size old) (disk.contents old) (super_of engine)
    pub stood : disk.is_observable → (h : List Entry) → HoldsHistory (disk.size old) (disk.contents old) h → IsOpenedOn h engine
    pub sound : disk.is_observable → IsUndamaged (disk.size old) (disk.contents old)

  -- The device is handed back, with the cause.
  pub record IsNotOpened (old : D) (fault : OpenFault D) : Type 0 where
    pub kept : KeepsDisk old fault.disk
    pub cause : OpenCauseHolds disk.is_observable (disk.size old) (disk.contents old) (disk.faults old) (disk.faults fault.disk) fault.cause
