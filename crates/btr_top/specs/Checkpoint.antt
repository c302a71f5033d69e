-- The commands `checkpoint` and `seal`: what a crash leaves of them, and why they end as they do.
use Rattle.std.specs.Prelude.{◌≡◌, ◌⊎◌, ℕ, ◌+◌, ◌<◌, ◌≤◌, true, false, List, length}
use Rattle.btr_disk.specs.declared.disk.Disk.{Ghosts}
use Rattle.btr_disk.specs.Bytes.{Image}
use Rattle.btr_disk.specs.Causes.{Rose}
use Rattle.btr_disk.specs.Moments.{Leaves, IsUnwritten}
use Rattle.btr_log.specs.Extents.{left}
use Rattle.btr_log.specs.Head.{content_blocks}
use Rattle.btr_super.specs.declared.superblock.Super.{Super}
use Rattle.btr_super.specs.Super.{has_seal}
use Rattle.btr_hist.specs.declared.entry.Entry.{Entry}
use Rattle.btr_roll.specs.Roll.{roll_bytes}
use Rattle.btr_streams.specs.Rolling.{roll_of}
use Rattle.btr_engine.specs.Holds.{HoldsHistory, HoldsHistoryTo}
use Rattle.btr_engine.specs.Mark.{IsNamed}
use Rattle.btr_store.specs.Work.{HoldsSafely, WasSound}
use Rattle.btr_top.specs.declared.checkpoint.CheckpointKind.{CheckpointKind}
use Rattle.btr_top.specs.declared.checkpoint.CheckpointKind.TheVariants.{Plain, Seal}
use Rattle.btr_top.specs.declared.ending.Ending.{Ending}
use Rattle.btr_top.specs.declared.ending.Ending.TheVariants.{OutOfMemory, NoDevice, Checkpointed, Sealed, Full}
use Rattle.btr_top.specs.Command.{IsKept, OpeningCause}

-- The format of a checkpoint of this kind, and of the superblock that names it, by the superblock before: the format stays, or it becomes
-- that of a sealed store.
abbrev pub checkpoint_format : CheckpointKind → Super → ℕ
checkpoint_format Plain s = s.format
checkpoint_format Seal s = 4

-- The blocks that a checkpoint of this format needs after a history whose entries have these roots: those of its content, and the gate
-- after them.
abbrev pub need_of_checkpoint : ℕ → List Entry → List ℕ → ℕ
need_of_checkpoint format h roots = content_blocks (length (roll_bytes format (roll_of h roots))) + 1

module _ {D : Type 0} (disk : Ghosts D) where
  -- The device is observable, and as it reads it holds this history in a store of this many blocks, up to the gate at the tail. `P` is true
  -- of the history, of the superblock, of the blocks that a checkpoint of this kind needs after it, of the store's blocks and of the tail.
  abbrev pub OfHeld : CheckpointKind → D → (List Entry → Super → ℕ → ℕ → ℕ → Type 0) → Type 0
  OfHeld kind old P =
      disk.is_observable → (h : List Entry) (blocks tail : ℕ)
      → (holds : HoldsHistoryTo (disk.size old) (disk.contents old) blocks tail h)
      → P h holds.super (need_of_checkpoint (checkpoint_format kind holds.super) h holds.leads.roots) blocks tail

  -- The history lasts from the device `old` to the device `new`. The opening of the store wrote nothing, and left the device `opened`. A
  -- crash at any moment since then leaves the history, sealed or not; before, it may also leave what it might have left at `old`.
  pub record Lasts (h : List Entry) (old new : D) : Type 0 where
    pub opened : D
    pub opening : IsUnwritten disk.calls disk.contents disk.images_now disk.images_since old opened
    pub since : Leaves disk.calls disk.images_since opened new (λ c. HoldsHistory (disk.size old) c h)
    pub moments : Leaves disk.calls disk.images_since old new (λ c. disk.images_now old c ⊎ HoldsHistory (disk.size old) c h)
    pub now : (c : Image) → disk.images_now new c → HoldsHistory (disk.size old) c h

  -- A checkpoint of this kind, of the whole history, was added after the tail. The store was not sealed, and there was room for the blocks
  -- that the checkpoint needs. The history lasts; from then on a crash leaves the device as it reads. On each image of it the superblock
  -- that is chosen names the checkpoint, and the gate after it is the new tail. After a seal it is that of a sealed store.
  pub record AddsCheckpoint (kind : CheckpointKind) (entries : ℕ) (old new : D) (h : List Entry) (s : Super) (needed blocks tail : ℕ)
      : Type 0 where
    pub counted : entries ≡ length h
    pub unsealed : has_seal s ≡ false
    pub fits : needed ≤ left blocks tail
    pub lasts : Lasts h old new
    pub safely : HoldsSafely disk new h
    pub named : (c : Image) → disk.images_now new c → IsNamed (disk.size new) c blocks (tail + needed) h (checkpoint_format kind s)

  -- A store that was opened on the device `old` was sound and not sealed, and the history that it holds lasts.
  pub record LastsSound (kind : CheckpointKind) (old new : D) : Type 0 where
    pub sound : WasSound disk old
    pub lasts : OfHeld kind old (λ h s needed blocks tail. (has_seal s ≡ false) × Lasts h old new)

  -- Why `checkpoint` or `seal`, whose checkpoint is of this kind, ends so.
  abbrev pub CheckpointEnds : CheckpointKind → D → D → Ending → Type 0
  CheckpointEnds kind old new (Checkpointed done entries) =
      (done ≡ kind) × WasSound disk old × OfHeld kind old (AddsCheckpoint kind entries old new)
  CheckpointEnds kind old new Sealed =
      WasSound disk old × IsKept disk old new × OfHeld kind old (λ h s needed blocks tail. has_seal s ≡ true)
  CheckpointEnds kind old new (Full need room) =
      WasSound disk old × (room < need) × IsKept disk old new
      × OfHeld kind old (λ h s needed blocks tail. (has_seal s ≡ false) × (need ≡ needed) × (room ≡ left blocks tail))
  CheckpointEnds kind old new NoDevice = Rose (disk.faults old) (disk.faults new) × (IsKept disk old new ⊎ LastsSound kind old new)
  CheckpointEnds kind old new OutOfMemory = IsKept disk old new
  CheckpointEnds kind old new e = OpeningCause disk old new e × IsKept disk old new

  -- The device holds a store with room for a checkpoint of this kind.
  pub record CanCheckpoint (kind : CheckpointKind) (old : D) : Type 0 where
    pub history : List Entry
    pub blocks : ℕ
    pub tail : ℕ
    pub holds : HoldsHistoryTo (disk.size old) (disk.contents old) blocks tail history
    pub fits : need_of_checkpoint (checkpoint_format kind holds.super) history holds.leads.roots ≤ left blocks tail
