-- What contracts see of a log: its device, where it ends, how much room is left, and whether it is stopped.
use Rattle.std.specs.Prelude.{◌≡◌, ◌+◌, ◌^◌, ◌≤◌, ℕ, Bool, false, List}
use Rattle.btr_disk.specs.declared.disk.Disk.{Ghosts}
use Rattle.btr_disk.specs.Bytes.{Image}
use Rattle.btr_disk.specs.Moments.{Leaves, WroteNothing}
use Rattle.btr_log.specs.declared.log.Log.{Log}
use Rattle.btr_log.specs.Extents.{left, AtRest}
use Rattle.btr_disk.specs.Causes.{KeepsCounts}

-- A log of this many blocks is inside a device of `size` blocks, and is one whose blocks can be addressed.
pub record FitsDevice (blocks size : ℕ) : Type 0 where
  pub inside : blocks ≤ size
  pub addressable : blocks ≤ 2 ^ 32

-- The device has as many blocks as before, its counts have not fallen, and at most one call was counted.
pub record CallsOnce {D : Type 0} (size calls faults : D → ℕ) (old new : D) : Type 0 where
  pub counts : KeepsCounts size calls faults old new
  pub most : calls new ≤ calls old + 1

module _ {D : Type 0} {disk : Ghosts D} where
  -- The device.
  abbrev pub log_device : Log D disk → D
  log_device log = log.disk

  -- The block of the gate at its end.
  abbrev pub log_tail : Log D disk → ℕ
  log_tail log = log.tail

  -- The number of blocks that it may use, from block 0 on.
  abbrev pub log_blocks : Log D disk → ℕ
  log_blocks log = log.blocks

  -- The number of blocks after the gate at its end.
  abbrev pub log_room : Log D disk → ℕ
  log_room log = left (log_blocks log) (log_tail log)

  -- The number of acknowledged extents.
  abbrev pub extents_of : Log D disk → ℕ
  extents_of log = log.extents

  -- Whether the device failed in an append, or the log was stopped after another fault.
  abbrev pub is_log_stopped : Log D disk → Bool
  is_log_stopped log = log.stopped

  -- The device's count of faults when the log was made.
  abbrev pub faults_at : Log D disk → ℕ
  faults_at log = disk.faults log.at.value

  -- The log is at rest with these bodies on its device.
  abbrev pub IsLogAtRest : Log D disk → List (List ℕ) → Type 0
  IsLogAtRest log bodies = AtRest (disk.contents (log_device log)) (disk.images_now (log_device log)) (log_tail log) bodies

  -- A crash at any moment between the two logs leaves an image that has P.
  abbrev pub LogLeaves : Log D disk → Log D disk → (Image → Type 0) → Type 0
  LogLeaves old new P = Leaves disk.calls disk.images_since (log_device old) (log_device new) P

  -- The log is made of these, and is not stopped.
  pub record IsLogMadeOf (made_of : D) (tail blocks extents : ℕ) (log : Log D disk) : Type 0 where
    pub same_device : log_device log ≡ made_of
    pub same_tail : log_tail log ≡ tail
    pub same_blocks : log_blocks log ≡ blocks
    pub same_extents : extents_of log ≡ extents
    pub runs : is_log_stopped log ≡ false
    pub same_faults : faults_at log ≡ disk.faults made_of

  -- The device has as many blocks as before, and its counts have not fallen.
  abbrev pub KeepsDevice : Log D disk → Log D disk → Type 0
  KeepsDevice old new = KeepsCounts disk.size disk.calls disk.faults (log_device old) (log_device new)

  -- The calls between the two logs wrote nothing.
  abbrev pub LogWroteNothing : Log D disk → Log D disk → Type 0
  LogWroteNothing old new = WroteNothing disk.calls disk.contents disk.images_now disk.images_since (log_device old) (log_device new)

  -- The calls between the two logs read the device at most: it has as many blocks as before, its counts have not fallen, and nothing was
  -- written.
  pub record LogReads (old new : Log D disk) : Type 0 where
    pub counts : KeepsDevice old new
    pub nothing : disk.is_observable → LogWroteNothing old new

  -- Its number of blocks and its first count of faults are as before, and so is its device but for the calls.
  pub record KeepsBounds (old new : Log D disk) : Type 0 where
    pub blocks : log_blocks new ≡ log_blocks old
    pub faults : faults_at new ≡ faults_at old
    pub device_kept : KeepsDevice old new

  -- The log is as before, but for its device.
  pub record KeepsLog (old new : Log D disk) : Type 0 where
    pub tail : log_tail new ≡ log_tail old
    pub blocks : log_blocks new ≡ log_blocks old
    pub extents : extents_of new ≡ extents_of old
    pub stopped : is_log_stopped new ≡ is_log_stopped old
    pub faults : faults_at new ≡ faults_at old
