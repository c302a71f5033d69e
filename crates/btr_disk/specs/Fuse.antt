-- A device that passes a number of calls on to another device, and then fails each call.
use Rattle.std.specs.Prelude.{◌≡◌, ℕ, ◌+◌, ◌<◌, min}
use Rattle.btr_disk.specs.declared.disk.Disk.{Ghosts}
use Rattle.btr_disk.specs.declared.fuse.FuseDisk.{FuseDisk}
use Rattle.btr_disk.specs.Bytes.{Image}
use Rattle.btr_disk.specs.Causes.{Counted}

module _ {D : Type 0} {disk : Ghosts D} where
  -- The calls that the other device counted, and those that did not reach it.
  abbrev pub fuse_calls : FuseDisk D disk → ℕ
  fuse_calls fuse = disk.calls fuse.disk + fuse.withheld

  -- The faults of the other device, and those of the fuse.
  abbrev pub fuse_faults : FuseDisk D disk → ℕ
  fuse_faults fuse = disk.faults fuse.disk + fuse.failed

  -- What a read of the other device returns.
  abbrev pub fuse_contents : FuseDisk D disk → Image
  fuse_contents fuse = disk.contents fuse.disk

  -- What a crash may leave of the other device now.
  abbrev pub fuse_images : FuseDisk D disk → Image → Type 0
  fuse_images fuse = disk.images_now fuse.disk

  -- What a crash may have left of the other device at a moment from the call number on.
  abbrev pub fuse_since : FuseDisk D disk → ℕ → Image → Type 0
  fuse_since fuse t c = disk.images_since fuse.disk (min t (disk.calls fuse.disk)) c

  -- The call was passed on as one of those that the fuse does not fail, and one fewer of them is left.
  pub record IsPassed (old new : FuseDisk D disk) : Type 0 where
    pub left : new.left + 1 ≡ old.left
    pub failed : new.failed ≡ old.failed
    pub withheld : new.withheld ≡ old.withheld

  -- The call did not reach the other device, which is as before. It was counted as a fault.
  pub record IsWithheld (old new : FuseDisk D disk) : Type 0 where
    pub same_disk : new.disk ≡ old.disk
    pub left : new.left ≡ old.left
    pub failed : Counted old.failed new.failed
    pub withheld : Counted old.withheld new.withheld

  -- The call reached the other device, and was counted as a fault.
  pub record IsCutOff (old new : FuseDisk D disk) : Type 0 where
    pub reached : Counted (disk.calls old.disk) (disk.calls new.disk)
    pub left : new.left ≡ old.left
    pub failed : Counted old.failed new.failed
    pub withheld : new.withheld ≡ old.withheld

  -- A read or a sync: if no call is left, it is withheld and has this outcome. Else it is passed on.
  pub record WithholdsIfSpent (old new : FuseDisk D disk) (outcome : Type 0) : Type 0 where
    pub spent : old.left ≡ 0 → IsWithheld old new × outcome
    pub whole : 0 < old.left → IsPassed old new

  -- A write: if no call is left, it reaches the other device and fails. Else it is passed on.
  pub record CutsOffIfSpent (old new : FuseDisk D disk) (fails : Type 0) : Type 0 where
    pub spent : old.left ≡ 0 → IsCutOff old new × fails
    pub whole : 0 < old.left → IsPassed old new
