-- How far a log was read: a gate, and the extents before it.
use Rattle.std.specs.Prelude.{◌≡◌, ℕ, ◌+◌, ◌*◌, ◌<◌, ◌≤◌}
use Rattle.btr_super.specs.declared.superblock.Super.{Super}
use Rattle.btr_open.specs.declared.place.Place.{Place}

-- The place is one in the log of the superblock: inside the store, and not before the gate from which the superblock says that the log is
-- read. Each entry has an extent, and each extent has at least two blocks.
pub record IsPlaceIn (found : Super) (entries : ℕ) (place : Place) : Type 0 where
  pub inside : place.gate < found.blocks
  pub counted : entries ≤ place.extents
  pub ends : 2 * place.extents + 4 ≤ place.gate
  pub after_start : found.tail ≤ place.gate

-- The place is the gate after an extent at the other one.
pub record IsPlaceAfter (old : Place) (next : ℕ) (new : Place) : Type 0 where
  pub gate : new.gate ≡ next
  pub extents : new.extents ≡ old.extents + 1
