-- The command `format`: the store that it makes, what a crash leaves, and why the command ends as it does.
use Rattle.std.specs.Prelude.{◌≡◌, ◌⊎◌, ℕ, ◌<◌, ◌≤◌}
use Rattle.btr_disk.specs.declared.disk.Disk.{Ghosts}
use Rattle.btr_disk.specs.Images.{Only}
use Rattle.btr_disk.specs.Causes.{Rose, CountedTimes}
use Rattle.btr_super.specs.Format as format
use Rattle.btr_top.specs.declared.ending.Ending.{Ending}
use Rattle.btr_top.specs.declared.ending.Ending.TheVariants.{NoDevice, Occupied, TooSmall, Formatted}
use Rattle.btr_disk.specs.Moments.{IsUnwritten}

module _ {D : Type 0} (disk : Ghosts D) where
  -- The device had no store. Now it has an empty one of this many blocks, all else is as before, and no crash takes it away.
  pub record Formats (blocks : ℕ) (old new : D) : Type 0 where
    pub was_free : format.HasClosedGates (disk.contents old)
    pub made : format.Formatted (disk.size old) blocks (disk.contents old) (disk.contents new)
    pub durable : Only (disk.contents new) (disk.images_now new)

  -- The device had a store, which is kept.
  pub record KeepsStore (old new : D) : Type 0 where
    pub block : ℕ
    pub was_there : format.IsOccupied (disk.contents old) block
    pub kept : IsUnwritten disk.calls disk.contents disk.images_now disk.images_since old new

  -- A crash at any moment of formatting. Either nothing was written; or the writes began, and then a crash leaves no open gate or the
  -- whole empty store.
  abbrev pub FormatLeaves : ℕ → D → D → Type 0
  FormatLeaves blocks old new =
      IsUnwritten disk.calls disk.contents disk.images_now disk.images_since old new
      ⊎ ((start : D) × format.WritesFrom disk.calls disk.contents disk.images_now disk.images_since
      (format.IsFormatting (disk.size old) blocks (disk.contents old)) old start new)

  -- The device has room for a store of this many blocks, and has no store.
  pub record CanFormat (blocks : ℕ) (old : D) : Type 0 where
    pub fits : blocks ≤ disk.size old
    pub is_free : format.HasClosedGates (disk.contents old)

  -- Why `format` ends so. A store is made by eight calls of the device.
  abbrev pub FormatCause : ℕ → D → D → Ending → Type 0
  FormatCause blocks old new (TooSmall asked has) = (asked ≡ blocks) × (has ≡ disk.size old) × (has < asked) × (new ≡ old)
  FormatCause blocks old new NoDevice = (blocks ≤ disk.size old) × Rose (disk.faults old) (disk.faults new)
  FormatCause blocks old new Occupied = (blocks ≤ disk.size old) × (disk.is_observable → KeepsStore old new)
  FormatCause blocks old new (Formatted made) =
      (made ≡ blocks) × (blocks ≤ disk.size old) × CountedTimes 8 (disk.calls old) (disk.calls new)
      × (disk.is_observable → Formats blocks old new)
  FormatCause blocks old new _ = ⊥
