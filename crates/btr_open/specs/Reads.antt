-- Why a part of a store was not read.
use Rattle.std.specs.Prelude.{ℕ}
use Rattle.btr_disk.specs.declared.disk.Disk.{Ghosts}
use Rattle.btr_disk.specs.Causes.{Rose}
use Rattle.btr_open.specs.declared.opening.OpenCause.{OpenCause}
use Rattle.btr_open.specs.declared.opening.OpenCause.TheVariants.{NotAStore, Damaged, Fault, Want}

module _ {D : Type 0} (disk : Ghosts D) where
  -- Why a part of a store was not read, if it is this that breaks the format in a block.
  abbrev pub PartCause : (ℕ → Type 0) → D → D → OpenCause → Type 0
  PartCause Breaks old new NotAStore = ⊥
  PartCause Breaks old new (Damaged block) = disk.is_observable → Breaks block
  PartCause Breaks old new Fault = Rose (disk.faults old) (disk.faults new)
  PartCause Breaks old new Want = Unit {0}
