-- Calls that only read a device.
use Rattle.btr_disk.specs.declared.disk.Disk.{Ghosts}
use Rattle.btr_disk.specs.Causes.{KeepsCounts}
use Rattle.btr_disk.specs.Moments.{WroteNothing}

module _ {D : Type 0} (disk : Ghosts D) where
  -- The calls between the two states wrote nothing.
  pub record OnlyReads (old new : D) : Type 0 where
    pub counts : KeepsCounts disk.size disk.calls disk.faults old new
    pub nothing : disk.is_observable → WroteNothing disk.calls disk.contents disk.images_now disk.images_since old new
