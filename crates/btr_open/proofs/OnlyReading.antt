-- Calls of a log that only read.
use Rattle.std.proofs.Common.{◌∙◌}
use Rattle.btr_disk.specs.declared.disk.Disk.{Ghosts}
use Rattle.btr_log.specs.declared.log.Log.{Log}
use Rattle.btr_log.specs.Log.{log_device}
use Rattle.btr_open.specs.Reading.{ReadsLog}
use Rattle.btr_log.proofs.OnlyReading.{OnlyReads-trans}

module _ {D : Type 0} {disk : Ghosts D} where
  -- Calls on a log that only read, followed by others that only read.
  pub ReadsLog-trans : (old mid new : Log D disk) → ReadsLog old mid → ReadsLog mid new → ReadsLog old new
  ReadsLog-trans old mid new first second = record {
    kept = record {
      tail = second.kept.tail ∙ first.kept.tail;
      blocks = second.kept.blocks ∙ first.kept.blocks;
      extents = second.kept.extents ∙ first.kept.extents;
      stopped = second.kept.stopped ∙ first.kept.stopped;
      faults = second.kept.faults ∙ first.kept.faults;
    };
    reads = OnlyReads-trans (log_device old) (log_device mid) (log_device new) first.reads second.reads;
  }
