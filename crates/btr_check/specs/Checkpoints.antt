-- The checkpoints of a log, as a check keeps them.
use Rattle.btr_open.specs.Seen.{Mark}
use Rattle.btr_check.specs.declared.checkpoints.Checkpoint.{Checkpoint}

-- The extent of a checkpoint.
abbrev pub mark_of : Checkpoint → Mark
mark_of c = record { gate = c.gate; next = c.next }
