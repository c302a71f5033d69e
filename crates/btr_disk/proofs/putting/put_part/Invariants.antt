use Rattle.std.specs.Prelude.{◌-◌, ◌≤◌}
use Rattle.btr_disk.specs.Put.{HasBlocksBetween}
use Rattle.btr_disk.proofs.putting.put_part.Given as goal

-- The blocks below `at` are put.
abbrev pub invariant-loop-at : goal.invariant-loop-at
invariant-loop-at g l =
    (l.from ≤ l.at) × (l.at ≤ l.to)
    × HasBlocksBetween ((goal.BlockSink-dyn g l.sink.now).has_block l.sink.now.1) l.from l.at (g.B.Blocks.bytes l.source)

abbrev pub decreases-loop-at : goal.decreases-loop-at
decreases-loop-at g l = l.to - l.at
