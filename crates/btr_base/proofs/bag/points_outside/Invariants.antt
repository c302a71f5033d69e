use Rattle.std.proofs.Common.{◌≡◌, ◌≤◌, ◌++◌, length, drop}
use Rattle.btr_base.specs.Bag.{outside}
use Rattle.btr_base.proofs.bag.points_outside.Given as goal

abbrev pub invariant-loop-point : goal.invariant-loop-point
invariant-loop-point l =
    (l.first ≤ length l.ranges) × (l.kept.items ++ outside (drop l.point-index l.points) (drop l.first l.ranges) ≡ outside l.points l.ranges)
