use Rattle.std.proofs.Common.{take}
use Rattle.btr_base.specs.Point.{AreInDomain}
use Rattle.btr_base.proofs.point.are_in_domain.Given as goal

abbrev pub invariant-loop-point : goal.invariant-loop-point
invariant-loop-point l = AreInDomain (take l.point-index l.points)
