use Rattle.std.proofs.Common.{take}
use Rattle.std.specs.List.{AllByRecursion}
use Rattle.btr_node.specs.Page.{IsInside}
use Rattle.btr_node.proofs.leaf_table.are_inside.Given as goal

abbrev pub invariant-loop-point : goal.invariant-loop-point
invariant-loop-point l = AllByRecursion (IsInside l.span.start l.span.height) (take l.point-index l.points)
