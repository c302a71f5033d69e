use Rattle.std.proofs.Common.{take}
use Rattle.std.specs.List.{AllByRecursion}
use Rattle.btr_node.specs.Page.{IsUnused}
use Rattle.btr_node.proofs.leaf_table.are_unused.Given as goal

abbrev pub invariant-loop-place : goal.invariant-loop-place
invariant-loop-place l = AllByRecursion IsUnused (take l.place-index l.places)
