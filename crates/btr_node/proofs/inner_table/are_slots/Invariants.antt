use Rattle.std.proofs.Common.{take}
use Rattle.std.specs.List.{AllByRecursion}
use Rattle.btr_node.specs.Page.{IsSlot}
use Rattle.btr_node.proofs.inner_table.are_slots.Given as goal

abbrev pub invariant-loop-slot : goal.invariant-loop-slot
invariant-loop-slot l = AllByRecursion (IsSlot l.version) (take l.slot-index l.slots)
