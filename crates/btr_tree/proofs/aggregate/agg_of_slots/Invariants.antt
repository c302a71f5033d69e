use Rattle.std.proofs.Common.{◌≡◌}
use Rattle.btr_tree.specs.Change.{joined_first}
use Rattle.btr_tree.specs.Slots.{slot_in}
use Rattle.btr_tree.proofs.aggregate.agg_of_slots.Given as goal

abbrev pub invariant-loop-i : goal.invariant-loop-i
invariant-loop-i l = l.all ≡ joined_first l.i (slot_in l.slots)
