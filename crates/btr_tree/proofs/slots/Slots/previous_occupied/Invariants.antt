use Rattle.std.proofs.Common.{◌≤◌}
use Rattle.btr_tree.specs.Slots.{slot_in, AreEmpty}
use Rattle.btr_tree.proofs.slots.Slots.previous_occupied.Given as goal

abbrev pub invariant-loop-i : goal.invariant-loop-i
invariant-loop-i l = record {
  low : l.i ≤ l.to;
  none : AreEmpty (slot_in l.self) l.i l.to;
}

abbrev pub decreases-loop-i : goal.decreases-loop-i
decreases-loop-i l = l.i
