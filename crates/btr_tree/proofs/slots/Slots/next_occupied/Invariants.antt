use Rattle.btr_tree.specs.Slots.{slot_in, AreEmpty}
use Rattle.btr_tree.proofs.slots.Slots.next_occupied.Given as goal

abbrev pub invariant-loop-i : goal.invariant-loop-i
invariant-loop-i l = AreEmpty (slot_in l.self) l.from l.i
