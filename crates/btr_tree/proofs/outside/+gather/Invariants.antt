use Rattle.std.proofs.Common.{◌≡◌, ℕ, suc, ◌+◌, ◌*◌, ◌++◌}
use Rattle.btr_base.specs.Bag.{outside, within}
use Rattle.btr_tree.specs.History.{bag, Past}
use Rattle.btr_tree.specs.Shape.{HasSlots, HasChildren, slot_start}
use Rattle.btr_tree.proofs.outside.+gather.Given as goal

-- The points of the slots so far that the cut leaves.
abbrev pub invariant-gather_outside_slots-loop-i : goal.invariant-gather_outside_slots-loop-i
invariant-gather_outside_slots-loop-i l = (below : ℕ) (h : Past) → l.span.height ≡ suc below → HasSlots below l.span.start h l.slots → HasChildren below l.span.start h l.slots → l.out.items ≡ l.fn.out.items ++ outside (within l.span.start (slot_start below l.span.start l.i) (bag h)) l.cut

abbrev pub decreases-gather_outside_slots : goal.decreases-gather_outside_slots
decreases-gather_outside_slots l = 2 * l.span.height

abbrev pub decreases-gather_outside_slot : goal.decreases-gather_outside_slot
decreases-gather_outside_slot l = 2 * l.span.height + 1
