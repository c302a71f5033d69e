use Rattle.std.proofs.Common.{◌≡◌, ℕ, suc, ◌+◌, ◌*◌, length}
use Rattle.btr_base.specs.Bag.{outside, within}
use Rattle.btr_tree.specs.History.{bag, Past}
use Rattle.btr_tree.specs.Shape.{HasSlots, HasChildren, slot_start}
use Rattle.btr_tree.proofs.outside.+count.Given as goal

-- How many points of the slots so far the cut leaves.
abbrev pub invariant-count_outside_slots-loop-i : goal.invariant-count_outside_slots-loop-i
invariant-count_outside_slots-loop-i l = (below : ℕ) (h : Past) → l.span.height ≡ suc below → HasSlots below l.span.start h l.slots → HasChildren below l.span.start h l.slots → l.left ≡ length (outside (within l.span.start (slot_start below l.span.start l.i) (bag h)) l.cut)

abbrev pub decreases-count_outside_slots : goal.decreases-count_outside_slots
decreases-count_outside_slots l = 2 * l.span.height

abbrev pub decreases-count_outside_slot : goal.decreases-count_outside_slot
decreases-count_outside_slot l = 2 * l.span.height + 1
