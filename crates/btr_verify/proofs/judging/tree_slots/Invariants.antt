use Rattle.std.proofs.Common.{◌≡◌, length, take, map}
use Rattle.btr_tree.specs.PageNodes.{slot_of_page}
use Rattle.btr_verify.proofs.judging.tree_slots.Given as goal

-- The slots so far are those of the page.
abbrev pub invariant-loop-i : goal.invariant-loop-i
invariant-loop-i l = (length l.all ≡ 64) × (take l.i l.all ≡ take l.i (map slot_of_page l.slots))
