use Rattle.btr_pages.specs.Made.{ArePartsTo}
use Rattle.btr_pages.proofs.children.parts_of.Given as goal

-- The parts so far are those of the slots.
abbrev pub invariant-loop-i : goal.invariant-loop-i
invariant-loop-i l = ArePartsTo l.i l.nodes l.block l.span l.stream l.slots l.parts.items
