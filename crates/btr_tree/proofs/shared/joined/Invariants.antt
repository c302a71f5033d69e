use Rattle.btr_tree.specs.Shared.{AreJoined}
use Rattle.btr_tree.proofs.shared.joined.Given as goal

-- The slots of the first part, and those of the second before the next one.
abbrev pub invariant-loop-i : goal.invariant-loop-i
invariant-loop-i l = AreJoined l.fn.mid l.i l.fn.front.slots l.fn.back.slots l.slots
