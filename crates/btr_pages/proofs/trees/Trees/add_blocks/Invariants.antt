use Rattle.btr_pages.proofs.BlockLemmas.{AreAddedTo}
use Rattle.btr_pages.proofs.trees.Trees.add_blocks.Given as goal

-- The pages so far were added.
abbrev pub invariant-loop-i : goal.invariant-loop-i
invariant-loop-i g l = AreAddedTo l.i l.fn.self l.self l.first l.bytes
