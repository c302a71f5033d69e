use Rattle.btr_verify.proofs.MarkLemmas.{HasMarked}
use Rattle.btr_verify.proofs.marking.mark_blocks.Given as goal

-- The blocks so far have marks.
abbrev pub invariant-loop-block : goal.invariant-loop-block
invariant-loop-block g l = HasMarked g.D.Disk l.tail l.nodes l.snapshot l.fn.disk l.disk l.piece l.block l.marks.items
