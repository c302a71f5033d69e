use Rattle.btr_verify.proofs.DownLemmas.{HasGone}
use Rattle.btr_verify.proofs.descending.descend.Given as goal

-- The way so far.
abbrev pub invariant-loop-child : goal.invariant-loop-child
invariant-loop-child g l = HasGone g.D.Disk l.tail l.marks l.block l.at l.fn.disk l.disk l.piece

-- The blocks fall.
abbrev pub decreases-loop-child : goal.decreases-loop-child
decreases-loop-child g l = l.at
