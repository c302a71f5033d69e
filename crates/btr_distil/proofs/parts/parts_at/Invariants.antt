use Rattle.btr_distil.proofs.PartLemmas.{AreSoFar}
use Rattle.btr_distil.proofs.parts.parts_at.Given as goal

abbrev pub invariant-loop-time : goal.invariant-loop-time
invariant-loop-time l = AreSoFar l.cut l.parts.items l.rest
