use Rattle.std.proofs.Common.{take}
use Rattle.btr_distil.proofs.PartLemmas.{IsBetween}
use Rattle.btr_distil.proofs.parts.between.Given as goal

-- The times of the ranges so far between the two times.
abbrev pub invariant-loop-range : goal.invariant-loop-range
invariant-loop-range l = IsBetween (take l.range-index l.range-items) l.from l.to l.kept
