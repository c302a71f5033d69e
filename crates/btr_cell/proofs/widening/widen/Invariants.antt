use Rattle.std.proofs.Common.{◌≡◌, ℤ, map, take}
use Rattle.btr_base.specs.Range.{covered}
use Rattle.btr_hist.specs.Distil.{whole}
use Rattle.btr_cell.proofs.widening.widen.Given as goal

-- The times of the windows that the ranges so far meet.
abbrev pub invariant-loop-range : goal.invariant-loop-range
invariant-loop-range l =
    (t : ℤ) → covered l.all t ≡ covered (map (whole l.p) (take l.range-index l.range-items)) t
