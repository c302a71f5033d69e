use Rattle.std.proofs.Common.{◌≡◌, ℤ, map, take}
use Rattle.btr_base.specs.Range.{covered}
use Rattle.btr_kernel.specs.Past.{begun_earlier}
use Rattle.btr_kernel.proofs.gather.with_past.Given as goal

-- The times of the ranges so far, each begun earlier.
abbrev pub invariant-loop-range : goal.invariant-loop-range
invariant-loop-range l =
    (t : ℤ) → covered l.all t ≡ covered (map (begun_earlier l.lead) (take l.range-index l.range-items)) t
