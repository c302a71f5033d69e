use Rattle.std.proofs.Common.{◌≡◌, ℤ, take}
use Rattle.btr_base.specs.Range.{covered}
use Rattle.btr_hist.proofs.Differ.{hits}
use Rattle.btr_hist.proofs.changed.changed_ranges.Given as goal

abbrev pub invariant-loop-point : goal.invariant-loop-point
invariant-loop-point l = (t : ℤ) → covered l.found t ≡ hits l.p l.old l.new t (take l.point-index l.point-items)
