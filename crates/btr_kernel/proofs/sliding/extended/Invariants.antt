use Rattle.std.proofs.Common.{◌≡◌, slice_range}
use Rattle.btr_base.specs.Agg.{agg}
use Rattle.btr_kernel.proofs.sliding.extended.Given as goal

abbrev pub invariant-loop-i : goal.invariant-loop-i
invariant-loop-i l = l.all ≡ agg (slice_range l.points l.mid l.i)
