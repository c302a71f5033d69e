use Rattle.std.proofs.Common.{ap, arith}
use Rattle.std.specs.Ordering.{int_eq}
use Rattle.btr_base.specs.declared.point.Point.{Point}
use Rattle.btr_base.proofs.AggLemmas.{agg-count}
use Rattle.btr_base.proofs.ListLemmas.{length-filter}
use Rattle.btr_kernel.proofs.eval_at.computed.Goals as goal

pub of_total-requires : goal.of_total-requires
of_total-requires c =
    let b = c.args.first.now in
    omega (arith, ap (λ s. s.count) c.of_points.ensures, agg-count b, length-filter (λ (p : Point). int_eq p.time c.args.t) b, c.requires.anchor)
