use Rattle.std.proofs.Common.{sym, subst, not}
use Rattle.btr_base.specs.Range.{covered}
use Rattle.btr_base.specs.Bag.{IsInOrder}
use Rattle.btr_base.proofs.PointLemmas.{filter-in_order}
use Rattle.btr_base.proofs.bag.Bag.outside.Goals as goal

pub invariant_of-result : goal.invariant_of-result
invariant_of-result c =
    subst IsInOrder (sym c.in_ok-points.ensures) (filter-in_order (λ p. not (covered c.as_slice.result.now p.time)) c.deref.result.now (subst IsInOrder (sym c.deref.ensures.value) c.self.invariant))
