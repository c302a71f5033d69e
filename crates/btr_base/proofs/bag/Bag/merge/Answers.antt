use Rattle.std.proofs.Common.{◌++◌, sym, subst}
use Rattle.btr_base.specs.Bag.{IsInOrder}
use Rattle.btr_base.proofs.PointLemmas.{sort-in_order}
use Rattle.btr_base.proofs.bag.Bag.merge.Goals as goal

pub invariant_of-result : goal.invariant_of-result
invariant_of-result c =
    subst IsInOrder (sym c.in_ok-points.ensures) (sort-in_order (c.deref.result.now ++ c.deref-2.result.now))
