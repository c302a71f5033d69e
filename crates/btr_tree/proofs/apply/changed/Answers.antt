use Rattle.std.proofs.Common.{◌∙◌, sym, subst}
use Rattle.btr_base.specs.Bag.{IsInOrder}
use Rattle.btr_base.proofs.PointLemmas.{filter-in_order}
use Rattle.btr_tree.proofs.apply.changed.Goals as goal

pub merged-requires-clause-a : goal.merged-requires-clause-a
merged-requires-clause-a c =
    subst IsInOrder (sym (c.deref.ensures.value ∙ c.in_ok-kept.ensures)) (filter-in_order _ c.args.points.now c.requires.points)
