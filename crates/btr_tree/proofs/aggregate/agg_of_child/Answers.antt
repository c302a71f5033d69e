use Rattle.std.proofs.Common.{◌∙◌, ap, sym}
use Rattle.btr_base.specs.Agg.{agg}
use Rattle.btr_tree.specs.History.{bag}
use Rattle.btr_tree.specs.Nodes.{points_of}
use Rattle.btr_tree.proofs.NodeLemmas.{child-is, inner_data-is, total-of}
use Rattle.btr_tree.proofs.aggregate.agg_of_child.Goals as goal

pub returns-in-Inner : goal.returns-in-Inner
returns-in-Inner c height start above h holds =
    let node = child-is height start above h c.args.child c.in-Some.node c.in-Some.is holds in
    let body = inner_data-is height start above h c.in-Some.node.now.value c.in-Inner.version c.in-Inner.slots (sym c.deref.ensures ∙ c.in-Inner.is) node in
    c.agg_of_slots.ensures
    ∙ total-of body.below start h c.in-Inner.slots body.inner.all
    ∙ ap (λ k. agg (points_of k start (bag h))) (sym body.height)
