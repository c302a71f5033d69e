use Rattle.std.proofs.Common.{◌++◌, ◌∙◌, ap, sym, subst}
use Rattle.btr_base.specs.Bag.{within}
use Rattle.btr_base.specs.Span.{SpanValue}
use Rattle.btr_tree.specs.History.{bag}
use Rattle.btr_tree.specs.Slots.{node_of}
use Rattle.btr_tree.specs.Nodes.{points_of, above_root}
use Rattle.btr_tree.specs.Shape.{IsChild}
use Rattle.btr_tree.proofs.RootLemmas.{root-meets, root-points}
use Rattle.btr_scan.proofs.range_walk.append_range.Goals as goal

pub append_in_place-requires-clause-meets : goal.append_in_place-requires-clause-meets
append_in_place-requires-clause-meets c = root-meets _ _ _ c.range.invariant c.range.view_is c.root_span.ensures

pub returns-in-Ok : goal.returns-in-Ok
returns-in-Ok c h tree =
    let place = subst (λ (u : SpanValue). IsChild u.height u.start above_root h (node_of c.link.result)) (sym c.root_span.ensures) (c.link.ensures.child h tree) in
    c.in-Ok.ensures.rows above_root h place
    ∙ ap (λ (u : SpanValue). c.args.rows.now.items ++ within c.args.range.from c.args.range.to (points_of u.height u.start (bag h))) c.root_span.ensures
    ∙ ap (λ x. c.args.rows.now.items ++ within c.args.range.from c.args.range.to x) (root-points (bag h) tree.times)
