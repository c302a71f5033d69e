use Rattle.std.proofs.Common.{ap, ◌∙◌, subst, sym, arith}
use Rattle.btr_base.proofs.AggLemmas.{joined-none}
use Rattle.btr_base.specs.Agg.{AggValue, agg_within, joined}
use Rattle.btr_base.specs.Span.{SpanValue}
use Rattle.btr_tree.specs.History.{bag}
use Rattle.btr_tree.specs.Nodes.{points_of, above_root}
use Rattle.btr_tree.specs.EachHistory.{points_in}
use Rattle.btr_tree.proofs.MemoryLemmas.{link-few}
use Rattle.btr_tree.proofs.RootLemmas.{root-meets, root-points}
use Rattle.btr_tree.specs.Shape.{IsChild}
use Rattle.btr_tree.specs.Slots.{node_of}
use Rattle.btr_window.proofs.range_aggregate.aggregate.Goals as goal

pub sum_in_place-requires-clause-room : goal.sum_in_place-requires-clause-room
sum_in_place-requires-clause-room g c =
    let few = link-few _ _ (node_of c.link.result) c.link.ensures.some in
    let none = ap (λ (a : AggValue). a.count) c.none-all.ensures in
    omega arith

pub sum_in_place-requires-clause-meets : goal.sum_in_place-requires-clause-meets
sum_in_place-requires-clause-meets g c = root-meets _ _ _ c.range.invariant c.range.view_is c.root_span.ensures

pub returns-clause-agg : goal.returns-clause-agg
returns-clause-agg g c h tree =
    let range = c.args.range in
    let place = subst (λ (s : SpanValue). IsChild s.height s.start above_root h (node_of c.link.result)) (sym c.root_span.ensures) (c.link.ensures.child h tree) in
    c.in-Ok.ensures.agg above_root h place
    ∙ ap (λ a. joined a (agg_within range.from range.to (points_in c.root_span.result (bag h)))) c.none-all.ensures
    ∙ joined-none (agg_within range.from range.to (points_in c.root_span.result (bag h)))
    ∙ ap (λ (s : SpanValue). agg_within range.from range.to (points_of s.height s.start (bag h))) c.root_span.ensures
    ∙ ap (agg_within range.from range.to) (root-points (bag h) tree.times)
