use Rattle.std.proofs.Common.{List, ◌∙◌, ap, sym, subst, w64}
use Rattle.std.proofs.lemmas.Int.{to_z-of_z}
use Rattle.btr_base.specs.Nearest.{nearest as nearest_in}
use Rattle.btr_base.specs.Span.{SpanValue}
use Rattle.btr_base.specs.declared.point.Point.{Point}
use Rattle.btr_tree.specs.History.{bag}
use Rattle.btr_tree.specs.Nodes.{points_of, above_root}
use Rattle.btr_tree.specs.Shape.{IsChild}
use Rattle.btr_tree.specs.Slots.{node_of}
use Rattle.btr_tree.proofs.RootLemmas.{root-points}
use Rattle.btr_scan.proofs.nearest_walk.nearest.Goals as goal

pub returns-clause-point : goal.returns-clause-point
returns-clause-point g c h tree =
    let place = subst (λ (u : SpanValue). IsChild u.height u.start above_root h (node_of c.link.result)) (sym c.root_span.ensures) (c.link.ensures.child h tree) in
    c.in-Ok.ensures.point above_root h place
    ∙ ap (λ t. nearest_in c.args.toward t (points_of c.root_span.result.height c.root_span.result.start (bag h))) (to_z-of_z w64 c.args.time c.ranges.time)
    ∙ ap (λ (u : SpanValue). nearest_in c.args.toward c.args.time (points_of u.height u.start (bag h))) c.root_span.ensures
    ∙ ap (λ (b : List Point). nearest_in c.args.toward c.args.time b) (root-points (bag h) tree.times)
