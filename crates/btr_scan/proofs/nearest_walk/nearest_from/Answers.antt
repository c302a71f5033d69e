use Rattle.std.proofs.Common.{List, ◌∙◌, ap, inl, w64}
use Rattle.std.proofs.lemmas.Int.{to_z-of_z}
use Rattle.std.proofs.lemmas.Result.{IfOk-weaker, IfErr-weaker, err_from_is_err_and}
use Rattle.btr_base.specs.Nearest.{nearest as nearest_in}
use Rattle.btr_base.specs.Span.{SpanValue}
use Rattle.btr_base.specs.declared.point.Point.{Point}
use Rattle.btr_tree.specs.History.{bag}
use Rattle.btr_tree.specs.Nodes.{points_of, above_root}
use Rattle.btr_tree.proofs.FromLemmas.{uses-walk}
use Rattle.btr_tree.proofs.RootLemmas.{root-points}
use Rattle.btr_scan.proofs.nearest_walk.nearest_from.Goals as goal

pub returns-in_err-at-clause-same : goal.returns-in_err-at-clause-same
returns-in_err-at-clause-same g c = c.in_err-at.ensures.uses.same

pub returns-in_err-at-clause-cause : goal.returns-in_err-at-clause-cause
returns-in_err-at-clause-cause g c =
    let p = err_from_is_err_and c.from_residual.result c.from_residual.ensures.1 in
    rw (p.1, p.2) (inl c.in_err-at.ensures.uses.cause)

pub nearest_in_place-requires : goal.nearest_in_place-requires
nearest_in_place-requires g c = record { safe = rw c.root_span.ensures c.in_ok-at.ensures.safe }

pub returns-clause-point : goal.returns-clause-point
returns-clause-point g c o =
    let nodes = g.N.Nodes in
    let part = c.root_span.result in
    let same = c.in_ok-at.ensures.uses.same in
    IfOk-weaker c.nearest_in_place.result _ _ (λ r said h is.
    said above_root h (o, rw (c.root_span.ensures, same) (c.in_ok-at.ensures.at o h is))
    ∙ ap (λ t. nearest_in c.args.toward t (points_of part.height part.start (bag h))) (to_z-of_z w64 c.args.time c.ranges.time)
    ∙ ap (λ (u : SpanValue). nearest_in c.args.toward c.args.time (points_of u.height u.start (bag h))) c.root_span.ensures
    ∙ ap (λ (b : List Point). nearest_in c.args.toward c.args.time b) (root-points (bag h) is.is.times)) c.nearest_in_place.ensures.point

pub returns-clause-sound : goal.returns-clause-sound
returns-clause-sound g c o =
    let nodes = g.N.Nodes in
    let same = c.in_ok-at.ensures.uses.same in
    IfErr-weaker c.nearest_in_place.result _ _ (λ e said h is. said above_root h (o, rw (c.root_span.ensures, same) (c.in_ok-at.ensures.there o h is))) c.nearest_in_place.ensures.sound

pub returns-clause-same : goal.returns-clause-same
returns-clause-same g c = c.nearest_in_place.ensures.uses.same ∙ c.in_ok-at.ensures.uses.same

pub returns-clause-cause : goal.returns-clause-cause
returns-clause-cause g c =
    let nodes = g.N.Nodes in
    let uses = uses-walk nodes.is_observable nodes.contents nodes.faults nodes.IsPage c.args.root c.args.nodes.now c.find_root.new.nodes c.nearest_in_place.new.state _ c.nearest_in_place.result c.in_ok-at.ensures.uses c.nearest_in_place.ensures.uses in
    uses.cause
