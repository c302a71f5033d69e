use Rattle.std.proofs.Common.{ap, ◌∙◌, inl, arith}
use Rattle.std.proofs.lemmas.Result.{err_from_is_err_and}
use Rattle.btr_base.proofs.AggLemmas.{joined-none}
use Rattle.btr_base.specs.Agg.{AggValue, agg_within, joined}
use Rattle.btr_base.specs.Span.{SpanValue}
use Rattle.btr_tree.specs.History.{bag}
use Rattle.btr_tree.specs.Nodes.{points_of, above_root}
use Rattle.btr_tree.specs.EachHistory.{points_in}
use Rattle.btr_tree.proofs.FromLemmas.{uses-walk}
use Rattle.btr_tree.proofs.RootLemmas.{root-meets, root-points}
use Rattle.btr_window.proofs.range_aggregate.aggregate_from.Goals as goal

pub returns-in_err-at-clause-same : goal.returns-in_err-at-clause-same
returns-in_err-at-clause-same g c = c.in_err-at.ensures.uses.same

pub returns-in_err-at-clause-cause : goal.returns-in_err-at-clause-cause
returns-in_err-at-clause-cause g c =
    let p = err_from_is_err_and c.from_residual.result c.from_residual.ensures.1 in
    rw (p.1, p.2) (inl c.in_err-at.ensures.uses.cause)

pub sum_in_place-requires-clause-safe : goal.sum_in_place-requires-clause-safe
sum_in_place-requires-clause-safe g c = rw c.root_span.ensures c.in_ok-at.ensures.safe

pub sum_in_place-requires-clause-room : goal.sum_in_place-requires-clause-room
sum_in_place-requires-clause-room g c =
    let few = c.in_ok-at.ensures.safe.few in
    let none = ap (λ (a : AggValue). a.count) c.none-all.ensures in
    omega arith

pub sum_in_place-requires-clause-meets : goal.sum_in_place-requires-clause-meets
sum_in_place-requires-clause-meets g c = root-meets _ _ _ c.range.invariant c.range.view_is c.root_span.ensures

pub returns-in-Ok-clause-agg : goal.returns-in-Ok-clause-agg
returns-in-Ok-clause-agg g c o h is =
    let nodes = g.N.Nodes in
    let range = c.args.range in
    let part = c.root_span.result in
    let same = c.in_ok-at.ensures.uses.same in
    c.in-Ok.ensures.agg above_root h (o, rw (c.root_span.ensures, same) (c.in_ok-at.ensures.at o h is))
    ∙ ap (λ a. joined a (agg_within range.from range.to (points_in part (bag h)))) c.none-all.ensures
    ∙ joined-none (agg_within range.from range.to (points_in part (bag h)))
    ∙ ap (λ (s : SpanValue). agg_within range.from range.to (points_of s.height s.start (bag h))) c.root_span.ensures
    ∙ ap (agg_within range.from range.to) (root-points (bag h) is.is.times)

pub returns-in-Ok-clause-same : goal.returns-in-Ok-clause-same
returns-in-Ok-clause-same g c = c.in-Ok.ensures.uses.same ∙ c.in_ok-at.ensures.uses.same

pub returns-in-Err-clause-same : goal.returns-in-Err-clause-same
returns-in-Err-clause-same g c = c.in-Err.ensures.uses.same ∙ c.in_ok-at.ensures.uses.same

pub returns-in-Err-clause-sound : goal.returns-in-Err-clause-sound
returns-in-Err-clause-sound g c o h is =
    let nodes = g.N.Nodes in
    let same = c.in_ok-at.ensures.uses.same in
    c.in-Err.ensures.sound above_root h (o, rw (c.root_span.ensures, same) (c.in_ok-at.ensures.there o h is))

pub returns-in-Err-clause-cause : goal.returns-in-Err-clause-cause
returns-in-Err-clause-cause g c =
    let nodes = g.N.Nodes in
    let uses = uses-walk nodes.is_observable nodes.contents nodes.faults nodes.IsPage c.args.root c.args.nodes.now c.find_root.new.nodes c.sum_in_place.new.state _ _ c.in_ok-at.ensures.uses c.in-Err.ensures.uses in
    uses.cause
