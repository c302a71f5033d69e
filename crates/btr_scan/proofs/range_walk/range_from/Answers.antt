use Rattle.std.proofs.Common.{◌++◌, ◌∙◌, ap, inl}
use Rattle.std.proofs.lemmas.Result.{err_from_is_err_and}
use Rattle.btr_base.specs.Bag.{within}
use Rattle.btr_base.specs.Span.{SpanValue}
use Rattle.btr_tree.specs.History.{bag}
use Rattle.btr_tree.specs.Nodes.{points_of, above_root}
use Rattle.btr_tree.proofs.FromLemmas.{uses-refused, harmless-refused}
use Rattle.btr_tree.proofs.RootLemmas.{root-meets, root-points}
use Rattle.btr_scan.proofs.range_walk.range_from.Goals as goal

pub returns-in_err-at-clause-same : goal.returns-in_err-at-clause-same
returns-in_err-at-clause-same g c = c.in_err-at.ensures.uses.same

pub returns-in_err-at-clause-cause : goal.returns-in_err-at-clause-cause
returns-in_err-at-clause-cause g c =
    let p = err_from_is_err_and c.from_residual.result c.from_residual.ensures.1 in
    rw (p.1, p.2) (inl c.in_err-at.ensures.uses.cause)

pub append_in_place-requires-clause-safe : goal.append_in_place-requires-clause-safe
append_in_place-requires-clause-safe g c = rw c.root_span.ensures c.in_ok-at.ensures.safe

pub append_in_place-requires-clause-meets : goal.append_in_place-requires-clause-meets
append_in_place-requires-clause-meets g c = root-meets _ _ _ c.range.invariant c.range.view_is c.root_span.ensures

pub returns-in-Ok-clause-rows : goal.returns-in-Ok-clause-rows
returns-in-Ok-clause-rows g c o h is =
    let nodes = g.N.Nodes in
    let range = c.args.range in
    let part = c.root_span.result in
    let same = c.in_ok-at.ensures.uses.same in
    c.in-Ok.ensures.rows above_root h (o, rw (c.root_span.ensures, same) (c.in_ok-at.ensures.at o h is))
    ∙ ap (λ old. old ++ within range.from range.to (points_of part.height part.start (bag h))) c.new-rows.ensures.items
    ∙ ap (λ (u : SpanValue). within range.from range.to (points_of u.height u.start (bag h))) c.root_span.ensures
    ∙ ap (within range.from range.to) (root-points (bag h) is.is.times)

pub returns-in-Ok-clause-same : goal.returns-in-Ok-clause-same
returns-in-Ok-clause-same g c = c.in-Ok.ensures.uses.same ∙ c.in_ok-at.ensures.uses.same

pub returns-in-Err-Want-clause-same : goal.returns-in-Err-Want-clause-same
returns-in-Err-Want-clause-same g c = c.in-Err-Want.ensures.uses.same ∙ c.in_ok-at.ensures.uses.same

pub returns : goal.returns
returns g c =
    let nodes = g.N.Nodes in
    let uses = uses-refused nodes.is_observable nodes.contents nodes.faults nodes.IsPage c.args.root c.args.nodes.now c.find_root.new.nodes c.append_in_place.new.state _ _ _ c.in-Err-Refused.field-0-is c.in_ok-at.ensures.uses c.in-Err-Refused.ensures.uses in
    record {
      rows = λ o. tt;
      sound = λ o.
          harmless-refused nodes.is_observable nodes.contents nodes.faults nodes.IsPage c.args.root c.args.nodes.now c.find_root.new.nodes c.in_ok-at.at c.root_span.result _ _ o c.in-Err-Refused.field-0-is c.root_span.ensures c.in_ok-at.ensures.uses.same (c.in_ok-at.ensures.there o) c.in-Err-Refused.ensures.sound;
      same = uses.same;
      rises = uses.rises;
      cause = uses.cause;
    }
