use Rattle.std.proofs.Common.{[], ap, ◌∙◌, subst, sym, inl, arith}
use Rattle.std.proofs.lemmas.Result.{err_from_is_err_and}
use Rattle.btr_base.specs.Bag.{within}
use Rattle.btr_base.specs.Span.{SpanValue}
use Rattle.btr_tree.specs.History.{bag}
use Rattle.btr_tree.specs.Nodes.{points_of, above_root}
use Rattle.btr_tree.proofs.FromLemmas.{uses-refused, harmless-refused}
use Rattle.btr_tree.proofs.RootLemmas.{root-points}
use Rattle.btr_tree.proofs.VersionLemmas.{bag-in_order}
use Rattle.btr_window.specs.Accumulate.{add_points, counted, AreStarts}
use Rattle.btr_window.proofs.Cells.{cells-are, cells-as}
use Rattle.btr_window.proofs.Starts.{root-windows}
use Rattle.btr_window.proofs.window_walk.cells_from.Goals as goal

pub returns-in_err-at-clause-same : goal.returns-in_err-at-clause-same
returns-in_err-at-clause-same g c = c.in_err-at.ensures.uses.same

pub returns-in_err-at-clause-cause : goal.returns-in_err-at-clause-cause
returns-in_err-at-clause-cause g c =
    let p = err_from_is_err_and c.from_residual.result c.from_residual.ensures.1 in
    rw (p.1, p.2) (inl c.in_err-at.ensures.uses.cause)

pub walk_place-requires-clause-safe : goal.walk_place-requires-clause-safe
walk_place-requires-clause-safe g c = rw c.root_span.ensures c.in_ok-at.ensures.safe

pub walk_place-requires-clause-room : goal.walk_place-requires-clause-room
walk_place-requires-clause-room g c =
    let few = c.in_ok-at.ensures.safe.few in
    let none = ap counted c.new-cells.ensures.items in
    (subst (AreStarts c.args.grid) (sym c.new-cells.ensures.items) tt, omega arith)

pub walk_place-requires-clause-meets : goal.walk_place-requires-clause-meets
walk_place-requires-clause-meets g c =
    root-windows _ _ _ c.requires.grid c.requires.begins c.range.invariant c.range.view_is c.root_span.ensures

pub returns-in-Ok-clause-cells : goal.returns-in-Ok-clause-cells
returns-in-Ok-clause-cells g c o h is =
    let nodes = g.N.Nodes in
    let same = c.in_ok-at.ensures.uses.same in
    let grid = c.args.grid in
    let range = c.args.range in
    let part = c.root_span.result in
    let begins = c.requires.begins in
    let ends = c.requires.ends in
    let bounds = cells-as grid.first grid.width range.from range.to begins.0 ends.0 (bag h) begins.1 ends.1 (cells-are grid.first grid.width c.requires.grid.some begins.0 ends.0 (bag h) (bag-in_order h)) in
    c.in-Ok.ensures.cells above_root h (o, rw (c.root_span.ensures, same) (c.in_ok-at.ensures.at o h is))
    ∙ ap (λ old. add_points grid.first grid.width old (within range.from range.to (points_of part.height part.start (bag h)))) c.new-cells.ensures.items
    ∙ ap (λ (s : SpanValue). add_points grid.first grid.width [] (within range.from range.to (points_of s.height s.start (bag h)))) c.root_span.ensures
    ∙ ap (λ b. add_points grid.first grid.width [] (within range.from range.to b)) (root-points (bag h) is.is.times)
    ∙ bounds

pub returns-in-Ok-clause-same : goal.returns-in-Ok-clause-same
returns-in-Ok-clause-same g c = c.in-Ok.ensures.uses.same ∙ c.in_ok-at.ensures.uses.same

pub returns-in-Err-Want-clause-same : goal.returns-in-Err-Want-clause-same
returns-in-Err-Want-clause-same g c = c.in-Err-Want.ensures.uses.same ∙ c.in_ok-at.ensures.uses.same

pub returns : goal.returns
returns g c =
    let nodes = g.N.Nodes in
    let uses = uses-refused nodes.is_observable nodes.contents nodes.faults nodes.IsPage c.args.root c.args.nodes.now c.find_root.new.nodes c.walk_place.new.state _ _ _ c.in-Err-Refused.field-0-is c.in_ok-at.ensures.uses c.in-Err-Refused.ensures.uses in
    record {
      cells = λ o. tt;
      sound = λ o.
          harmless-refused nodes.is_observable nodes.contents nodes.faults nodes.IsPage c.args.root c.args.nodes.now c.find_root.new.nodes c.in_ok-at.at c.root_span.result _ _ o c.in-Err-Refused.field-0-is c.root_span.ensures c.in_ok-at.ensures.uses.same (c.in_ok-at.ensures.there o) c.in-Err-Refused.ensures.sound;
      same = uses.same;
      rises = uses.rises;
      cause = uses.cause;
    }
