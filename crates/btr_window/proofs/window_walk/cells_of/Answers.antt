use Rattle.std.proofs.Common.{[], ap, ◌∙◌, subst, sym, arith}
use Rattle.btr_base.specs.Bag.{within}
use Rattle.btr_base.specs.Span.{SpanValue}
use Rattle.btr_tree.specs.History.{bag}
use Rattle.btr_tree.specs.Nodes.{points_of, above_root}
use Rattle.btr_tree.proofs.MemoryLemmas.{link-few}
use Rattle.btr_tree.proofs.RootLemmas.{root-points}
use Rattle.btr_tree.specs.Shape.{IsChild}
use Rattle.btr_tree.specs.Slots.{node_of}
use Rattle.btr_tree.proofs.VersionLemmas.{bag-in_order}
use Rattle.btr_window.specs.Accumulate.{add_points, counted, AreStarts}
use Rattle.btr_window.proofs.Cells.{cells-are, cells-as}
use Rattle.btr_window.proofs.Starts.{root-windows}
use Rattle.btr_window.proofs.window_walk.cells_of.Goals as goal

pub walk_place-requires-clause-room : goal.walk_place-requires-clause-room
walk_place-requires-clause-room c =
    let few = link-few _ _ (node_of c.link.result) c.link.ensures.some in
    let none = ap counted c.new-cells.ensures.items in
    (subst (AreStarts c.args.grid) (sym c.new-cells.ensures.items) tt, omega arith)

pub walk_place-requires-clause-meets : goal.walk_place-requires-clause-meets
walk_place-requires-clause-meets c =
    root-windows _ _ _ c.requires.grid c.requires.begins c.range.invariant c.range.view_is c.root_span.ensures

pub returns-in-Ok : goal.returns-in-Ok
returns-in-Ok c h tree =
    let grid = c.args.grid in
    let range = c.args.range in
    let begins = c.requires.begins in
    let ends = c.requires.ends in
    let place = subst (λ (s : SpanValue). IsChild s.height s.start above_root h (node_of c.link.result)) (sym c.root_span.ensures) (c.link.ensures.child h tree) in
    let bounds = cells-as grid.first grid.width range.from range.to begins.0 ends.0 (bag h) begins.1 ends.1 (cells-are grid.first grid.width c.requires.grid.some begins.0 ends.0 (bag h) (bag-in_order h)) in
    c.in-Ok.ensures.cells above_root h place
    ∙ ap (λ old. add_points grid.first grid.width old (within range.from range.to (points_of c.root_span.result.height c.root_span.result.start (bag h)))) c.new-cells.ensures.items
    ∙ ap (λ (s : SpanValue). add_points grid.first grid.width [] (within range.from range.to (points_of s.height s.start (bag h)))) c.root_span.ensures
    ∙ ap (λ b. add_points grid.first grid.width [] (within range.from range.to b)) (root-points (bag h) tree.times)
    ∙ bounds
