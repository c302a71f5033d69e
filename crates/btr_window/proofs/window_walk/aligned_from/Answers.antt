use Rattle.std.proofs.Common.{◌+◌, pos, ◌-ℤ◌, ◌∙◌}
use Rattle.std.proofs.lemmas.Result.{IfOk-weaker}
use Rattle.btr_base.specs.Windows.{window_of}
use Rattle.btr_tree.specs.History.{bag}
use Rattle.btr_base.proofs.WindowLemmas.{aligned-grid, begin-next, aligned-cells}
use Rattle.btr_window.proofs.window_walk.aligned_from.Goals as goal

pub cells_from-requires-clause-grid : goal.cells_from-requires-clause-grid
cells_from-requires-clause-grid g c = aligned-grid c.args.p c.aligned-grid.result.first c.aligned-grid.result.width c.aligned-grid.ensures

pub cells_from-requires-clause-ends : goal.cells_from-requires-clause-ends
cells_from-requires-clause-ends g c =
    let grid = c.aligned-grid.result in
    let last = c.args.range.to -ℤ pos 1 in
    (window_of grid.first grid.width last + 1, c.whole_windows-whole.ensures.to ∙ begin-next grid.first grid.width last)

pub returns-clause-cells : goal.returns-clause-cells
returns-clause-cells g c o =
    let grid = c.aligned-grid.result in
    let range = c.args.range in
    let whole = c.whole_windows-whole.result in
    IfOk-weaker c.cells_from.result _ _ (λ v said h is. said h is ∙ aligned-cells c.args.p grid.first grid.width range.from range.to whole.from whole.to (bag h) c.aligned-grid.ensures c.whole_windows-whole.ensures.from (c.whole_windows-whole.ensures.to ∙ begin-next grid.first grid.width (range.to -ℤ pos 1))) (c.cells_from.ensures.cells o)
