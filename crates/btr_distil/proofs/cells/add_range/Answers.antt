use Rattle.std.proofs.Common.{◌++◌, ◌∙◌, ap, subst}
use Rattle.std.specs.List.{filter_map}
use Rattle.std.proofs.lemmas.Result.{on_ok_weaker}
use Rattle.btr_base.specs.Range.{RangeValue, IsRange}
use Rattle.btr_tree.specs.History.{bag}
use Rattle.btr_tree.proofs.RangeSlotLemmas.{range-from}
use Rattle.btr_tree.proofs.VersionLemmas.{bag-in_order}
use Rattle.btr_hist.specs.Kernel.{WindowKernel}
use Rattle.btr_cell.specs.Cells.{cell_point}
use Rattle.btr_cell.proofs.CellPartLemmas.{cells-in_range}
use Rattle.btr_distil.proofs.cells.add_range.Goals as goal

pub returns : goal.returns
returns c =
    let r : RangeValue = c.args.range in
    let kernel : WindowKernel = record { which = c.args.which; p = c.args.p } in
    let old = c.args.points.now.items in
    let is = subst IsRange c.range.view_is c.range.invariant in
    let from = range-from _ _ c.range.invariant c.range.view_is in
    on_ok_weaker c.add_cells.result (λ added h tree.
    added
    ∙ ap (λ t. old ++ filter_map (cell_point c.args.which t) c.deref.result.now) from
    ∙ ap (λ cs. old ++ filter_map (cell_point c.args.which r.from) cs) (c.deref.ensures.value ∙ c.in_ok-cells.ensures h tree)
    ∙ ap (λ ps. old ++ ps) (cells-in_range kernel r (bag h) is (bag-in_order h) tree.times)) c.add_cells.ensures
