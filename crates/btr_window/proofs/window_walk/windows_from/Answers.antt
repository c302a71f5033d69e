use Rattle.std.proofs.Common.{◌≡◌, sym, ap, ◌∙◌, arith, to_z, of_z, w64}
use Rattle.std.proofs.lemmas.Int.{to_z-of_z}
use Rattle.std.proofs.lemmas.Result.{IfOk-weaker}
use Rattle.btr_tree.specs.History.{bag}
use Rattle.btr_base.specs.Windows.{cells as cells_between}
use Rattle.btr_tree.proofs.RangeSlotLemmas.{range-from}
use Rattle.btr_window.proofs.Ranges.{range-begin, range-no_windows}
use Rattle.btr_window.proofs.window_walk.windows_from.Goals as goal

pub returns-then-to-range-clause-cells : goal.returns-then-to-range-clause-cells
returns-then-to-range-clause-cells g c o h is =
    let fits : to_z w64 (of_z w64 c.begin_of-to.result) ≡ c.begin_of-to.result = grind (arith, to_z-of_z) in
    c.new.ensures.items
    ∙ sym (range-no_windows _ _ c.args.width _ (bag h) c.range.invariant c.range.view_is c.begin_of-to.ensures fits c.if-to-range.true)

pub returns-clause-cells : goal.returns-clause-cells
returns-clause-cells g c o =
    let width = c.args.width in
    let range = c.args.range in
    let from = range-from _ _ c.range.invariant c.range.view_is in
    let begin = range-begin _ _ width _ c.range.invariant c.range.view_is c.begin_of-to.ensures in
    let fits : to_z w64 (of_z w64 c.begin_of-to.result) ≡ c.begin_of-to.result = grind (arith, to_z-of_z) in
    IfOk-weaker c.cells_from.result _ _ (λ v said h is.
    said h is
    ∙ ap (λ t. cells_between t width t (to_z w64 (of_z w64 c.begin_of-to.result)) (bag h)) from
    ∙ ap (λ t. cells_between range.from width range.from t (bag h)) (fits ∙ begin)) (c.cells_from.ensures.cells o)
