use Rattle.std.proofs.Common.{◌≡◌, ◌≤ℤ◌, List, IfOk, subst, sym, ap, ◌∙◌, rules, w64, to_z, of_z, SFits}
use Rattle.std.proofs.lemmas.Int.{to_z-of_z}
use Rattle.btr_base.specs.declared.limits.TheConstants.{END}
use Rattle.btr_base.specs.declared.cell.Cell.{Cell}
use Rattle.btr_base.specs.Windows.{begin_of, cells}
use Rattle.btr_hist.proofs.Bounds.{range-bounds, whole-ends}
use Rattle.btr_hist.proofs.cells.whole_cells.Goals as goal

-- The end of the last window.
end-is : (c : goal.After-begin_of-end) → to_z w64 (of_z w64 c.begin_of-end.result) ≡ begin_of c.args.from c.args.width c.args.to
end-is c =
    let fits : SFits w64 c.begin_of-end.result = search rules in
    to_z-of_z w64 c.begin_of-end.result fits
    ∙ c.begin_of-end.ensures
    ∙ ap (λ z. begin_of z c.args.width (to_z w64 (of_z w64 c.args.to))) (to_z-of_z w64 c.args.from c.ranges.from)
    ∙ ap (begin_of c.args.from c.args.width) (to_z-of_z w64 c.args.to c.ranges.to)

pub cells_between-requires-clause-to : goal.cells_between-requires-clause-to
cells_between-requires-clause-to c =
    subst (λ z. z ≤ℤ END) (sym (end-is c)) (whole-ends c.args.from c.args.to c.args.width (range-bounds c.args.from c.args.to c.requires.range))

pub returns : goal.returns
returns c =
    let fits : SFits w64 c.begin_of-end.result = search rules in
    let from = to_z-of_z w64 c.args.from c.ranges.from in
    let end =
    to_z-of_z w64 c.begin_of-end.result fits
    ∙ c.begin_of-end.ensures
    ∙ ap (λ z. begin_of z c.args.width (to_z w64 (of_z w64 c.args.to))) from
    ∙ ap (begin_of c.args.from c.args.width) (to_z-of_z w64 c.args.to c.ranges.to) in
    subst (λ (cs : List Cell). IfOk c.cells_between.result (λ v. v.items ≡ cs))
    (ap (λ z. cells z c.args.width z (to_z w64 (of_z w64 c.begin_of-end.result)) c.args.points.now) from ∙ ap (λ z. cells c.args.from c.args.width c.args.from z c.args.points.now) end)
    c.cells_between.ensures
