use Rattle.std.proofs.Common.{◌≡◌, ◌+◌, ℕ, ℤ, pos, ◌-ℤ◌, ◌≤ℤ◌, List, IfOk, ap, subst, sym, ◌∙◌, arith, rules, w64, to_z, of_z, SFits}
use Rattle.std.proofs.lemmas.Int.{ints, to_z-of_z}
use Rattle.btr_base.specs.declared.limits.TheConstants.{END}
use Rattle.btr_base.specs.declared.cell.Cell.{Cell}
use Rattle.btr_base.specs.Windows.{IsWindow, window_of, window_at, begin_of}
use Rattle.btr_base.proofs.WindowLemmas.{window-around, aligned-grid, aligned-ends, aligned-cells}
use Rattle.btr_hist.proofs.Bounds.{AreBounds, range-bounds, as_word, before_as_word}
use Rattle.btr_hist.proofs.cells.aligned_cells.Goals as goal

-- The time before the end of a range.
before-end : (from to : ℤ) → AreBounds from to → to_z w64 (of_z w64 (to_z w64 (of_z w64 to) -ℤ pos 1)) ≡ to -ℤ pos 1
before-end from to h =
    let begins = h.begins in
    let full = h.not_empty in
    let ends = h.ends in
    before_as_word to (to_z w64 (of_z w64 to)) (omega (arith, ints)) h.ends (as_word to (omega (arith, ints)) h.ends)

-- The start of a range.
begin-word : (from to : ℤ) → AreBounds from to → to_z w64 (of_z w64 from) ≡ from
begin-word from to h =
    let full = h.not_empty in
    let ends = h.ends in
    as_word from h.begins (omega (arith, ints))

pub begin_of-begin-requires-clause-grid : goal.begin_of-begin-requires-clause-grid
begin_of-begin-requires-clause-grid c = aligned-grid c.args.p _ _ c.aligned-grid.ensures

pub begin_of-begin-requires-clause-time : goal.begin_of-begin-requires-clause-time
begin_of-begin-requires-clause-time c =
    let range = range-bounds c.args.from c.args.to c.requires.range in
    let begins = range.begins in
    let first = c.aligned-grid.ensures.first_is in
    omega (arith, ints, begin-word c.args.from c.args.to range)

-- The number of the last window.
last-number : (first from to : ℤ) (width k : ℕ) → AreBounds from to → k ≡ window_of first width (to_z w64 (of_z w64 (to_z w64 (of_z w64 to) -ℤ pos 1))) → k ≡ window_of first width (to -ℤ pos 1)
last-number first from to width k range is = is ∙ ap (window_of first width) (before-end from to range)

pub end_of-end-requires : goal.end_of-end-requires
end_of-end-requires c =
    let range = range-bounds c.args.from c.args.to c.requires.range in
    let begins = range.begins in
    let full = range.not_empty in
    let ends = range.ends in
    let first = c.aligned-grid.ensures.first_is in
    subst (IsWindow c.aligned-grid.result.first c.aligned-grid.result.width) (sym (last-number _ _ _ _ _ range c.number_of.ensures))
    (window-around c.aligned-grid.result.first c.aligned-grid.result.width (c.args.to -ℤ pos 1) (aligned-grid c.args.p _ _ c.aligned-grid.ensures) (omega (arith, ints)) (omega (arith, ints)))

pub cells_between-requires-clause-grid : goal.cells_between-requires-clause-grid
cells_between-requires-clause-grid c = aligned-grid c.args.p _ _ c.aligned-grid.ensures

pub cells_between-requires-clause-to : goal.cells_between-requires-clause-to
cells_between-requires-clause-to c =
    let range = range-bounds c.args.from c.args.to c.requires.range in
    let begins = range.begins in
    let full = range.not_empty in
    let ends = range.ends in
    let fits : SFits w64 c.end_of-end.result = search rules in
    let first = c.aligned-grid.result.first in
    let width = c.aligned-grid.result.width in
    let is = to_z-of_z w64 c.end_of-end.result fits ∙ c.end_of-end.ensures ∙ ap (λ k. window_at first width (k + 1)) (last-number first _ _ width _ range c.number_of.ensures) in
    subst (λ z. z ≤ℤ END) (sym is) (aligned-ends c.args.p first width (c.args.to -ℤ pos 1) c.aligned-grid.ensures (omega (arith, ints)) (omega (arith, ints)))

pub returns : goal.returns
returns c =
    let range = range-bounds c.args.from c.args.to c.requires.range in
    let first = c.aligned-grid.result.first in
    let width = c.aligned-grid.result.width in
    let begin_fits : SFits w64 c.begin_of-begin.result = search rules in
    let end_fits : SFits w64 c.end_of-end.result = search rules in
    let begin = to_z-of_z w64 c.begin_of-begin.result begin_fits ∙ c.begin_of-begin.ensures ∙ ap (begin_of first width) (begin-word c.args.from c.args.to range) in
    let end = to_z-of_z w64 c.end_of-end.result end_fits ∙ c.end_of-end.ensures ∙ ap (λ k. window_at first width (k + 1)) (last-number first _ _ width _ range c.number_of.ensures) in
    subst (λ (cs : List Cell). IfOk c.cells_between.result (λ v. v.items ≡ cs))
    (aligned-cells c.args.p first width c.args.from c.args.to _ _ c.args.points.now c.aligned-grid.ensures begin end)
    c.cells_between.ensures
