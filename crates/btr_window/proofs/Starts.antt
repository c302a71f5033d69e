-- Lemmas on the starts of windows: which window a time near a start is in, and that added windows start where those of the grid do.
use Rattle.std.specs.Prelude.{◌≡◌, ℕ, ◌+◌, ◌*◌, ◌≤◌, nat_eq, ℤ, pos, ◌+ℤ◌, ◌≤ℤ◌, ◌<ℤ◌, true, false, ◌&&◌, int_le, int_lt, List, [], ◌∷◌, cond}
use Rattle.std.specs.Ordering.{int_eq}
use Rattle.std.proofs.Common.{sym, ap, ◌∙◌, arith}
use Rattle.std.proofs.lemmas.Int.{ints}
use Rattle.std.proofs.lemmas.Bool.Decides.{nat_tests}
use Rattle.btr_base.specs.declared.cell.Cell.{Cell}
use Rattle.btr_base.specs.declared.grid.Grid.{Grid}
use Rattle.btr_base.specs.Agg.{AggValue, joined}
use Rattle.btr_base.specs.Range.{RangeValue, IsRange}
use Rattle.btr_base.specs.Span.{SpanValue}
use Rattle.btr_base.specs.Windows.{window_of, window_at, begin_of, IsGrid}
use Rattle.btr_tree.specs.Root.{root_part}
use Rattle.btr_tree.proofs.RootLemmas.{root-meets}
use Rattle.btr_window.specs.Accumulate.{add_part, IsStart, AreStarts, MeetsWindows}
use Rattle.btr_window.specs.declared.part.WindowRange.{WindowRange}
use Rattle.btr_window.proofs.Adding.{cell}
use Rattle.btr_window.proofs.Cells.{in_window}

-- ---- A time near a start.

number-is : (first : ℤ) (width : ℕ) (t : ℤ) (k : ℕ) → 1 ≤ width → first ≤ℤ t → window_at first width k ≤ℤ t → t <ℤ window_at first width (k + 1) → window_of first width t ≡ k
number-is first width t k some low from before =
    let is : (int_le (window_at first width k) t && int_lt t (window_at first width (k + 1))) ≡ true = grind (arith, ints) in
    let same : nat_eq (window_of first width t) k ≡ true = sym (in_window first width t k some low) ∙ is in
    grind (arith, nat_tests)

next-start : (first : ℤ) (width k : ℕ) → window_at first width (k + 1) ≡ window_at first width k +ℤ pos width
next-start first width k =
    let e : (k + 1) * width ≡ k * width + width = omega arith in
    omega (arith, ints)

-- A time from a start on, before the next start, is in the window that starts there.
pub start-is : (grid : Grid) (start t : ℤ) → 1 ≤ grid.width → grid.first ≤ℤ t → IsStart grid start → start ≤ℤ t → t <ℤ (start +ℤ pos grid.width) → begin_of grid.first grid.width t ≡ start
start-is grid start t some low is from before =
    let k = is.0 in
    let e = is.1 in
    let next = next-start grid.first grid.width k in
    let number = number-is grid.first grid.width t k some low (omega (arith, ints)) (omega (arith, ints)) in
    ap (window_at grid.first grid.width) number ∙ sym e

pub start-next : (grid : Grid) (start : ℤ) → IsStart grid start → IsStart grid (start +ℤ pos grid.width)
start-next grid start is =
    (is.0 + 1, ap (λ x. x +ℤ pos grid.width) is.1 ∙ sym (next-start grid.first grid.width is.0))

-- ---- The starts of windows that are added.

pub starts-part : (grid : Grid) (cs : List Cell) (start : ℤ) (a : AggValue) → AreStarts grid cs → IsStart grid start → AreStarts grid (add_part cs start a)
starts-part grid [] start a all is = (is, tt)
starts-part grid (c ∷ []) start a all is =
    elim (int_eq c.start start) as (λ t. AreStarts grid (cond t (cell c.start (joined c.agg a) ∷ []) (c ∷ cell start a ∷ []))) [
      | true ↦ (all.0, tt)
      | false ↦ (all.0, (is, tt))
    ]
starts-part grid (c ∷ d ∷ cs) start a all is = (all.0, starts-part grid (d ∷ cs) start a all.1 is)

-- ---- A range that begins at a start.

-- The windows of a range that begins at a start meet the span of the root.
pub root-windows : (w : WindowRange) (inside : RangeValue) (span : SpanValue) → IsGrid w.grid.first w.grid.width → IsStart w.grid w.range.from → IsRange inside → inside ≡ w.range → span ≡ root_part → MeetsWindows w span
root-windows w inside span grid begins is same whole =
    let first = begins.1 in
    record { is_grid = grid; behind = omega (arith, ints); met = root-meets inside w.range span is same whole }
