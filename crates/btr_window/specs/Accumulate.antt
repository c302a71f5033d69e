-- What points and aggregates of one window add to the list of windows so far.
use Rattle.std.specs.Prelude.{◌≡◌, ℕ, ◌+◌, ◌^◌, ◌<◌, ◌≤◌, ℤ, ◌≤ℤ◌, List, [], ◌∷◌, if◌then◌else◌}
use Rattle.std.specs.Ordering.{int_eq}
use Rattle.std.specs.List.{AllByRecursion}
use Rattle.btr_base.specs.declared.point.Point.{Point}
use Rattle.btr_base.specs.declared.cell.Cell.{Cell}
use Rattle.btr_base.specs.declared.grid.Grid.{Grid}
use Rattle.btr_base.specs.Agg.{AggValue, joined, one_point}
use Rattle.btr_base.specs.Bag.{within}
use Rattle.btr_base.specs.Span.{SpanValue}
use Rattle.btr_base.specs.Windows.{window_at, begin_of, IsGrid}
use Rattle.btr_window.specs.RangeEnds.{IsMet}
use Rattle.btr_window.specs.declared.part.WindowRange.{WindowRange}

-- An aggregate of the window that starts at `start` joins the last window if that is the same, or else follows it.
abbrev pub add_part : List Cell → ℤ → AggValue → List Cell
add_part [] start agg = record { start = start; agg = agg } ∷ []
add_part (c ∷ []) start agg =
    if int_eq c.start start
    then record { start = c.start; agg = joined c.agg agg } ∷ []
    else c ∷ record { start = start; agg = agg } ∷ []
add_part (c ∷ d ∷ cs) start agg = c ∷ add_part (d ∷ cs) start agg

-- Points are added one after the other.
abbrev pub add_points : ℤ → ℕ → List Cell → List Point → List Cell
add_points first width cs [] = cs
add_points first width cs (p ∷ ps) =
    add_points first width (add_part cs (begin_of first width p.time) (one_point p.value)) ps

-- Of the points those in the range are added to the windows.
abbrev pub AddsWithin : WindowRange → List Cell → List Cell → List Point → Type 0
AddsWithin w old new points =
    new ≡ add_points w.grid.first w.grid.width old (within w.range.from w.range.to points)

-- How many points the windows have.
abbrev pub counted : List Cell → ℕ
counted [] = 0
counted (c ∷ cs) = c.agg.count + counted cs

-- A window starts at the time.
abbrev pub IsStart : Grid → ℤ → Type 0
IsStart grid t = (k : ℕ) × (t ≡ window_at grid.first grid.width k)

-- Each of the windows starts where a window of the grid does.
abbrev pub AreStarts : Grid → List Cell → Type 0
AreStarts grid cs = AllByRecursion (λ c. IsStart grid c.start) cs

-- The windows start where those of the grid do, and `more` points can be added to them.
abbrev pub HaveRoom : Grid → List Cell → ℕ → Type 0
HaveRoom grid cells more = AreStarts grid cells × (counted cells + more < 2 ^ 64)

-- The windows start where those of the grid do, and at most `more` points were added to them.
abbrev pub HaveAtMost : Grid → List Cell → List Cell → ℕ → Type 0
HaveAtMost grid old new more = AreStarts grid new × (counted new ≤ counted old + more)

-- The windows of a grid in a range that has a time of the span. The range starts at or after the first window.
pub record MeetsWindows (w : WindowRange) (span : SpanValue) : Type 0 where
  pub is_grid : IsGrid w.grid.first w.grid.width
  pub behind : w.grid.first ≤ℤ w.range.from
  pub met : IsMet span w.range
