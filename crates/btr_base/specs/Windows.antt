-- Windows of one width, side by side from a first time on, and the aggregate of the points in each.
use Rattle.std.specs.Prelude.{◌≡◌, ℕ, ◌+◌, ◌*◌, ◌/◌, ◌^◌, ◌≤◌, nat_eq, ℤ, pos, ◌+ℤ◌, ◌-ℤ◌, ◌≤ℤ◌, unsigned_abs, List, [], ◌∷◌, map}
use Rattle.std.specs.Prelude.{if◌then◌else◌}
use Rattle.btr_base.specs.declared.limits.TheConstants.{FIRST, END}
use Rattle.btr_base.specs.declared.point.Point.{Point}
use Rattle.btr_base.specs.declared.cell.Cell.{Cell}
use Rattle.btr_base.specs.Bag.{within}
use Rattle.btr_base.specs.Agg.{agg_within}

-- The first window begins in the domain, and each window is at most as wide as the domain.
pub record IsGrid (first : ℤ) (width : ℕ) : Type 0 where
  pub begins : FIRST ≤ℤ first
  pub some : 1 ≤ width
  pub most : width ≤ 2 ^ 62

-- The windows are `2^p` ns wide, from the first time of the domain on.
pub record IsAlignedBy (p : ℕ) (first : ℤ) (width : ℕ) : Type 0 where
  pub small : p ≤ 62
  pub first_is : first ≡ FIRST
  pub width_is : width ≡ 2 ^ p

-- The window of this number, counted from 0, begins in the domain or at its end.
pub record IsWindow (first : ℤ) (width number : ℕ) : Type 0 where
  pub grid : IsGrid first width
  pub starts : (first +ℤ pos (number * width)) ≤ℤ END

-- The number of the window that contains a time, which is not before the first one.
abbrev pub window_of : ℤ → ℕ → ℤ → ℕ
window_of first width t = unsigned_abs (t -ℤ first) / width

-- The start of the window of a number, and the end of the window before it.
abbrev pub window_at : ℤ → ℕ → ℕ → ℤ
window_at first width k = first +ℤ pos (k * width)

-- The start of the window that contains a time.
abbrev pub begin_of : ℤ → ℕ → ℤ → ℤ
begin_of first width t = window_at first width (window_of first width t)

-- Each number once, if equal ones are neighbours.
abbrev pub dedup : List ℕ → List ℕ
dedup [] = []
dedup (k ∷ []) = k ∷ []
dedup (k ∷ l ∷ ls) = if nat_eq k l then dedup (l ∷ ls) else k ∷ dedup (l ∷ ls)

-- The numbers of the windows that contain one of the points, in order.
abbrev pub windows_with : ℤ → ℕ → List Point → List ℕ
windows_with first width b = dedup (map (λ p. window_of first width p.time) b)

-- The start of a window, and the aggregate of all points in it.
abbrev pub cell_of : ℤ → ℕ → List Point → ℕ → Cell
cell_of first width b k =
    record { start = window_at first width k; agg = agg_within (window_at first width k) (window_at first width (k + 1)) b }

-- The windows that contain one of the points from a time up to, and without, another.
abbrev pub cells : ℤ → ℕ → ℤ → ℤ → List Point → List Cell
cells first width from to b = map (cell_of first width b) (windows_with first width (within from to b))

-- The aligned windows, `2^p` ns wide from the first time of the domain on, that meet the range and contain a point. Each is whole.
abbrev pub aligned : ℕ → ℤ → ℤ → List Point → List Cell
aligned p from to b =
    cells FIRST (2 ^ p)
    (begin_of FIRST (2 ^ p) from)
    (window_at FIRST (2 ^ p) (window_of FIRST (2 ^ p) (to -ℤ pos 1) + 1)) b

-- The windows from the start of the range on that end at or before its end and contain a point.
abbrev pub windows : ℕ → ℤ → ℤ → List Point → List Cell
windows width from to b = cells from width from (begin_of from width to) b
