-- Bags: lists of points in order, in which equal points each count.
use Rattle.std.specs.Prelude.{ℕ, ℤ, not, ◌&&◌, int_le, int_lt, List, [], ◌∷◌, if◌then◌else◌, IsTrue, Bool}
use Rattle.std.specs.List.{filter, count_by, AllByRecursion}
use Rattle.btr_base.specs.declared.point.Point.{Point}
use Rattle.btr_base.specs.Point.{is_not_after, same_point}
use Rattle.btr_base.specs.Range.{RangeValue, covered}

-- Each point may precede all points after it.
abbrev pub IsInOrder : List Point → Type 0
IsInOrder [] = Unit {0}
IsInOrder (p ∷ ps) = AllByRecursion (λ q. IsTrue (is_not_after p q)) ps × IsInOrder ps

-- The list with one more point, at its place in the order.
abbrev pub insert : Point → List Point → List Point
insert p [] = p ∷ []
insert p (q ∷ qs) = if is_not_after p q then p ∷ q ∷ qs else q ∷ insert p qs

-- The points of a list, in order.
abbrev pub sort : List Point → List Point
sort [] = []
sort (p ∷ ps) = insert p (sort ps)

-- The points whose time no range covers.
abbrev pub outside : List Point → List RangeValue → List Point
outside b rs = filter (λ p. not (covered rs p.time)) b

-- The point's time is not before the first time, and before the second.
abbrev pub is_within : ℤ → ℤ → Point → Bool
is_within from to p = int_le from p.time && int_lt p.time to

-- The points from a time up to, and without, another.
abbrev pub within : ℤ → ℤ → List Point → List Point
within from to b = filter (is_within from to) b

-- How often a list contains a point.
abbrev pub copies : Point → List Point → ℕ
copies p b = count_by (same_point p) b
