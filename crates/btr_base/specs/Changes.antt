-- The aligned slots of time in which two bags differ: at some time of the slot one has other points than the other.
use Rattle.std.specs.Prelude.{ℕ, ◌+◌, ◌^◌, ℤ, Bool, true, false, not, ◌&&◌, int_le, List, [], ◌∷◌, ◌++◌, map, if◌then◌else◌}
use Rattle.std.specs.Ordering.{int_eq}
use Rattle.std.specs.List.{filter}
use Rattle.btr_base.specs.declared.limits.TheConstants.{FIRST}
use Rattle.btr_base.specs.declared.point.Point.{Point}
use Rattle.btr_base.specs.Point.{same_point, in_domain}
use Rattle.btr_base.specs.Range.{RangeValue}
use Rattle.btr_base.specs.Bag.{sort}
use Rattle.btr_base.specs.Windows.{window_of, window_at, begin_of}

-- The points at a time.
abbrev pub points_at : ℤ → List Point → List Point
points_at t b = filter (λ p. int_eq p.time t) b

-- The two lists are equal.
abbrev pub same_points : List Point → List Point → Bool
same_points [] [] = true
same_points [] (q ∷ qs) = false
same_points (p ∷ ps) [] = false
same_points (p ∷ ps) (q ∷ qs) = same_point p q && same_points ps qs

-- The two bags have different points at the time.
abbrev pub differ_at : List Point → List Point → ℤ → Bool
differ_at a b t = not (same_points (points_at t a) (points_at t b))

-- The points of both, in order, at whose times the two differ, if those lie in the domain.
abbrev pub changed : List Point → List Point → List Point
changed a b =
    filter (λ p. differ_at a b p.time && in_domain p.time) (sort (a ++ b))

-- The aligned slot, `2^p` ns wide, that contains a time.
abbrev pub slot_around : ℕ → ℤ → RangeValue
slot_around p t =
    record { from = begin_of FIRST (2 ^ p) t; to = window_at FIRST (2 ^ p) (window_of FIRST (2 ^ p) t + 1) }

-- A range before others. It is joined with the first of them if the two touch.
abbrev pub joined_before : RangeValue → List RangeValue → List RangeValue
joined_before r [] = r ∷ []
joined_before r (s ∷ rs) =
    if int_le s.from r.to then record { from = r.from; to = s.to } ∷ rs else r ∷ s ∷ rs

-- The longest runs of ranges that are in order of time.
abbrev pub runs : List RangeValue → List RangeValue
runs [] = []
runs (r ∷ rs) = joined_before r (runs rs)

-- The longest runs of slots that have a time at which the two bags differ.
abbrev pub changes : ℕ → List Point → List Point → List RangeValue
changes p a b = runs (map (λ q. slot_around p q.time) (changed a b))
