-- Points, their order, and the times that a store can hold.
use Rattle.std.specs.Prelude.{ℤ, Bool, not, ◌≤ℤ◌, ◌<ℤ◌, ◌&&◌, int_le, int_lt, List}
use Rattle.std.specs.List.{AllByRecursion}
use Rattle.std.specs.Ordering.{int_cmp, int_eq, ordering_then, is_lt}
use Rattle.std.specs.declared.cmp.Ordering.{Ordering}
use Rattle.btr_base.specs.declared.point.Point.{Point}
use Rattle.btr_base.specs.declared.limits.TheConstants.{FIRST, END}

-- By time, and points of one time by value.
abbrev pub point_cmp : Point → Point → Ordering
point_cmp p q = ordering_then (int_cmp p.time q.time) (int_cmp p.value q.value)

-- The point p may precede q.
abbrev pub is_not_after : Point → Point → Bool
is_not_after p q = not (is_lt (point_cmp q p))

-- The two points are equal.
abbrev pub same_point : Point → Point → Bool
same_point p q = int_eq p.time q.time && int_eq p.value q.value

-- The time lies in the domain, as a test and as a fact.
abbrev pub in_domain : ℤ → Bool
in_domain t = int_le FIRST t && int_lt t END

abbrev pub InDomain : ℤ → Type 0
InDomain t = (FIRST ≤ℤ t) × (t <ℤ END)

-- Each of the points has a time of the domain.
abbrev pub AreInDomain : List Point → Type 0
AreInDomain b = AllByRecursion (λ p. InDomain p.time) b
