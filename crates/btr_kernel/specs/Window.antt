-- The points that a kernel is given at an anchor.
use Rattle.std.specs.Prelude.{ℤ, ◌<◌, ◌≤ℤ◌, List, length}
use Rattle.std.specs.List.{AllByRecursion}
use Rattle.btr_base.specs.declared.point.Point.{Point}
use Rattle.btr_base.specs.Bag.{IsInOrder}
use Rattle.btr_base.specs.Changes.{points_at}

-- The points are in order, and none is after the time.
pub record AreUntil (t : ℤ) (b : List Point) : Type 0 where
  pub in_order : IsInOrder b
  pub until : AllByRecursion (λ p. p.time ≤ℤ t) b

-- One of the points has the time.
abbrev pub HasPointAt : ℤ → List Point → Type 0
HasPointAt t b = 0 < length (points_at t b)
