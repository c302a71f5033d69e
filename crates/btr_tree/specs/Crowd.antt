-- Bottom spans that have more points than a leaf holds.
use Rattle.std.specs.Prelude.{◌≡◌, ℕ, ◌*◌, ◌<◌, ◌≤◌, ℤ, ◌≤ℤ◌, ◌<ℤ◌, List, length}
use Rattle.btr_base.specs.declared.point.Point.{Point}
use Rattle.btr_base.specs.Span.{time_at, width}
use Rattle.btr_base.specs.declared.limits.TheConstants.{LEAF_POINTS}
use Rattle.btr_tree.specs.declared.fault.TreeFault.{TreeFault}
use Rattle.btr_tree.specs.declared.fault.TreeFault.TheVariants.{Crowded, TooManyPoints, Want}
use Rattle.btr_tree.specs.Nodes.{points_of}

-- The start of a bottom span, by its number in the domain.
abbrev pub bottom : ℕ → ℤ
bottom place = time_at (place * width 0)

-- No bottom span that starts from one time on and before another is crowded.
abbrev pub HasNoCrowdedSpan : ℤ → ℤ → List Point → Type 0
HasNoCrowdedSpan from to b =
    (place : ℕ) → from ≤ℤ bottom place → bottom place <ℤ to → length (points_of 0 (bottom place) b) ≤ LEAF_POINTS

-- The first crowded bottom span that starts from one time on and before another starts at `start`.
pub record IsFirstCrowd (from to : ℤ) (b : List Point) (start : ℤ) (place : ℕ) : Type 0 where
  pub is : start ≡ bottom place
  pub begins : from ≤ℤ start
  pub ends : start <ℤ to
  pub crowded : LEAF_POINTS < length (points_of 0 start b)
  pub first : HasNoCrowdedSpan from start b

-- Why the points between two times are no part of a tree: the first crowded bottom span, or out of memory.
abbrev pub IsCrowdedFault : ℤ → ℤ → List Point → TreeFault → Type 0
IsCrowdedFault from to b (Crowded start) = (place : ℕ) × IsFirstCrowd from to b start place
IsCrowdedFault from to b (TooManyPoints count) = ⊥
IsCrowdedFault from to b Want = Unit {0}
