use Rattle.std.proofs.Common.{◌-◌, ◌<◌, ◌≤◌, ◌<ℤ◌, length, get_or}
use Rattle.btr_base.specs.declared.point.Point.{Point}
use Rattle.btr_diff.proofs.points.place_near.Given as goal

-- The last point so far is before the time.
abbrev pub invariant-loop-place : goal.invariant-loop-place
invariant-loop-place l = record {
  low : l.place ≤ length l.points;
  last : (d : Point) → 0 < l.place → (get_or l.points (l.place - 1) d).time <ℤ l.time;
}

abbrev pub decreases-loop-place : goal.decreases-loop-place
decreases-loop-place l = length l.points - l.place
