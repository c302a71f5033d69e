use Rattle.std.proofs.Common.{◌+◌, ◌*◌, ◌<◌, ◌≤◌, ◌-◌, ◌<ℤ◌, length, get_or}
use Rattle.btr_base.specs.declared.point.Point.{Point}
use Rattle.btr_diff.proofs.points.last_before.Given as goal

-- The point at the lower index is before the time.
abbrev pub invariant-loop-high : goal.invariant-loop-high
invariant-loop-high l = record {
  low : l.low < length l.points;
  next : l.low < l.high;
  near : l.high ≤ 2 * l.low + 1;
  last : (d : Point) → (get_or l.points l.low d).time <ℤ l.time;
}

abbrev pub decreases-loop-high : goal.decreases-loop-high
decreases-loop-high l = length l.points - l.low
