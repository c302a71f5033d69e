use Rattle.std.proofs.Common.{◌-◌, ◌≡◌, ◌≤◌, ℤ, ◌≤ℤ◌, length, drop}
use Rattle.btr_base.specs.Range.{covered}
use Rattle.btr_base.proofs.bag.skip_ended.Given as goal

abbrev pub invariant-loop-place : goal.invariant-loop-place
invariant-loop-place l =
    (l.place ≤ length l.ranges) × ((t : ℤ) → l.time ≤ℤ t → covered (drop l.place l.ranges) t ≡ covered (drop l.first l.ranges) t)

abbrev pub decreases-loop-place : goal.decreases-loop-place
decreases-loop-place l = length l.ranges - l.place
