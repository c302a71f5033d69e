use Rattle.std.proofs.Common.{◌≤ℤ◌, take}
use Rattle.std.specs.List.{AllByRecursion}
use Rattle.btr_base.specs.Bag.{IsInOrder}
use Rattle.btr_base.proofs.bag.do_times_rise.Given as goal

-- The points so far are in order, and none is after the last time.
abbrev pub invariant-loop-point : goal.invariant-loop-point
invariant-loop-point l = record {
  order : IsInOrder (take l.point-index l.points);
  before : AllByRecursion (λ q. q.time ≤ℤ l.last) (take l.point-index l.points);
}
