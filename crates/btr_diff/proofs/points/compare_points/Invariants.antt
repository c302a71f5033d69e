use Rattle.std.proofs.Common.{◌+◌, List, length}
use Rattle.btr_base.specs.Point.{AreInDomain}
use Rattle.btr_base.specs.Bag.{IsInOrder}
use Rattle.btr_base.specs.Range.{RangeValue}
use Rattle.btr_diff.specs.Comparison.{AddsChangedSlots}
use Rattle.btr_diff.proofs.points.compare_points.Given as goal

-- What the rest adds now, all points add.
abbrev pub invariant-loop-time : goal.invariant-loop-time
invariant-loop-time l = record {
  old_order : IsInOrder l.old_left;
  new_order : IsInOrder l.new_left;
  old_domain : AreInDomain l.old_left;
  new_domain : AreInDomain l.new_left;
  times : (now : List RangeValue) → AddsChangedSlots l.comparison l.out now l.old_left l.new_left → AddsChangedSlots l.comparison l.fn.out now l.fn.old l.fn.new;
}

abbrev pub decreases-loop-time : goal.decreases-loop-time
decreases-loop-time l = length l.old_left + length l.new_left
