use Rattle.std.proofs.Common.{◌≡◌, suc, ◌+◌, ◌*◌, ◌≤◌}
use Rattle.btr_base.specs.Bag.{within}
use Rattle.btr_tree.specs.EachHistory.{points_in}
use Rattle.btr_tree.specs.History.{Past, bag}
use Rattle.btr_tree.specs.Nodes.{is_inner}
use Rattle.btr_tree.specs.Newer.{sum_of, newer_nodes}
use Rattle.btr_tree.specs.Agree.{AgreeSince}
use Rattle.btr_tree.specs.Shape.{slot_start}
use Rattle.btr_tree.specs.NodeSource.{AreSlotsAt}
use Rattle.btr_diff.specs.Comparison.{AddsChangedSlots}
use Rattle.btr_diff.proofs.leaf_walk.+leaf_walk.Given as goal

-- What the slots so far have added, and how many nodes were visited.
abbrev pub invariant-compare_points_with_slots-loop-i : goal.invariant-compare_points_with_slots-loop-i
invariant-compare_points_with_slots-loop-i g l = record {
  same : g.S.NodeSource.told l.state ≡ g.S.NodeSource.told l.fn.state;
  rises : g.S.NodeSource.faults l.fn.state ≤ g.S.NodeSource.faults l.state;
  adds : (h k : Past) → l.old ≡ points_in l.task.span (bag h) → (new : AreSlotsAt (g.S.NodeSource.IsAt (g.S.NodeSource.told l.fn.state)) (g.S.NodeSource.inner_place l.new) (g.S.NodeSource.inner_slot l.new) l.task.span k) → AgreeSince l.task.by.since h k → AddsChangedSlots l.task.by l.fn.changed l.changed (within l.task.span.start (slot_start new.below l.task.span.start l.i) (bag h)) (within l.task.span.start (slot_start new.below l.task.span.start l.i) (bag k));
  bounded : (k : Past) → (new : AreSlotsAt (g.S.NodeSource.IsAt (g.S.NodeSource.told l.fn.state)) (g.S.NodeSource.inner_place l.new) (g.S.NodeSource.inner_slot l.new) l.task.span k) → l.steps ≤ l.fn.steps + sum_of l.i (λ j. newer_nodes new.below (slot_start new.below l.task.span.start j) (is_inner (suc new.below) l.task.span.start) k l.task.by.since);
  never_falls : l.fn.steps ≤ l.steps;
}

abbrev pub decreases-compare_points_with_slots : goal.decreases-compare_points_with_slots
decreases-compare_points_with_slots g l = 2 * l.task.span.height

abbrev pub decreases-compare_points_with_slot : goal.decreases-compare_points_with_slot
decreases-compare_points_with_slot g l = 2 * l.task.span.height + 1
