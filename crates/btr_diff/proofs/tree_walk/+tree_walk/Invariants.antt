use Rattle.std.proofs.Common.{◌≡◌, suc, ◌+◌, ◌*◌, ◌≤◌}
use Rattle.btr_base.specs.Bag.{within}
use Rattle.btr_tree.specs.History.{Past, bag}
use Rattle.btr_tree.specs.Nodes.{is_inner}
use Rattle.btr_tree.specs.Newer.{sum_of, newer_nodes}
use Rattle.btr_tree.specs.Agree.{AgreeSince}
use Rattle.btr_tree.specs.Shape.{slot_start}
use Rattle.btr_tree.specs.NodeSource.{AreSlotsAt}
use Rattle.btr_diff.specs.Comparison.{AddsChangedSlots, nodes_in}
use Rattle.btr_diff.proofs.tree_walk.+tree_walk.Given as goal

-- What the slots so far have added, and how many nodes of each tree were visited.
abbrev pub invariant-compare_slots-loop-i : goal.invariant-compare_slots-loop-i
invariant-compare_slots-loop-i g l = record {
  same : g.S.NodeSource.told l.state ≡ g.S.NodeSource.told l.fn.state;
  rises : g.S.NodeSource.faults l.fn.state ≤ g.S.NodeSource.faults l.state;
  adds : (h k : Past) → AreSlotsAt (g.S.NodeSource.IsAt (g.S.NodeSource.told l.fn.state)) (g.S.NodeSource.inner_place l.old) (g.S.NodeSource.inner_slot l.old) l.task.span h → (new : AreSlotsAt (g.S.NodeSource.IsAt (g.S.NodeSource.told l.fn.state)) (g.S.NodeSource.inner_place l.new) (g.S.NodeSource.inner_slot l.new) l.task.span k) → AgreeSince l.task.by.since h k → AddsChangedSlots l.task.by l.fn.findings.changed l.findings.changed (within l.task.span.start (slot_start new.below l.task.span.start l.i) (bag h)) (within l.task.span.start (slot_start new.below l.task.span.start l.i) (bag k));
  newer : (k : Past) → (new : AreSlotsAt (g.S.NodeSource.IsAt (g.S.NodeSource.told l.fn.state)) (g.S.NodeSource.inner_place l.new) (g.S.NodeSource.inner_slot l.new) l.task.span k) → l.steps ≤ l.fn.steps + sum_of l.i (λ j. newer_nodes new.below (slot_start new.below l.task.span.start j) (is_inner (suc new.below) l.task.span.start) k l.task.by.since);
  older : (h : Past) → (old : AreSlotsAt (g.S.NodeSource.IsAt (g.S.NodeSource.told l.fn.state)) (g.S.NodeSource.inner_place l.old) (g.S.NodeSource.inner_slot l.old) l.task.span h) → l.findings.older ≤ l.fn.findings.older + sum_of l.i (λ j. nodes_in old.below (slot_start old.below l.task.span.start j) (bag h));
  newer_never_falls : l.fn.steps ≤ l.steps;
  older_never_falls : l.fn.findings.older ≤ l.findings.older;
}

abbrev pub decreases-compare_found : goal.decreases-compare_found
decreases-compare_found g l = 4 * l.task.span.height + 2

abbrev pub decreases-compare_with_slots : goal.decreases-compare_with_slots
decreases-compare_with_slots g l = 4 * l.task.span.height + 1

abbrev pub decreases-compare_slots : goal.decreases-compare_slots
decreases-compare_slots g l = 4 * l.task.span.height

abbrev pub decreases-compare_slot : goal.decreases-compare_slot
decreases-compare_slot g l = 4 * l.task.span.height + 3
