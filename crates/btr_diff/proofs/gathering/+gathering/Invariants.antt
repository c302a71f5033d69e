use Rattle.std.proofs.Common.{◌≡◌, ℕ, suc, ◌+◌, ◌-◌, ◌*◌, ◌≤◌, ◌++◌}
use Rattle.btr_base.specs.Bag.{within}
use Rattle.btr_tree.specs.History.{Past, bag}
use Rattle.btr_tree.specs.Newer.{sum_of}
use Rattle.btr_tree.specs.Shape.{slot_start}
use Rattle.btr_tree.specs.NodeSource.{AreSlotsAt}
use Rattle.btr_diff.specs.Comparison.{AreReady, nodes_in}
use Rattle.btr_diff.proofs.gathering.+gathering.Given as goal

-- The points of the slots so far are appended, and their nodes counted.
abbrev pub invariant-gather_slots-loop-i : goal.invariant-gather_slots-loop-i
invariant-gather_slots-loop-i g l = record {
  place : l.from ≤ 64;
  same : g.S.NodeSource.told l.state ≡ g.S.NodeSource.told l.fn.state;
  rises : g.S.NodeSource.faults l.fn.state ≤ g.S.NodeSource.faults l.state;
  ready : (below : ℕ) → l.span.height ≡ suc below → AreReady (slot_start below l.span.start l.from) l.points.items;
  points : (h : Past) → (at : AreSlotsAt (g.S.NodeSource.IsAt (g.S.NodeSource.told l.fn.state)) (g.S.NodeSource.inner_place l.slots) (g.S.NodeSource.inner_slot l.slots) l.span h) → l.points.items ≡ l.fn.points.items ++ within l.span.start (slot_start at.below l.span.start l.from) (bag h);
  older : (h : Past) → (at : AreSlotsAt (g.S.NodeSource.IsAt (g.S.NodeSource.told l.fn.state)) (g.S.NodeSource.inner_place l.slots) (g.S.NodeSource.inner_slot l.slots) l.span h) → l.older ≤ l.fn.older + sum_of l.from (λ j. nodes_in at.below (slot_start at.below l.span.start j) (bag h));
  never_falls : l.fn.older ≤ l.older;
}

abbrev pub decreases-gather_slots-loop-i : goal.decreases-gather_slots-loop-i
decreases-gather_slots-loop-i g l = 64 - l.from

abbrev pub decreases-gather_place : goal.decreases-gather_place
decreases-gather_place g l = 2 * l.span.height + 1

abbrev pub decreases-gather_slots : goal.decreases-gather_slots
decreases-gather_slots g l = 2 * l.span.height
