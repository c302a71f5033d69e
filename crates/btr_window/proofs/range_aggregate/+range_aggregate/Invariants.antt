use Rattle.std.proofs.Common.{◌≡◌, ℕ, suc, ◌+◌, ◌*◌, ◌<◌, ◌≤◌}
use Rattle.btr_base.specs.Bag.{within}
use Rattle.btr_tree.specs.Change.{joined_first}
use Rattle.btr_tree.specs.History.{Past, bag}
use Rattle.btr_tree.specs.Shape.{slot_start}
use Rattle.btr_tree.specs.NodeSource.{AreSlotsAt}
use Rattle.btr_window.specs.RangeEnds.{ends_inside, AddsRange}
use Rattle.btr_tree.proofs.RangeSlotLemmas.{IsBetween}
use Rattle.btr_window.proofs.range_aggregate.+range_aggregate.Given as goal

-- The aggregate of the slots so far is added, and the steps are for the ends of the range inside them.
abbrev pub invariant-sum_in_slots-loop-i : goal.invariant-sum_in_slots-loop-i
invariant-sum_in_slots-loop-i g l = record {
  between : (below : ℕ) → l.span.height ≡ suc below → IsBetween below l.span.start l.range.from l.range.to l.first l.last;
  same : g.S.NodeSource.told l.state ≡ g.S.NodeSource.told l.fn.state;
  rises : g.S.NodeSource.faults l.fn.state ≤ g.S.NodeSource.faults l.state;
  few : l.all.count ≤ l.fn.all.count + (joined_first l.i (g.S.NodeSource.inner_slot l.slots)).count;
  agg : (h : Past) → (at : AreSlotsAt (g.S.NodeSource.IsAt (g.S.NodeSource.told l.fn.state)) (g.S.NodeSource.inner_place l.slots) (g.S.NodeSource.inner_slot l.slots) l.span h) → AddsRange l.range l.fn.all l.all (within l.span.start (slot_start at.below l.span.start l.i) (bag h));
  none : l.i ≡ l.first → l.steps ≡ l.fn.steps;
  bounded : (below : ℕ) → l.span.height ≡ suc below → l.first < l.i → l.steps ≤ l.fn.steps + l.span.height * ends_inside l.span.start (slot_start below l.span.start l.i) l.range.from l.range.to;
  never_falls : l.fn.steps ≤ l.steps;
}

abbrev pub decreases-sum_in_place : goal.decreases-sum_in_place
decreases-sum_in_place g l = 3 * l.span.height + 1

abbrev pub decreases-sum_in_slots : goal.decreases-sum_in_slots
decreases-sum_in_slots g l = 3 * l.span.height

abbrev pub decreases-sum_in_slot : goal.decreases-sum_in_slot
decreases-sum_in_slot g l = 3 * l.part.span.height + 2
