use Rattle.std.proofs.Common.{◌≡◌, ℕ, suc, ◌+◌, ◌-◌, ◌*◌, ◌≤◌, ◌++◌}
use Rattle.btr_base.specs.Bag.{within}
use Rattle.btr_tree.specs.History.{Past, bag}
use Rattle.btr_tree.specs.Shape.{slot_start}
use Rattle.btr_tree.specs.NodeSource.{AreSlotsAt}
use Rattle.btr_tree.proofs.RangeSlotLemmas.{IsBetween}
use Rattle.btr_scan.proofs.span_walk.+walk.Given as goal

-- Of the slots that were walked, and of those before them, the points between the two times.
abbrev pub invariant-append_in_slots-loop-i : goal.invariant-append_in_slots-loop-i
invariant-append_in_slots-loop-i g l = record {
  between : (below : ℕ) → l.span.height ≡ suc below → IsBetween below l.span.start l.range.from l.range.to l.first l.last;
  low : l.first ≤ l.from;
  high : l.from ≤ l.last + 1;
  same : g.S.NodeSource.told l.state ≡ g.S.NodeSource.told l.fn.state;
  rises : g.S.NodeSource.faults l.fn.state ≤ g.S.NodeSource.faults l.state;
  steps : l.fn.steps ≤ l.steps;
  rows : (h : Past) (at : AreSlotsAt (g.S.NodeSource.IsAt (g.S.NodeSource.told l.fn.state)) (g.S.NodeSource.inner_place l.slots) (g.S.NodeSource.inner_slot l.slots) l.span h) → l.rows.items ≡ l.fn.rows.items ++ within l.range.from l.range.to (within l.span.start (slot_start at.below l.span.start l.from) (bag h));
}

abbrev pub decreases-append_in_slots-loop-i : goal.decreases-append_in_slots-loop-i
decreases-append_in_slots-loop-i g l = 64 - l.from

abbrev pub decreases-append_in_place : goal.decreases-append_in_place
decreases-append_in_place g l = 2 * l.span.height + 1

abbrev pub decreases-append_in_slots : goal.decreases-append_in_slots
decreases-append_in_slots g l = 2 * l.span.height
