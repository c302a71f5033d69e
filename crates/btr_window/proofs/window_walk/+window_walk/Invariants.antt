use Rattle.std.proofs.Common.{◌≡◌, ℕ, suc, ◌+◌, ◌-◌, ◌*◌, ◌<◌, ◌≤◌}
use Rattle.btr_base.specs.Bag.{within}
use Rattle.btr_tree.specs.Change.{joined_first}
use Rattle.btr_tree.specs.History.{Past, bag}
use Rattle.btr_tree.specs.Shape.{slot_start}
use Rattle.btr_tree.specs.NodeSource.{AreSlotsAt}
use Rattle.btr_window.specs.Accumulate.{AddsWithin, AreStarts, counted}
use Rattle.btr_tree.proofs.RangeSlotLemmas.{IsBetween}
use Rattle.btr_window.proofs.window_walk.+window_walk.Given as goal

-- The points of the slots before `from` are added.
abbrev pub invariant-walk_slots-loop-i : goal.invariant-walk_slots-loop-i
invariant-walk_slots-loop-i g l = record {
  between : (below : ℕ) → l.span.height ≡ suc below → IsBetween below l.span.start l.windows.range.from l.windows.range.to l.first l.last;
  place : l.last < 64;
  behind : l.first ≤ l.from;
  before : l.from ≤ l.last + 1;
  same : g.S.NodeSource.told l.state ≡ g.S.NodeSource.told l.fn.state;
  rises : g.S.NodeSource.faults l.fn.state ≤ g.S.NodeSource.faults l.state;
  starts : AreStarts l.windows.grid l.cells.items;
  few : counted l.cells.items ≤ counted l.fn.cells.items + (joined_first l.from (g.S.NodeSource.inner_slot l.slots)).count;
  cells : (h : Past) → (at : AreSlotsAt (g.S.NodeSource.IsAt (g.S.NodeSource.told l.fn.state)) (g.S.NodeSource.inner_place l.slots) (g.S.NodeSource.inner_slot l.slots) l.span h) → AddsWithin l.windows l.fn.cells.items l.cells.items (within l.span.start (slot_start at.below l.span.start l.from) (bag h));
}

abbrev pub decreases-walk_slots-loop-i : goal.decreases-walk_slots-loop-i
decreases-walk_slots-loop-i g l = 64 - l.from

abbrev pub decreases-walk_place : goal.decreases-walk_place
decreases-walk_place g l = 3 * l.span.height + 1

abbrev pub decreases-walk_slots : goal.decreases-walk_slots
decreases-walk_slots g l = 3 * l.span.height

abbrev pub decreases-walk_slot : goal.decreases-walk_slot
decreases-walk_slot g l = 3 * l.part.span.height + 2
