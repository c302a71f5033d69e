use Rattle.std.proofs.Common.{◌≡◌, ℕ, suc, ◌+◌, ◌*◌, ◌≤◌, length}
use Rattle.btr_base.specs.Bag.{IsInOrder, within}
use Rattle.btr_tree.specs.History.{◌▷◌}
use Rattle.btr_tree.specs.Change.{end_of}
use Rattle.btr_tree.specs.NewNodes.{concat_first}
use Rattle.btr_tree.specs.Shape.{slot_start}
use Rattle.btr_tree.specs.Shared.{slot_nodes, AtEachPart}
use Rattle.btr_tree.proofs.node_count.+count.Given as goal

abbrev pub decreases-count_nodes : goal.decreases-count_nodes
decreases-count_nodes l = 2 * l.span.height + 1

abbrev pub decreases-count_slots : goal.decreases-count_slots
decreases-count_slots l = 2 * l.span.height

-- The nodes of the slots before the next one were counted.
abbrev pub invariant-count_slots-loop-i : goal.invariant-count_slots-loop-i
invariant-count_slots-loop-i l = record {
  rest : (below : ℕ) → l.span.height ≡ suc below → l.rest ≡ within (slot_start below l.span.start l.i) (end_of l.span) l.points;
  order : IsInOrder l.rest;
  count : (version : ℕ) → AtEachPart l.span l.fn.from l.fn.to version l.points (λ below h c. length (concat_first l.i (slot_nodes below l.span.start (c ▷ h) version)) ≡ length (concat_first l.fn.from (slot_nodes below l.span.start (c ▷ h) version)) + l.count);
  few : l.count + l.span.height * length l.rest ≤ l.span.height * length l.points;
}
