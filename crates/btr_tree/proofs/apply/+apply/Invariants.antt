use Rattle.std.proofs.Common.{◌++◌, length, ◌≡◌, ℕ, suc, ◌<◌, ◌+◌, ◌*◌}
use Rattle.btr_base.specs.Bag.{IsInOrder, within}
use Rattle.btr_tree.specs.History.{Commit, bag, IsBefore, Past, ◌▷◌}
use Rattle.btr_tree.specs.Nodes.{points_of, is_inner}
use Rattle.btr_tree.specs.Shape.{slot_start}
use Rattle.btr_tree.specs.Slots.{IsFilled, base_of}
use Rattle.btr_tree.proofs.BuiltNodeLemmas.{HasFirst}
use Rattle.btr_tree.specs.Change.{IsApplied, CountsNodes, end_of}
use Rattle.btr_base.specs.declared.limits.TheConstants.{LEAF_POINTS}
use Rattle.btr_tree.specs.NewNodes.{concat_first, new_nodes, bare_all}
use Rattle.btr_tree.specs.Stored.{Store, AreBelow, AreLaid}
use Rattle.btr_tree.specs.Crowd.{HasNoCrowdedSpan}
use Rattle.btr_tree.proofs.apply.+apply.Given as goal

-- The slots so far are those after the commit, and no bottom span of theirs is crowded.
abbrev pub invariant-apply_slots-loop-i : goal.invariant-apply_slots-loop-i
invariant-apply_slots-loop-i g l = record {
  rest : (below : ℕ) → l.span.height ≡ suc below → l.rest ≡ within (slot_start below l.span.start l.i) (end_of l.span) l.commit.added.now;
  order : IsInOrder l.rest;
  slots : (below : ℕ) (h : Past) (c : Commit) → IsApplied below l.span h c l.commit.cut.now l.commit.added.now l.commit.numbering.version l.slots → HasFirst below l.span.start (c ▷ h) l.i l.new_slots;
  filled : IsFilled l.i l.new_slots;
  base : base_of l.new_slots ≡ base_of l.slots;
  nodes : (below : ℕ) (h : Past) (c : Commit) → IsApplied below l.span h c l.commit.cut.now l.commit.added.now l.commit.numbering.version l.slots → LEAF_POINTS < length (points_of (suc below) l.span.start (bag (c ▷ h))) → 0 < l.commit.numbering.version → IsBefore l.commit.numbering.version h → bare_all l.nodes.items ≡ bare_all l.fn.nodes.items ++ concat_first l.i (λ i. new_nodes below (slot_start below l.span.start i) (is_inner (suc below) l.span.start) (c ▷ h) l.commit.numbering.version);
  stored : (store : Store) (below : ℕ) → l.span.height ≡ suc below → AreBelow store l.commit.numbering.first below l.span.start l.slots → AreLaid l.i store l.commit.numbering.first l.nodes.items below l.span.start l.new_slots;
  counted : CountsNodes l.fn.steps l.steps l.fn.nodes.items l.nodes.items;
  room : (below : ℕ) (h : Past) (c : Commit) → IsApplied below l.span h c l.commit.cut.now l.commit.added.now l.commit.numbering.version l.slots → HasNoCrowdedSpan l.span.start (slot_start below l.span.start l.i) (points_of (suc below) l.span.start (bag (c ▷ h)));
}

abbrev pub decreases-apply_slot : goal.decreases-apply_slot
decreases-apply_slot g l = 4 * l.span.height + 3

abbrev pub decreases-apply_child : goal.decreases-apply_child
decreases-apply_child g l = 4 * l.span.height + 2

abbrev pub decreases-apply_inner : goal.decreases-apply_inner
decreases-apply_inner g l = 4 * l.span.height + 1

abbrev pub decreases-apply_slots : goal.decreases-apply_slots
decreases-apply_slots g l = 4 * l.span.height
