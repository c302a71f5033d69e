use Rattle.std.proofs.Common.{◌++◌, length, ◌≡◌, ℕ, suc, ◌<◌, ◌+◌, ◌*◌}
use Rattle.btr_base.specs.Bag.{IsInOrder, within}
use Rattle.btr_tree.specs.History.{Commit, Past, ◌▷◌}
use Rattle.btr_tree.specs.Shape.{slot_start}
use Rattle.btr_tree.specs.Slots.{IsFilled}
use Rattle.btr_tree.proofs.BuiltNodeLemmas.{HasFirst}
use Rattle.btr_tree.specs.Change.{IsSplit, CountsNodes, end_of}
use Rattle.btr_base.specs.declared.limits.TheConstants.{LEAF_POINTS}
use Rattle.btr_tree.specs.Nodes.{is_inner}
use Rattle.btr_tree.specs.NewNodes.{concat_first, new_nodes, bare_all}
use Rattle.btr_tree.specs.Stored.{Store, AreLaid}
use Rattle.btr_tree.specs.Crowd.{HasNoCrowdedSpan}
use Rattle.btr_tree.proofs.build.+build.Given as goal

-- The slots that were made are those of the points before the next one.
abbrev pub invariant-build_slots-loop-i : goal.invariant-build_slots-loop-i
invariant-build_slots-loop-i g l = record {
  rest : (below : ℕ) → l.span.height ≡ suc below → l.rest ≡ within (slot_start below l.span.start l.i) (end_of l.span) l.points;
  order : IsInOrder l.rest;
  slots : (below : ℕ) (h : Past) (c : Commit) → IsSplit below l.span h c l.numbering.version l.points → HasFirst below l.span.start (c ▷ h) l.i l.slots;
  filled : IsFilled l.i l.slots;
  nodes : (below : ℕ) (h : Past) (c : Commit) → IsSplit below l.span h c l.numbering.version l.points → LEAF_POINTS < length l.points → bare_all l.nodes.items ≡ bare_all l.fn.nodes.items ++ concat_first l.i (λ i. new_nodes below (slot_start below l.span.start i) (is_inner (suc below) l.span.start) (c ▷ h) l.numbering.version);
  stored : (store : Store) (below : ℕ) → l.span.height ≡ suc below → AreLaid l.i store l.numbering.first l.nodes.items below l.span.start l.slots;
  counted : CountsNodes l.fn.steps l.steps l.fn.nodes.items l.nodes.items;
  room : (below : ℕ) → l.span.height ≡ suc below → HasNoCrowdedSpan l.span.start (slot_start below l.span.start l.i) l.points;
}

abbrev pub decreases-build : goal.decreases-build
decreases-build g l = 3 * l.span.height + 1

abbrev pub decreases-build_slots : goal.decreases-build_slots
decreases-build_slots g l = 3 * l.span.height

abbrev pub decreases-build_slot : goal.decreases-build_slot
decreases-build_slot g l = 3 * l.span.height + 2
