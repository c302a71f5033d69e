use Rattle.std.proofs.Common.{◌≡◌}
use Rattle.btr_tree.specs.Opened.{HasParts, joined_parts}
use Rattle.btr_tree.specs.Slots.{IsFilled}
use Rattle.btr_tree.proofs.opened.slots_of_parts.Given as goal

-- The slots so far are those of the parts.
abbrev pub invariant-loop-i : goal.invariant-loop-i
invariant-loop-i l = record {
  filled : IsFilled l.i l.slots;
  slots : HasParts l.i l.children l.versions l.slots;
  agg : l.agg ≡ joined_parts l.i l.children;
}
