use Rattle.std.proofs.Common.{◌≤◌}
use Rattle.btr_tree.specs.Slots.{AreEmpty}
use Rattle.btr_tree.specs.Spots.{shown_slot}
use Rattle.btr_tree.proofs.fetched.FetchedNodeSource.previous_occupied.Given as goal

abbrev pub invariant-loop-i : goal.invariant-loop-i
invariant-loop-i g l = record {
  low : l.i ≤ l.to;
  none : AreEmpty (shown_slot l.inner.slots) l.i l.to;
}

abbrev pub decreases-loop-i : goal.decreases-loop-i
decreases-loop-i g l = l.i
