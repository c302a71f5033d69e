use Rattle.btr_tree.specs.Slots.{AreEmpty}
use Rattle.btr_tree.specs.Spots.{shown_slot}
use Rattle.btr_tree.proofs.fetched.FetchedNodeSource.next_occupied.Given as goal

abbrev pub invariant-loop-i : goal.invariant-loop-i
invariant-loop-i g l = AreEmpty (shown_slot l.inner.slots) l.from l.i
