use Rattle.btr_node.specs.Reading.{slot_in, AreExact}
use Rattle.btr_node.proofs.Places.{AreRead}
use Rattle.btr_node.proofs.reading.read_slots.Given as goal

abbrev pub invariant-loop-i : goal.invariant-loop-i
invariant-loop-i l = AreRead slot_in 56 64 l.bytes l.i l.slots × AreExact l.i l.bytes
