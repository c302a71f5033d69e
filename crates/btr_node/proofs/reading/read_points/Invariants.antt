use Rattle.btr_node.specs.Reading.{point_in}
use Rattle.btr_node.proofs.Places.{AreRead}
use Rattle.btr_node.proofs.reading.read_points.Given as goal

abbrev pub invariant-loop-i : goal.invariant-loop-i
invariant-loop-i l = AreRead point_in 16 252 l.bytes l.i l.points
