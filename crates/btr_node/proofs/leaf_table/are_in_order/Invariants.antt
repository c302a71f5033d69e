use Rattle.btr_node.proofs.TableLemmas.{IsOrderedTo}
use Rattle.btr_node.proofs.leaf_table.are_in_order.Given as goal

abbrev pub invariant-loop-i : goal.invariant-loop-i
invariant-loop-i l = IsOrderedTo l.points l.i
