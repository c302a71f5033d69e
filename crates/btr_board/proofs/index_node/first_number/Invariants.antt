use Rattle.std.proofs.Common.{◌≡◌, drop}
use Rattle.btr_board.specs.Numbers.{first}
use Rattle.btr_board.proofs.index_node.first_number.Given as goal

abbrev pub invariant-loop-entry : goal.invariant-loop-entry
invariant-loop-entry l = first (drop l.entry-index l.entries) l.id ≡ first l.entries l.id
