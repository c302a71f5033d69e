use Rattle.std.proofs.Common.{take}
use Rattle.btr_board.proofs.EntryLemmas.{AreOthers}
use Rattle.btr_board.proofs.index_node.with_entry.Given as goal

abbrev pub invariant-loop-entry : goal.invariant-loop-entry
invariant-loop-entry l = AreOthers l.new.id l.others.items (take l.entry-index l.entries)
