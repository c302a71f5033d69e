use Rattle.std.proofs.Common.{take}
use Rattle.btr_board.proofs.EntryLemmas.{IsHalf}
use Rattle.btr_board.proofs.index_node.half.Given as goal

abbrev pub invariant-loop-entry : goal.invariant-loop-entry
invariant-loop-entry l = IsHalf l.place l.one l.part.items (take l.entry-index l.entries)
