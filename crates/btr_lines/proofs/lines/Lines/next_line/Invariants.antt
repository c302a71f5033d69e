use Rattle.std.proofs.Common.{◌+◌, ◌-◌, length}
use Rattle.btr_lines.proofs.AskLemmas.{Reading}
use Rattle.btr_lines.proofs.lines.Lines.next_line.Given as goal

abbrev pub invariant-loop-asked : goal.invariant-loop-asked
invariant-loop-asked g l =
    Reading g.S.Source l.limit l.fn.self l.fn.source l.beside l.fn.asked.items l.line.items l.self l.source l.asked.items

abbrev pub decreases-loop-asked : goal.decreases-loop-asked
decreases-loop-asked g l = (l.limit + 1 - length l.line.items) + (1 - length l.self)
