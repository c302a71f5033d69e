use Rattle.std.proofs.Common.{◌-◌, length}
use Rattle.btr_open.proofs.ShelfLemmas.{HasNumbersFrom}
use Rattle.btr_open.proofs.shelf.numbers_of.Given as goal

-- The last streams have their numbers, as many as were put so far.
abbrev pub invariant-loop-done : goal.invariant-loop-done
invariant-loop-done l = HasNumbersFrom l.numbers.entries l.streams (length l.streams - l.done)
