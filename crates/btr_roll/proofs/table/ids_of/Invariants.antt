use Rattle.std.proofs.Common.{◌≡◌, map, take}
use Rattle.btr_roll.proofs.table.ids_of.Given as goal

abbrev pub invariant-loop-stream : goal.invariant-loop-stream
invariant-loop-stream l = l.ids.items ≡ map (λ s. s.id) (take l.stream-index l.streams)
