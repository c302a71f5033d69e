use Rattle.std.proofs.Common.{◌≡◌, map, take}
use Rattle.btr_load.proofs.stream.points_of.Given as goal

abbrev pub invariant-loop-numbered : goal.invariant-loop-numbered
invariant-loop-numbered l = l.points.items ≡ map (λ b. b.point) (take l.numbered-index l.batch)
