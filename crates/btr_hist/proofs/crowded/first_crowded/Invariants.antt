use Rattle.std.proofs.Common.{◌≡◌, take, None}
use Rattle.std.specs.List.{find}
use Rattle.btr_base.specs.Crowded.{bottom_start, is_crowded}
use Rattle.btr_hist.proofs.crowded.first_crowded.Given as goal

abbrev pub invariant-loop-index : goal.invariant-loop-index
invariant-loop-index l = find (λ p. is_crowded l.points (bottom_start p.time)) (take l.index l.points) ≡ None
