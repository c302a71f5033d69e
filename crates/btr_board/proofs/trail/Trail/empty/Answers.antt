use Rattle.std.proofs.Common.{refl}
use Rattle.btr_board.specs.Places.{listed}
use Rattle.btr_board.proofs.trail.Trail.empty.Goals as goal

pub returns : goal.returns
unfolding listed
returns g c = refl
