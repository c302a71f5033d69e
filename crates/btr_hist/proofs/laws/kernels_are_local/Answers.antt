use Rattle.btr_hist.proofs.DistilLemmas.{value_of-local}
use Rattle.btr_hist.proofs.laws.kernels_are_local.Goals as goal

pub returns : goal.returns
returns c spec t i j h k = value_of-local spec t i j h k
