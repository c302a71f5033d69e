use Rattle.btr_hist.proofs.DistilLemmas.{output-depends}
use Rattle.btr_hist.proofs.laws.outputs_are_local.Goals as goal

pub returns : goal.returns
returns c spec t i j h k first second = output-depends spec t i j h k first second
