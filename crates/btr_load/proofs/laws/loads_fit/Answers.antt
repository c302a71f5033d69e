use Rattle.btr_load.proofs.FitLemmas.{loads_fit}
use Rattle.btr_load.proofs.laws.loads_fit.Goals as goal

pub returns : goal.returns
returns c = loads_fit
