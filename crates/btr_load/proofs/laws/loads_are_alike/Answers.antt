use Rattle.btr_load.proofs.AlikeLemmas.{loads_alike}
use Rattle.btr_load.proofs.laws.loads_are_alike.Goals as goal

pub returns : goal.returns
returns c = loads_alike
