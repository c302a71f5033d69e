use Rattle.btr_load.proofs.ThereLemmas.{batches_there}
use Rattle.btr_load.proofs.laws.batches_are_there.Goals as goal

pub returns : goal.returns
returns c = batches_there
