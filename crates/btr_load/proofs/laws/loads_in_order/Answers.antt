use Rattle.btr_load.proofs.InOrderLemmas.{loads_in_order}
use Rattle.btr_load.proofs.laws.loads_in_order.Goals as goal

pub returns : goal.returns
returns c = loads_in_order
