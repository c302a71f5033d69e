use Rattle.btr_work.proofs.InOrderLemmas.{refreshed-in-order}
use Rattle.btr_work.proofs.laws.refreshed_in_order.Goals as goal

pub returns : goal.returns
returns c = refreshed-in-order
