use Rattle.btr_open.proofs.Sound.{one_history}
use Rattle.btr_open.proofs.laws.one_history_is_held.Goals as goal

pub returns : goal.returns
returns c = one_history
