use Rattle.btr_work.proofs.CurrentLemmas.{refreshed-current}
use Rattle.btr_work.proofs.laws.refreshed_is_current.Goals as goal

pub returns : goal.returns
returns c start log low report own refreshes follows all = refreshed-current start log low report own refreshes follows all
