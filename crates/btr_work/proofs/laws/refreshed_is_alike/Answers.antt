use Rattle.btr_work.proofs.AlikeLemmas.{refreshed-alike}
use Rattle.btr_work.proofs.laws.refreshed_is_alike.Goals as goal

pub returns : goal.returns
returns c start log low report own levels refreshes legal all are undisturbed = refreshed-alike start log low report own levels refreshes legal all are undisturbed
