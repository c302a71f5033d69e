-- The law is a lemma on one line.
use Rattle.btr_live.proofs.Refreshes.{refreshes_current}
use Rattle.btr_live.proofs.laws.refreshes_are_current.Goals as goal

pub returns : goal.returns
returns c = refreshes_current
