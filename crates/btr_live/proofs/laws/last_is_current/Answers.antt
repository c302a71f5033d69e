-- The law is a lemma on the last round.
use Rattle.btr_live.proofs.CurrentLemmas.{last_current}
use Rattle.btr_live.proofs.laws.last_is_current.Goals as goal

pub returns : goal.returns
returns c = last_current
