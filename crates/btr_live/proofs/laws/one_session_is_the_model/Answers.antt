-- The law is a lemma by induction over the lines.
use Rattle.btr_live.proofs.OneLaneLemmas.{one_session}
use Rattle.btr_live.proofs.laws.one_session_is_the_model.Goals as goal

pub returns : goal.returns
returns c = one_session
