-- The law is a lemma on a whole run.
use Rattle.btr_live.proofs.HistoryLemmas.{one_history}
use Rattle.btr_live.proofs.laws.runs_are_one_history.Goals as goal

pub returns : goal.returns
returns c = one_history
