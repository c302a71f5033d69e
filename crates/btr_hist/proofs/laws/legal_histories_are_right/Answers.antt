use Rattle.btr_hist.proofs.RightLemmas.{legal-right}
use Rattle.btr_hist.proofs.laws.legal_histories_are_right.Goals as goal

pub returns : goal.returns
returns c h legal = legal-right h legal
