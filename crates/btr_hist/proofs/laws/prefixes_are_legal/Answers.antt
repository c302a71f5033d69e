use Rattle.btr_hist.proofs.HistoryLemmas.{legal-prefix}
use Rattle.btr_hist.proofs.laws.prefixes_are_legal.Goals as goal

pub returns : goal.returns
returns c h more legal = legal-prefix h more legal
