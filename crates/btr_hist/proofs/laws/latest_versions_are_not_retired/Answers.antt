use Rattle.btr_hist.proofs.RetireLemmas.{legal-past}
use Rattle.btr_hist.proofs.laws.latest_versions_are_not_retired.Goals as goal

pub returns : goal.returns
returns c h stream legal = legal-past h stream legal
