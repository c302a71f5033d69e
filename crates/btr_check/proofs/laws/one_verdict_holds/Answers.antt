use Rattle.btr_check.proofs.OneVerdict.{one-verdict}
use Rattle.btr_check.proofs.laws.one_verdict_holds.Goals as goal

pub returns : goal.returns
returns c = one-verdict
