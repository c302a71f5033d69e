use Rattle.btr_hist.proofs.DistilLemmas.{good-is, widened-is}
use Rattle.btr_hist.proofs.laws.changes_are_widened.Goals as goal

pub returns : goal.returns
returns c spec good = widened-is spec (good-is spec good)
