use Rattle.btr_hist.proofs.Stays.{answer-stays}
use Rattle.btr_hist.proofs.laws.old_versions_stay.Goals as goal

pub returns : goal.returns
returns c h more q settled still = answer-stays h more q settled still
