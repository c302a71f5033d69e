use Rattle.btr_open.proofs.OutlineLemmas.{decide}
use Rattle.btr_open.proofs.laws.outline_and_points_decide.Goals as goal

pub returns : goal.returns
returns c = decide
