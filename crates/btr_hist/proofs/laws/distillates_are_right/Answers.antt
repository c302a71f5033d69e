use Rattle.btr_hist.proofs.DistilLemmas.{distillate-right}
use Rattle.btr_hist.proofs.laws.distillates_are_right.Goals as goal

pub returns : goal.returns
returns c spec old new low small h k = distillate-right spec old new (record { grain = low; windows = small }) h k
