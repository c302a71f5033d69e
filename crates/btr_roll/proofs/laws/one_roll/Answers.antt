use Rattle.btr_roll.proofs.RollLemmas.{roll_once}
use Rattle.btr_roll.proofs.laws.one_roll.Goals as goal

pub returns : goal.returns
returns c = λ format a b h k same. roll_once format a b h.fits k.fits same
