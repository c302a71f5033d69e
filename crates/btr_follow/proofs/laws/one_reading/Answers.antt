use Rattle.btr_follow.proofs.FrameLemmas.{reading_once}
use Rattle.btr_follow.proofs.laws.one_reading.Goals as goal

pub returns : goal.returns
returns c = reading_once
