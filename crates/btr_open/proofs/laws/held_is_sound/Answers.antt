use Rattle.btr_open.proofs.Sound.{sound}
use Rattle.btr_open.proofs.laws.held_is_sound.Goals as goal

pub returns : goal.returns
returns c = sound
