use Rattle.btr_follow.proofs.FrameLemmas.{reads_back}
use Rattle.btr_follow.proofs.laws.frames_are_read_back.Goals as goal

pub returns : goal.returns
returns c = reads_back
