use Rattle.btr_follow.proofs.WorldLemmas.{never-forgets}
use Rattle.btr_follow.proofs.laws.a_follower_never_forgets.Goals as goal

pub returns : goal.returns
returns c = never-forgets
