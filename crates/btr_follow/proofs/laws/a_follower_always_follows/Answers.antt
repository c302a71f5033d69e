use Rattle.btr_follow.proofs.WorldLemmas.{always-follows}
use Rattle.btr_follow.proofs.laws.a_follower_always_follows.Goals as goal

pub returns : goal.returns
returns c = always-follows c.the_machine_stays_legal.ensures
