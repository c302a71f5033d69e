use Rattle.btr_follow.specs.World.{world_after}
use Rattle.btr_follow.proofs.WorldLemmas.{always-keeps, leader-legal}
use Rattle.btr_follow.proofs.Delivering.{heard-delivered}
use Rattle.btr_follow.proofs.laws.deliveries_are_heard.Goals as goal

pub returns : goal.returns
returns c = λ es i x f answer after at of hears.
    heard-delivered (world_after es) i x at (always-keeps es) (leader-legal c.the_machine_stays_legal.ensures es) f of answer after hears
