-- A frame of the leader is delivered.
use Rattle.btr_follow.proofs.TakingLemmas.{delivery_answered, delivery_torn}
use Rattle.btr_follow.proofs.follower.Follower.hear.Goals as goal

pub returns-clause-delivers : goal.returns-clause-delivers
returns-clause-delivers g c = λ es i d.
    delivery_answered c.deliveries_are_heard.ensures es i c.args.frame.now c.args.self.now c.answer.new.self d c.answer.result c.answer.ensures.heard

pub returns-clause-crash : goal.returns-clause-crash
returns-clause-crash g c = λ seen es i d.
    delivery_torn c.deliveries_are_heard.ensures es i c.args.frame.now c.args.self.now c.answer.new.self d (c.answer.ensures.torn seen _)
