use Rattle.btr_hall.specs.Trace.{history_of}
use Rattle.btr_hall.specs.Session.{seen_of}
use Rattle.btr_hall.proofs.session.Session.ask.Goals as goal

-- the snapshot is of the history to which the list leads
pub returns-clause-answer : goal.returns-clause-answer
returns-clause-answer g c h of =
    c.answer.ensures (history_of h (seen_of c.admit.new.self)) (c.in_ok-snapshot.ensures.snapshot h of)
