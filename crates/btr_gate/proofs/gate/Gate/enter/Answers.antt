use Rattle.btr_gate.proofs.Entered.{slot_full}
use Rattle.btr_gate.proofs.gate.Gate.enter.Goals as goal

pub take-requires-clause-full : goal.take-requires-clause-full
take-requires-clause-full g c = slot_full g.T.Chronicle c.draw-ticket.new.seat.me c.wait.new.seat.me c.wait.ensures.served
