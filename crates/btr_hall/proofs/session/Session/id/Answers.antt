use Rattle.btr_gate.specs.Gates.{view}
use Rattle.btr_gate.specs.Views.{turn_list}
use Rattle.btr_hall.specs.Session.{opening_of}
use Rattle.btr_hall.proofs.TurnLemmas.{state_in, engine_here}
use Rattle.btr_hall.proofs.session.Session.id.Goals as goal

pub returns-clause-id : goal.returns-clause-id
returns-clause-id g c = λ h with_h.
    let x = opening_of c.args.hall.now in
    let v = view c.args.self.now.pass in
    let w = view c.enter-turn.new.pass in
    let s = c.enter-turn.result.state in
    let takes = c.enter-turn.ensures.takes in
    let of = state_in s (turn_list w) v.setting x c.requires.session.set takes.state in
    c.id-result.ensures _ (engine_here v w (view c.leave.new.pass) _ _ c.enter-turn.ensures.enters c.leave.ensures.leaves takes.none h s x of with_h)
