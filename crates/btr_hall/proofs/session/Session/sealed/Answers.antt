use Rattle.std.proofs.Common.{◌∙◌}
use Rattle.btr_gate.specs.Gates.{view}
use Rattle.btr_gate.specs.Views.{turn_list}
use Rattle.btr_hall.specs.Session.{opening_of}
use Rattle.btr_hall.proofs.TurnLemmas.{state_in, turn_sealed}
use Rattle.btr_hall.proofs.session.Session.sealed.Goals as goal

pub returns-clause-sealed : goal.returns-clause-sealed
returns-clause-sealed g c =
    let x = opening_of c.args.hall.now in
    let v = view c.args.self.now.pass in
    let w = view c.enter-turn.new.pass in
    let s = c.enter-turn.result.state in
    let takes = c.enter-turn.ensures.takes in
    let of = state_in s (turn_list w) v.setting x c.requires.session.set takes.state in
    c.sealed-sealed.ensures ∙ turn_sealed s (turn_list w) x of
