use Rattle.std.proofs.Common.{◌∙◌, sym, ap}
use Rattle.btr_gate.specs.Gates.{view}
use Rattle.btr_gate.specs.Views.{turn_list, with_entry}
use Rattle.btr_hall.specs.GroupBook.{book}
use Rattle.btr_group.specs.Known.{known_of}
use Rattle.btr_group.specs.Seats.{setting_of}
use Rattle.btr_group.specs.State.{state_value, IsGroupAt}
use Rattle.btr_group.proofs.NoteLemmas.{known_same, state_tiles}
use Rattle.btr_group.proofs.PassLemmas.{group_in}
use Rattle.btr_group.proofs.SeatLemmas.{looks_at}
use Rattle.btr_group.proofs.group.Seat.outcome.Given.{Over}
use Rattle.btr_group.proofs.group.Seat.outcome.Goals.{After-enter-turn}
use Rattle.btr_group.proofs.group.Seat.outcome.Goals as goal

-- the state of the turn is of its list
its_state : (g : Over) (c : After-enter-turn g) → IsGroupAt c.enter-turn.result.state (turn_list (view c.enter-turn.new.pass)) (setting_of c.args.group.now)
its_state g c =
    group_in c.enter-turn.result.state (turn_list (view c.enter-turn.new.pass)) (view c.args.self.now.pass).setting (setting_of c.args.group.now) c.requires.seat.set c.enter-turn.ensures.takes.state

pub returns-clause-known : goal.returns-clause-known
returns-clause-known g c =
    let a = (goal.at.returns-clause-known g c).After-enter-turn in
    let l = turn_list (view c.enter-turn.new.pass) in
    let v = state_value c.enter-turn.result.state in
    let x = setting_of c.args.group.now in
    let tiles = state_tiles v _ (book l) x (its_state g a) in
    let seen = c.leave.ensures.leaves.seen ∙ ap (with_entry l) c.enter-turn.ensures.takes.none in
    c.known-known.ensures tiles.0 tiles.1 ∙ known_same v _ (book l) x c.args.ticket (its_state g a) ∙ sym (ap (λ z. known_of (book z) c.args.ticket) seen)

pub returns-clause-looks : goal.returns-clause-looks
returns-clause-looks g c =
    looks_at c.args.self.now _ (view c.enter-turn.new.pass) _ _ c.enter-turn.ensures.enters c.leave.ensures.leaves c.enter-turn.ensures.takes.none c.enter-turn.ensures.takes.begins c.enter-turn.ensures.takes.alone
