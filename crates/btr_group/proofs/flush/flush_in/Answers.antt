use Rattle.std.proofs.Common.{◌∙◌}
use Rattle.btr_gate.specs.Gates.{view}
use Rattle.btr_gate.specs.Views.{turn_list, list_after}
use Rattle.btr_group.specs.Seats.{setting_of}
use Rattle.btr_group.specs.State.{state_value, IsGroupAt}
use Rattle.btr_group.proofs.StateLemmas.{flush_state, flush_lent}
use Rattle.btr_group.proofs.PassLemmas.{group_in, group_out, has_flushed}
use Rattle.btr_group.proofs.flush.flush_in.Given.{Over}
use Rattle.btr_group.proofs.flush.flush_in.Goals.{After-enter-turn}
use Rattle.btr_group.proofs.flush.flush_in.Goals as goal

-- the state of the turn is of its list
its_state : (g : Over) (c : After-enter-turn g) → IsGroupAt c.enter-turn.result.state (turn_list (view c.enter-turn.new.pass)) (setting_of c.args.group.now)
its_state g c =
    group_in c.enter-turn.result.state (turn_list (view c.enter-turn.new.pass)) (view c.args.pass.now).setting (setting_of c.args.group.now) c.requires.free.set c.enter-turn.ensures.takes.state

pub leave-requires-clause-of : goal.leave-requires-clause-of
leave-requires-clause-of g c =
    let a = (goal.at.leave-requires-clause-of g c).After-enter-turn in
    let w = view c.enter-turn.new.pass in
    let item = c.flush-result.result.1 in
    group_out c.flush-result.new.self (list_after w item) w.setting (setting_of c.args.group.now) (c.enter-turn.ensures.enters.setting ∙ c.requires.free.set)
    (flush_state (state_value c.enter-turn.result.state) (turn_list w) (setting_of c.args.group.now) c.flush-result.result.0 item (state_value c.flush-result.new.self) (its_state g a) c.flush-result.ensures)

pub leave-requires-clause-lent : goal.leave-requires-clause-lent
leave-requires-clause-lent g c = λ out free.
    flush_lent (state_value c.enter-turn.result.state) c.flush-result.result.0 c.flush-result.result.1 (state_value c.flush-result.new.self) c.flush-result.ensures (c.enter-turn.ensures.takes.lent ∙ out)

pub returns-clause-flushed : goal.returns-clause-flushed
returns-clause-flushed g c =
    let a = (goal.at.returns-clause-flushed g c).After-enter-turn in
    has_flushed (setting_of c.args.group.now) (view c.args.pass.now) (view c.enter-turn.new.pass) (view c.leave.new.pass) c.enter-turn.result.state c.flush-result.new.self c.flush-result.result.1
    c.requires.free c.enter-turn.ensures.enters (its_state g a) c.enter-turn.ensures.takes.lent c.leave.ensures.leaves c.flush-result.result.0
    c.enter-turn.ensures.takes.begins c.enter-turn.ensures.takes.alone c.flush-result.ensures
