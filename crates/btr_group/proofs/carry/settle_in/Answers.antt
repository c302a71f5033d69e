use Rattle.std.specs.Prelude.{◌≡◌, not, List, [], ◌∷◌, ◌++◌, length, Option, Some}
use Rattle.std.specs.Option.{is_some}
use Rattle.std.proofs.Common.{◌∙◌, refl, sym, ap, subst}
use Rattle.btr_gate.specs.Gates.{view}
use Rattle.btr_gate.specs.Views.{turn_list}
use Rattle.btr_hall.specs.declared.group_item.GroupItem.TheVariants.{Settle}
use Rattle.btr_hall.specs.GroupBook.{BatchValue, SettledValue, book}
use Rattle.btr_group.specs.Serves.{CommitsEach}
use Rattle.btr_group.specs.Seats.{setting_of}
use Rattle.btr_group.specs.State.{StateValue, state_value, IsStateAt, IsGroupAt}
use Rattle.btr_group.proofs.StateLemmas.{session_out, settle_state}
use Rattle.btr_group.proofs.PassLemmas.{group_in, group_out, carried_here, has_settled}
use Rattle.btr_group.proofs.carry.settle_in.Given.{Over}
use Rattle.btr_group.proofs.carry.settle_in.Goals.{After-enter-turn}
use Rattle.btr_group.proofs.carry.settle_in.Goals as goal

-- the state of the turn is of its list
its_state : (g : Over) (c : After-enter-turn g) → IsGroupAt c.enter-turn.result.state (turn_list (view c.enter-turn.new.pass)) (setting_of c.args.group.now)
its_state g c =
    group_in c.enter-turn.result.state (turn_list (view c.enter-turn.new.pass)) (view c.args.pass.now).setting (setting_of c.args.group.now) c.requires.may.set c.enter-turn.ensures.takes.state

-- the batch is out at the end of that list, and nothing was settled since
its_batch : (g : Over) (c : After-enter-turn g)
    → ((book (turn_list (view c.enter-turn.new.pass))).out ≡ Some c.requires.may.batch) × ((book (turn_list (view c.enter-turn.new.pass))).settled ≡ (book (view c.args.pass.now).seen).settled)
its_batch g c =
    carried_here (view c.args.pass.now).seen (turn_list (view c.enter-turn.new.pass)) c.requires.may.batch c.enter-turn.ensures.takes.begins c.requires.may.out (c.enter-turn.ensures.takes.since refl c.requires.may.carries)

pub settle-requires : goal.settle-requires
settle-requires g c =
    let a = (goal.at.settle-requires g c).After-enter-turn in
    session_out (state_value c.enter-turn.result.state) _ _ _ (its_state g a) (ap (λ (o : Option BatchValue). is_some o) (its_batch g a).0)

pub leave-requires-clause-of : goal.leave-requires-clause-of
leave-requires-clause-of g c =
    let a = (goal.at.leave-requires-clause-of g c).After-enter-turn in
    let w = view c.enter-turn.new.pass in
    let x = setting_of c.args.group.now in
    let s = c.enter-turn.result.state in
    let note = c.args.batch in
    let session = c.args.session in
    let may = c.requires.may in
    let batch = its_batch g a in
    let served = subst (λ (l : List SettledValue). CommitsEach x.stream x.session (l ++ record { batch = may.batch; outcome = note.outcome } ∷ []) session) (sym batch.1) may.served in
    let next = settle_state (state_value s) (turn_list w) x may.batch note.outcome session note (its_state g a) batch.0 may.note_is served in
    group_out c.settle.new.self (turn_list w ++ Settle note.outcome ∷ []) w.setting x (c.enter-turn.ensures.enters.setting ∙ may.set)
    (subst (λ (v : StateValue g.row.D.Denot g.D.Disk). IsStateAt v (length (turn_list w ++ Settle note.outcome ∷ [])) (book (turn_list w ++ Settle note.outcome ∷ [])) x) (sym c.settle.ensures) next)

pub leave-requires-clause-lent : goal.leave-requires-clause-lent
leave-requires-clause-lent g c = λ out free.
    let carried = c.enter-turn.ensures.enters.carries ∙ c.requires.may.carries in
    absurd (cc)

pub returns-clause-carries : goal.returns-clause-carries
returns-clause-carries g c =
    let t = c.settle.new.self in
    has_settled (view c.args.pass.now) (view c.enter-turn.new.pass) (view c.leave.new.pass) _ (not (is_some t.session)) c.args.batch.outcome c.enter-turn.ensures.enters c.leave.ensures.leaves refl
    (ap (λ (v : StateValue g.row.D.Denot g.D.Disk). not (is_some v.session)) c.settle.ensures) c.enter-turn.ensures.takes.begins (c.enter-turn.ensures.takes.since refl c.requires.may.carries)
