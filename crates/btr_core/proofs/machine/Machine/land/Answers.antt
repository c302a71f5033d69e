-- The plan has landed or was refused, and is used up.
use Rattle.std.specs.Ordering.{nat_cmp}
use Rattle.std.specs.BTreeMap.{get}
use Rattle.std.proofs.Common.{◌≡◌, ◌∙◌, sym, ap, subst, refl, List, Option, Some}
use Rattle.btr_hist.specs.declared.entry.Entry.{Entry}
use Rattle.btr_hist.specs.Machine as model
use Rattle.btr_hist.specs.Machine.{Landing, after_landing, land_reply}
use Rattle.btr_streams.specs.Board.{IsBoardOf}
use Rattle.btr_distil.specs.Plan.{PlanValue}
use Rattle.btr_plan.specs.Plan.{reply_to, landed_after, landing_of}
use Rattle.btr_core.specs.Events.{reply_of}
use Rattle.btr_core.specs.Machine.{IsPlan, IsMachineOf}
use Rattle.btr_core.proofs.MachineLemmas.{plan-there, after-land}
use Rattle.btr_core.proofs.machine.Machine.land.Goals.{After-finish-reply}
use Rattle.btr_core.proofs.machine.Machine.land.Goals as goal

-- The plan is the model's, and its landing is finished as the model says.
finished : (c : After-finish-reply) (m : model.Machine) → IsMachineOf m c.args.self.now → (m.plan c.args.actor ≡ Some (landing_of c.in-Some.plan.now)) × (reply_of c.finish-reply.result ≡ reply_to m.history c.in-Some.plan.now) × IsBoardOf (landed_after m.history c.in-Some.plan.now) c.finish-reply.new.board
finished c m of =
    let h = m.history in
    let p = c.in-Some.plan.now in
    let actor = c.args.actor in
    let there : get nat_cmp c.args.self.now.plans actor ≡ Some p = sym c.in-Some.ensures.value in
    let had = plan-there h (m.plan actor) p (subst (λ (o : Option PlanValue). IsPlan h (m.plan actor) o) there (of.plans actor)) in
    let done = c.finish-reply.ensures h (landed_after h p) (reply_to h p) of.board (c.in_ok-outcome.ensures h of.board of.legal had.1) in
    (had.0, done.0, done.1)

pub returns-clause-replied : goal.returns-clause-replied
returns-clause-replied c = λ m of.
    let is = finished (goal.at.returns-clause-replied c).After-finish-reply m of in
    is.1 ∙ sym (ap (λ (o : Option Landing). land_reply m.history o) is.0)

pub returns-clause-next : goal.returns-clause-next
returns-clause-next c = λ m of.
    let is = finished (goal.at.returns-clause-next c).After-finish-reply m of in
    let next : landed_after m.history c.in-Some.plan.now ≡ after_landing m.history (m.plan c.args.actor) = ap (λ (o : Option Landing). after_landing m.history o) (sym is.0) in
    after-land m c.args.actor c.args.self.now _ of (subst (λ (l : List Entry). IsBoardOf l c.finish-reply.new.board) next is.2) refl c.remove.ensures.updates
