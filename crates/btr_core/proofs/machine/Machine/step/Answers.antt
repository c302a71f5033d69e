-- A commit is that of any actor, and the next machine's history is right.
use Rattle.std.proofs.Common.{◌≡◌, sym, subst, IfOk, OnOk}
use Rattle.btr_hist.specs.Machine as model
use Rattle.btr_hist.proofs.RightLemmas.{legal-right}
use Rattle.btr_core.specs.declared.event.What.{What}
use Rattle.btr_core.specs.Events.{event_of, reply_of}
use Rattle.btr_core.specs.Machine.{IsMachineOf}
use Rattle.btr_core.proofs.MachineLemmas.{next-legal}
use Rattle.btr_core.proofs.machine.Machine.step.Goals as goal

pub returns-in-Commit-clause-replied : goal.returns-in-Commit-clause-replied
returns-in-Commit-clause-replied c = λ m of.
    subst (λ (w : What). IfOk c.commit.result (λ r. reply_of r ≡ model.reply m c.args.event.now.actor (event_of w))) (sym c.in-Commit.is)
    (c.commit.ensures.replied m c.args.event.now.actor of)

pub returns-in-Commit-clause-next : goal.returns-in-Commit-clause-next
returns-in-Commit-clause-next c = λ m of.
    subst (λ (w : What). OnOk c.commit.result (IsMachineOf (model.next m c.args.event.now.actor (event_of w)) c.commit.new.self)) (sym c.in-Commit.is)
    (c.commit.ensures.next m c.args.event.now.actor of)

pub returns-in-Commit-clause-right : goal.returns-in-Commit-clause-right
returns-in-Commit-clause-right c = λ m of.
    legal-right _ (next-legal m c.args.self.now c.args.event.now.actor (event_of c.args.event.now.what) of)

pub returns-in-Admit-clause-right : goal.returns-in-Admit-clause-right
returns-in-Admit-clause-right c = λ m of.
    legal-right _ (next-legal m c.args.self.now c.args.event.now.actor (event_of c.args.event.now.what) of)

pub returns-in-Ask-clause-right : goal.returns-in-Ask-clause-right
returns-in-Ask-clause-right c = λ m of.
    legal-right _ (next-legal m c.args.self.now c.args.event.now.actor (event_of c.args.event.now.what) of)

pub returns-in-Plan-clause-right : goal.returns-in-Plan-clause-right
returns-in-Plan-clause-right c = λ m of.
    legal-right _ (next-legal m c.args.self.now c.args.event.now.actor (event_of c.args.event.now.what) of)

pub returns-in-Land-clause-right : goal.returns-in-Land-clause-right
returns-in-Land-clause-right c = λ m of.
    legal-right _ (next-legal m c.args.self.now c.args.event.now.actor (event_of c.args.event.now.what) of)
