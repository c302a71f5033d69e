use Rattle.std.specs.Prelude.{[]}
use Rattle.std.proofs.Common.{sym, subst}
use Rattle.btr_base.specs.Bag.{sort}
use Rattle.btr_hist.specs.declared.entry.Entry.TheVariants.{Commit}
use Rattle.btr_gate.specs.Gates.{view}
use Rattle.btr_hall.specs.declared.group_answers.Outcome.{Outcome}
use Rattle.btr_hall.specs.GroupBook.{book}
use Rattle.btr_group.specs.Serves.{commit_result, IsCommitIn}
use Rattle.btr_group.specs.Seats.{first_session, setting_of}
use Rattle.btr_group.proofs.ServeLemmas.{serves_session}
use Rattle.btr_group.proofs.PassLemmas.{may_settle}
use Rattle.btr_group.proofs.carry.carry.Goals as goal

pub commit_led-session-requires-clause-hall : goal.commit_led-session-requires-clause-hall
commit_led-session-requires-clause-hall g c κs outlives =
    serves_session c.args.hall.now c.args.group.now.stream (first_session c.args.group.now) (book (view c.args.pass.now).seen).settled c.args.led.session c.requires.hall c.requires.may.served

pub settle_in-requires-clause-may : goal.settle_in-requires-clause-may
settle_in-requires-clause-may g c =
    may_settle (setting_of c.args.group.now) (view c.args.pass.now) c.args.led c.commit_led-session.result.0 c.commit_led-session.result.1 c.requires.may c.commit_led-session.ensures.commits

pub returns-clause-commit : goal.returns-clause-commit
returns-clause-commit g c =
    subst (λ (o : Outcome). IsCommitIn c.args.hall.now (Commit c.args.group.now.stream [] (sort c.args.led.points.items)) (commit_result o)) (sym c.settle_in.ensures.outcome) c.commit_led-session.ensures.commit
