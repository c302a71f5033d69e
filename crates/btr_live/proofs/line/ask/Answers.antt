-- The answer is one from the snapshot.
use Rattle.std.proofs.Common.{refl, inr}
use Rattle.btr_text.specs.declared.reply.LineReply.TheVariants.{No}
use Rattle.btr_text.specs.declared.reply.Reason.TheVariants as reasons
use Rattle.btr_jobs.proofs.TurnLemmas.{look_at}
use Rattle.btr_live.specs.Meaning.{Asks}
use Rattle.btr_live.proofs.AskLines.{look_answers}
use Rattle.btr_live.proofs.line.ask.Goals as goal

pub returns-in-Ok-clause-at : goal.returns-in-Ok-clause-at
returns-in-Ok-clause-at g c =
    look_at c.args.hall.now c.args.session.now c.admit.new.self c.admit.ensures.looks c.admit.ensures.session

pub returns-in-Err-clause-at : goal.returns-in-Err-clause-at
returns-in-Err-clause-at g c =
    look_at c.args.hall.now c.args.session.now c.admit.new.self c.admit.ensures.looks c.admit.ensures.session

pub returns-in-Ok-clause-serves : goal.returns-in-Ok-clause-serves
returns-in-Ok-clause-serves g c =
    look_answers c.args.hall.now c.args.session.now c.admit.new.self _ c.answer.result
    (look_at c.args.hall.now c.args.session.now c.admit.new.self c.admit.ensures.looks c.admit.ensures.session) c.admit.ensures.looks
    (λ h of. (Asks c.args.query.now, refl, tt, c.answer.ensures _ (c.in-Ok.ensures.snapshot h of)))

pub returns-in-Err-clause-serves : goal.returns-in-Err-clause-serves
returns-in-Err-clause-serves g c =
    look_answers c.args.hall.now c.args.session.now c.admit.new.self _ (No reasons.Memory)
    (look_at c.args.hall.now c.args.session.now c.admit.new.self c.admit.ensures.looks c.admit.ensures.session) c.admit.ensures.looks
    (λ h of. (Asks c.args.query.now, refl, tt, inr refl))
