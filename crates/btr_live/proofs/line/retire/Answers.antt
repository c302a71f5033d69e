-- The stream of the line, if there is one.
use Rattle.std.proofs.Common.{sym, ap, ℕ, Option}
use Rattle.btr_hist.specs.declared.entry.Entry.TheVariants.{Retire}
use Rattle.btr_text.specs.declared.reply.Reason.TheVariants as reasons
use Rattle.btr_jobs.proofs.TurnLemmas.{look_at}
use Rattle.btr_live.specs.Meaning.{Commits, on_stream}
use Rattle.btr_live.proofs.ServeLemmas.{replies_serve, after_look, look_refuses}
use Rattle.btr_live.proofs.line.retire.Goals as goal

pub returns-in-None-clause-at : goal.returns-in-None-clause-at
returns-in-None-clause-at g c =
    look_at c.args.hall.now c.args.session.now c.find.new.self c.find.ensures.looks c.find.ensures.session

pub returns-in-None-clause-serves : goal.returns-in-None-clause-serves
returns-in-None-clause-serves g c =
    look_refuses c.args.hall.now c.args.session.now c.find.new.self _ reasons.Stream
    (look_at c.args.hall.now c.args.session.now c.find.new.self c.find.ensures.looks c.find.ensures.session) c.find.ensures.looks
    (λ h of. sym (ap (λ (o : Option ℕ). on_stream o (λ s. Commits (Retire s c.args.first))) (c.in-None.ensures.found h of)))

pub returns-in-Some-clause-serves : goal.returns-in-Some-clause-serves
returns-in-Some-clause-serves g c =
    let stream = c.in-Some.field-0.stream in
    after_look c.args.hall.now c.args.session.now c.find.new.self c.commit.new.session _ c.commit.result c.commit.ensures.at c.find.ensures.looks
    (replies_serve c.args.hall.now c.find.new.self c.commit.new.session _ (Commits (Retire stream c.args.first)) c.commit.result
    (λ h of. sym (ap (λ (o : Option ℕ). on_stream o (λ s. Commits (Retire s c.args.first))) (c.in-Some.ensures.found h of).0))
    c.commit.ensures.replies)
