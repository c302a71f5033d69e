-- The answer is one from the snapshot; without one the stream is looked up.
use Rattle.btr_hall.specs.Trace.{history_of}
use Rattle.btr_hall.specs.Session.{seen_of}
use Rattle.std.proofs.Common.{refl, inr, ap, sym, ℕ, Option}
use Rattle.btr_hist.specs.Query.{of_stream}
use Rattle.btr_hist.specs.History.{stream_of}
use Rattle.btr_text.specs.declared.reply.LineReply.TheVariants.{No}
use Rattle.btr_text.specs.declared.reply.Reason.TheVariants as reasons
use Rattle.btr_jobs.proofs.TurnLemmas.{look_at}
use Rattle.btr_live.specs.Meaning.{Asks, on_stream}
use Rattle.btr_live.proofs.AskLines.{look_answers, asks_question}
use Rattle.btr_live.proofs.ServeLemmas.{after_look, look_refuses}
use Rattle.btr_live.proofs.line.ask_stream.Goals as goal

pub returns-in-Ok-clause-at : goal.returns-in-Ok-clause-at
returns-in-Ok-clause-at g c =
    look_at c.args.hall.now c.args.session.now c.admit.new.self c.admit.ensures.looks c.admit.ensures.session

pub returns-in-None-clause-at : goal.returns-in-None-clause-at
returns-in-None-clause-at g c =
    look_at c.args.hall.now c.admit.new.self c.find.new.self c.find.ensures.looks c.find.ensures.session

pub returns-in-Some-clause-at : goal.returns-in-Some-clause-at
returns-in-Some-clause-at g c =
    look_at c.args.hall.now c.admit.new.self c.find.new.self c.find.ensures.looks c.find.ensures.session

pub returns-in-Ok-clause-serves : goal.returns-in-Ok-clause-serves
returns-in-Ok-clause-serves g c =
    look_answers c.args.hall.now c.args.session.now c.admit.new.self _ c.answer_stream.result
    (look_at c.args.hall.now c.args.session.now c.admit.new.self c.admit.ensures.looks c.admit.ensures.session) c.admit.ensures.looks
    (λ h of.
    let a = history_of h (seen_of c.admit.new.self) in
    (on_stream (stream_of a c.args.id) (λ s. Asks (of_stream c.args.query s)), refl, asks_question (stream_of a c.args.id) c.args.query, c.answer_stream.ensures a (c.in-Ok.ensures.snapshot h of)))

pub returns-in-None-clause-serves : goal.returns-in-None-clause-serves
returns-in-None-clause-serves g c =
    let at = look_at c.args.hall.now c.admit.new.self c.find.new.self c.find.ensures.looks c.find.ensures.session in
    after_look c.args.hall.now c.args.session.now c.admit.new.self c.find.new.self _ (No reasons.Stream) at c.admit.ensures.looks
    (look_refuses c.args.hall.now c.admit.new.self c.find.new.self _ reasons.Stream at c.find.ensures.looks
    (λ h of. sym (ap (λ (o : Option ℕ). on_stream o (λ s. Asks (of_stream c.args.query s))) (c.in-None.ensures.found h of))))

pub returns-in-Some-clause-serves : goal.returns-in-Some-clause-serves
returns-in-Some-clause-serves g c =
    let at = look_at c.args.hall.now c.admit.new.self c.find.new.self c.find.ensures.looks c.find.ensures.session in
    after_look c.args.hall.now c.args.session.now c.admit.new.self c.find.new.self _ (No reasons.Memory) at c.admit.ensures.looks
    (look_answers c.args.hall.now c.admit.new.self c.find.new.self _ (No reasons.Memory) at c.find.ensures.looks
    (λ h of. (Asks (of_stream c.args.query c.in-Some.field-0.stream), sym (ap (λ (o : Option ℕ). on_stream o (λ s. Asks (of_stream c.args.query s))) (c.in-Some.ensures.found h of).0), tt, inr refl)))
