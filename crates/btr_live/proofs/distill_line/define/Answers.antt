-- The inputs, if they are there.
use Rattle.btr_hall.specs.Trace.{history_of}
use Rattle.btr_hall.specs.Session.{seen_of}
use Rattle.std.proofs.Common.{sym, ◌∙◌, [], None}
use Rattle.btr_text.specs.declared.reply.Reason.TheVariants as reasons
use Rattle.btr_jobs.proofs.TurnLemmas.{look_at}
use Rattle.btr_live.specs.Meaning.{Commits}
use Rattle.btr_live.proofs.StreamLemmas.{stream_of-longer}
use Rattle.btr_live.proofs.OutputLines.{defined, define_no_first, define_one, define_two}
use Rattle.btr_live.proofs.ServeLemmas.{replies_serve, after_look, look_refuses, serves_implied}
use Rattle.btr_live.proofs.distill_line.define.Goals as goal

pub returns-in-None-clause-at : goal.returns-in-None-clause-at
returns-in-None-clause-at g c =
    look_at c.args.hall.now c.args.session.now c.find.new.self c.find.ensures.looks c.find.ensures.session

pub returns-in-None-clause-serves : goal.returns-in-None-clause-serves
returns-in-None-clause-serves g c =
    look_refuses c.args.hall.now c.args.session.now c.find.new.self _ reasons.Stream
    (look_at c.args.hall.now c.args.session.now c.find.new.self c.find.ensures.looks c.find.ensures.session) c.find.ensures.looks
    (λ h of. sym (define_no_first (history_of h (seen_of c.find.new.self)) c.args.id c.args.kernel c.args.lead c.args.grain c.args.first c.args.second (c.in-None.ensures.found h of)))

pub returns-in-None-second-clause-serves : goal.returns-in-None-second-clause-serves
returns-in-None-second-clause-serves g c =
    let stream = c.in-Some.field-0.stream in
    after_look c.args.hall.now c.args.session.now c.find.new.self c.commit.new.session _ c.commit.result c.commit.ensures.at c.find.ensures.looks
    (replies_serve c.args.hall.now c.find.new.self c.commit.new.session _ (Commits (defined [] c.args.id c.args.kernel c.args.lead c.args.grain c.args.first None stream None)) c.commit.result
    (λ h of. sym (define_one (history_of h (seen_of c.find.new.self)) c.args.id c.args.kernel c.args.lead c.args.grain c.args.first c.args.second stream (c.in-Some.ensures.found h of).0 c.in-None-second.is))
    c.commit.ensures.replies)

pub returns-in-Some-second-clause-serves : goal.returns-in-Some-second-clause-serves
returns-in-Some-second-clause-serves g c =
    let stream = c.in-Some.field-0.stream in
    after_look c.args.hall.now c.args.session.now c.find.new.self c.define_of_two.new.session _ c.define_of_two.result c.define_of_two.ensures.at c.find.ensures.looks
    (serves_implied c.args.hall.now c.find.new.self c.define_of_two.new.session _ _ c.define_of_two.result
    (λ h of a m starts asked.
    asked ∙ sym (define_two a c.args.id c.args.kernel c.args.lead c.args.grain c.args.first c.args.second stream c.in-Some-second.second
    (stream_of-longer a (history_of h (seen_of c.find.new.self)) c.args.first stream starts (c.in-Some.ensures.found h of).0) c.in-Some-second.is))
    c.define_of_two.ensures.serves)
