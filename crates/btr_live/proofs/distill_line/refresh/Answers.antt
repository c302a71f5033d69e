-- The stream of the line, if there is one, and whether it is an output.
use Rattle.btr_hall.specs.Trace.{history_of}
use Rattle.btr_hall.specs.Session.{seen_of}
use Rattle.std.proofs.Common.{◌∙◌}
use Rattle.btr_text.specs.declared.reply.Reason.TheVariants as reasons
use Rattle.btr_jobs.proofs.TurnLemmas.{look_at}
use Rattle.btr_live.proofs.FeedLines.{output_is}
use Rattle.btr_live.proofs.StreamLemmas.{stream_of-longer, is_output-longer}
use Rattle.btr_live.proofs.OutputLines.{refresh_no_stream, refresh_of_plain, line_refreshed}
use Rattle.btr_live.proofs.ServeLemmas.{after_look, look_refuses, serves_implied}
use Rattle.btr_live.proofs.distill_line.refresh.Goals as goal

pub returns-in-None-clause-at : goal.returns-in-None-clause-at
returns-in-None-clause-at g c =
    look_at c.args.hall.now c.args.session.now c.find.new.self c.find.ensures.looks c.find.ensures.session

pub returns-in-None-spec-clause-at : goal.returns-in-None-spec-clause-at
returns-in-None-spec-clause-at g c =
    look_at c.args.hall.now c.args.session.now c.find.new.self c.find.ensures.looks c.find.ensures.session

pub returns-in-None-clause-serves : goal.returns-in-None-clause-serves
returns-in-None-clause-serves g c = λ batch w.
    look_refuses c.args.hall.now c.args.session.now c.find.new.self _ reasons.Stream
    (look_at c.args.hall.now c.args.session.now c.find.new.self c.find.ensures.looks c.find.ensures.session) c.find.ensures.looks
    (λ h of. refresh_no_stream batch (history_of h (seen_of c.find.new.self)) w c.args.id (c.in-None.ensures.found h of))

pub returns-in-None-spec-clause-serves : goal.returns-in-None-spec-clause-serves
returns-in-None-spec-clause-serves g c = λ batch w.
    look_refuses c.args.hall.now c.args.session.now c.find.new.self _ reasons.Plain
    (look_at c.args.hall.now c.args.session.now c.find.new.self c.find.ensures.looks c.find.ensures.session) c.find.ensures.looks
    (λ h of.
    let found = c.in-Some.ensures.found h of in
    refresh_of_plain batch (history_of h (seen_of c.find.new.self)) w c.args.id c.in-Some.found.stream found.0 (found.1 ∙ c.in-None-spec.is))

pub returns-in-Some-spec-clause-serves : goal.returns-in-Some-spec-clause-serves
returns-in-Some-spec-clause-serves g c = λ batch w.
    let stream = c.in-Some.found.stream in
    after_look c.args.hall.now c.args.session.now c.find.new.self c.refresh_stream.new.session _ c.refresh_stream.result c.refresh_stream.ensures.at c.find.ensures.looks
    (serves_implied c.args.hall.now c.find.new.self c.refresh_stream.new.session _ _ c.refresh_stream.result
    (λ h of a m starts asked.
    let found = c.in-Some.ensures.found h of in
    line_refreshed batch a w c.args.id stream m (stream_of-longer a (history_of h (seen_of c.find.new.self)) c.args.id stream starts found.0)
    (is_output-longer a (history_of h (seen_of c.find.new.self)) c.args.id stream starts found.0 ∙ output_is (history_of h (seen_of c.find.new.self)) stream _ (found.1 ∙ c.in-Some-spec.is)) asked)
    c.refresh_stream.ensures.serves)
