-- The stream of the line, if there is one, and whether it is an output.
use Rattle.btr_hall.specs.Trace.{history_of}
use Rattle.btr_hall.specs.Session.{seen_of}
use Rattle.std.proofs.Common.{◌∙◌, subst, List}
use Rattle.btr_base.specs.declared.point.Point.{Point}
use Rattle.btr_text.specs.declared.reply.Reason.TheVariants as reasons
use Rattle.btr_text.specs.declared.reply.LineReply.TheVariants.{No}
use Rattle.btr_jobs.proofs.TurnLemmas.{look_at}
use Rattle.btr_live.specs.Feeds.{waiting_of}
use Rattle.btr_live.specs.Serving.{AddsPoints}
use Rattle.btr_live.proofs.FeedLines.{output_is, plain_is, feed_no_stream, feed_output, line_added}
use Rattle.btr_live.proofs.ServeLemmas.{replies_serve, after_look, look_refuses}
use Rattle.btr_live.proofs.feed_line.feed.Goals as goal

pub returns-in-None-clause-at : goal.returns-in-None-clause-at
returns-in-None-clause-at g c =
    look_at c.args.hall.now c.args.session.now c.find.new.self c.find.ensures.looks c.find.ensures.session

pub returns-in-Some-spec-clause-at : goal.returns-in-Some-spec-clause-at
returns-in-Some-spec-clause-at g c =
    look_at c.args.hall.now c.args.session.now c.find.new.self c.find.ensures.looks c.find.ensures.session

pub returns-in-None-clause-line : goal.returns-in-None-clause-line
returns-in-None-clause-line g c =
    look_refuses c.args.hall.now c.args.session.now c.find.new.self _ reasons.Stream
    (look_at c.args.hall.now c.args.session.now c.find.new.self c.find.ensures.looks c.find.ensures.session) c.find.ensures.looks
    (λ h of. feed_no_stream c.args.feeds.now.batch (history_of h (seen_of c.find.new.self)) (waiting_of c.args.feeds.now) c.args.id c.args.added.now (No reasons.Stream) (c.in-None.ensures.found h of))

pub returns-in-Some-spec-clause-line : goal.returns-in-Some-spec-clause-line
returns-in-Some-spec-clause-line g c =
    look_refuses c.args.hall.now c.args.session.now c.find.new.self _ reasons.Output
    (look_at c.args.hall.now c.args.session.now c.find.new.self c.find.ensures.looks c.find.ensures.session) c.find.ensures.looks
    (λ h of.
    let found = c.in-Some.ensures.found h of in
    feed_output c.args.feeds.now.batch (history_of h (seen_of c.find.new.self)) (waiting_of c.args.feeds.now) c.args.id c.in-Some.found.stream c.args.added.now (No reasons.Output) found.0 (output_is (history_of h (seen_of c.find.new.self)) c.in-Some.found.stream _ (found.1 ∙ c.in-Some-spec.is)))

pub returns-in-None-spec-clause-line : goal.returns-in-None-spec-clause-line
returns-in-None-spec-clause-line g c =
    let stream = c.in-Some.found.stream in
    let said = c.feed_stream.ensures.replies in
    after_look c.args.hall.now c.args.session.now c.find.new.self c.feed_stream.new.session _ c.feed_stream.result c.feed_stream.ensures.at c.find.ensures.looks
    (replies_serve c.args.hall.now c.find.new.self c.feed_stream.new.session _ said.0 c.feed_stream.result
    (λ h of.
    let found = c.in-Some.ensures.found h of in
    line_added c.args.feeds.now.batch (history_of h (seen_of c.find.new.self)) (waiting_of c.args.feeds.now) c.args.id stream c.args.added.now said.0 c.feed_stream.result (waiting_of c.feed_stream.new.feeds) found.0 (plain_is (history_of h (seen_of c.find.new.self)) stream (found.1 ∙ c.in-None-spec.is))
    (subst (λ (ps : List Point). AddsPoints c.args.feeds.now.batch (waiting_of c.args.feeds.now) stream ps said.0 c.feed_stream.result (waiting_of c.feed_stream.new.feeds)) c.as_slice.ensures.points said.1))
    said.2)
