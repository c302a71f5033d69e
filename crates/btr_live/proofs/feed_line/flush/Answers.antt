-- The stream of the line, if there is one, whether it is an output, and whether points wait for it.
use Rattle.btr_hall.specs.Trace.{history_of}
use Rattle.btr_hall.specs.Session.{seen_of}
use Rattle.std.proofs.Common.{sym, ◌∙◌}
use Rattle.btr_text.specs.declared.reply.Reason.TheVariants as reasons
use Rattle.btr_text.specs.declared.reply.LineReply.TheVariants.{No}
use Rattle.btr_jobs.proofs.TurnLemmas.{look_at}
use Rattle.btr_live.specs.Feeds.{waiting_of}
use Rattle.btr_live.specs.Meaning.{insert_points}
use Rattle.btr_live.proofs.FeedLines.{output_is, plain_is, flush_no_stream, flush_output, flush_none, flush_some}
use Rattle.btr_live.proofs.ServeLemmas.{replies_serve, after_look, look_refuses}
use Rattle.btr_live.proofs.feed_line.flush.Goals as goal

pub returns-in-None-clause-at : goal.returns-in-None-clause-at
returns-in-None-clause-at g c =
    look_at c.args.hall.now c.args.session.now c.find.new.self c.find.ensures.looks c.find.ensures.session

pub returns-in-Some-spec-clause-at : goal.returns-in-Some-spec-clause-at
returns-in-Some-spec-clause-at g c =
    look_at c.args.hall.now c.args.session.now c.find.new.self c.find.ensures.looks c.find.ensures.session

pub returns-then-is_empty-clause-at : goal.returns-then-is_empty-clause-at
returns-then-is_empty-clause-at g c =
    look_at c.args.hall.now c.args.session.now c.find.new.self c.find.ensures.looks c.find.ensures.session

pub returns-in-None-clause-line : goal.returns-in-None-clause-line
returns-in-None-clause-line g c =
    look_refuses c.args.hall.now c.args.session.now c.find.new.self _ reasons.Stream
    (look_at c.args.hall.now c.args.session.now c.find.new.self c.find.ensures.looks c.find.ensures.session) c.find.ensures.looks
    (λ h of. flush_no_stream c.args.feeds.now.batch (history_of h (seen_of c.find.new.self)) (waiting_of c.args.feeds.now) c.args.id (No reasons.Stream) (c.in-None.ensures.found h of))

pub returns-in-Some-spec-clause-line : goal.returns-in-Some-spec-clause-line
returns-in-Some-spec-clause-line g c =
    look_refuses c.args.hall.now c.args.session.now c.find.new.self _ reasons.Output
    (look_at c.args.hall.now c.args.session.now c.find.new.self c.find.ensures.looks c.find.ensures.session) c.find.ensures.looks
    (λ h of.
    let found = c.in-Some.ensures.found h of in
    flush_output c.args.feeds.now.batch (history_of h (seen_of c.find.new.self)) (waiting_of c.args.feeds.now) c.args.id c.in-Some.found.stream (No reasons.Output) found.0 (output_is (history_of h (seen_of c.find.new.self)) c.in-Some.found.stream _ (found.1 ∙ c.in-Some-spec.is)))

pub returns-then-is_empty-clause-line : goal.returns-then-is_empty-clause-line
returns-then-is_empty-clause-line g c =
    look_refuses c.args.hall.now c.args.session.now c.find.new.self _ reasons.Empty
    (look_at c.args.hall.now c.args.session.now c.find.new.self c.find.ensures.looks c.find.ensures.session) c.find.ensures.looks
    (λ h of.
    let found = c.in-Some.ensures.found h of in
    flush_none c.args.feeds.now.batch (history_of h (seen_of c.find.new.self)) (waiting_of c.args.feeds.now) c.args.id c.in-Some.found.stream (No reasons.Empty) found.0 (plain_is (history_of h (seen_of c.find.new.self)) c.in-Some.found.stream (found.1 ∙ c.in-None-spec.is)) (sym c.is_empty.ensures.empty ∙ c.if-is_empty.true))

pub returns-else-is_empty-clause-line : goal.returns-else-is_empty-clause-line
returns-else-is_empty-clause-line g c =
    let stream = c.in-Some.found.stream in
    let w = waiting_of c.args.feeds.now in
    after_look c.args.hall.now c.args.session.now c.find.new.self c.commit_feed.new.session _ c.commit_feed.result c.commit_feed.ensures.at c.find.ensures.looks
    (replies_serve c.args.hall.now c.find.new.self c.commit_feed.new.session _ (insert_points stream (w stream)) c.commit_feed.result
    (λ h of.
    let found = c.in-Some.ensures.found h of in
    flush_some c.args.feeds.now.batch (history_of h (seen_of c.find.new.self)) w c.args.id stream c.commit_feed.result (waiting_of c.commit_feed.new.feeds) found.0 (plain_is (history_of h (seen_of c.find.new.self)) stream (found.1 ∙ c.in-None-spec.is))
    (sym c.is_empty.ensures.empty ∙ c.if-is_empty.false) c.commit_feed.ensures.waiting.waiting)
    c.commit_feed.ensures.replies)
