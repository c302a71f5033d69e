-- The stream of the line, if there is one.
use Rattle.btr_hall.specs.Trace.{history_of}
use Rattle.btr_hall.specs.Session.{seen_of}
use Rattle.btr_text.specs.declared.reply.Reason.TheVariants as reasons
use Rattle.btr_text.specs.declared.reply.LineReply.TheVariants.{Held, No}
use Rattle.btr_jobs.proofs.TurnLemmas.{look_at}
use Rattle.btr_live.specs.Feeds.{waiting_of}
use Rattle.btr_live.specs.Meaning.{Holds}
use Rattle.btr_live.proofs.FeedLines.{discard_no_stream, discarded}
use Rattle.btr_live.proofs.ServeLemmas.{holds, replies_serve, after_look, look_refuses}
use Rattle.btr_live.proofs.feed_line.discard.Goals as goal

pub returns-in-None-clause-at : goal.returns-in-None-clause-at
returns-in-None-clause-at g c =
    look_at c.args.hall.now c.args.session.now c.find.new.self c.find.ensures.looks c.find.ensures.session

pub returns-in-Some-clause-at : goal.returns-in-Some-clause-at
returns-in-Some-clause-at g c =
    look_at c.args.hall.now c.args.session.now c.find.new.self c.find.ensures.looks c.find.ensures.session

pub returns-in-None-clause-line : goal.returns-in-None-clause-line
returns-in-None-clause-line g c =
    look_refuses c.args.hall.now c.args.session.now c.find.new.self _ reasons.Stream
    (look_at c.args.hall.now c.args.session.now c.find.new.self c.find.ensures.looks c.find.ensures.session) c.find.ensures.looks
    (λ h of. discard_no_stream c.args.feeds.now.batch (history_of h (seen_of c.find.new.self)) (waiting_of c.args.feeds.now) c.args.id (No reasons.Stream) (c.in-None.ensures.found h of))

pub returns-in-Some-clause-line : goal.returns-in-Some-clause-line
returns-in-Some-clause-line g c =
    after_look c.args.hall.now c.args.session.now c.find.new.self c.find.new.self _ _
    (look_at c.args.hall.now c.args.session.now c.find.new.self c.find.ensures.looks c.find.ensures.session) c.find.ensures.looks
    (replies_serve c.args.hall.now c.find.new.self c.find.new.self _ (Holds 0) _
    (λ h of. discarded c.args.feeds.now.batch (history_of h (seen_of c.find.new.self)) (waiting_of c.args.feeds.now) c.args.id c.in-Some.field-0.stream (Held 0) (waiting_of c.discard.new.self) (c.in-Some.ensures.found h of).0 c.discard.ensures.waiting)
    (holds c.args.hall.now c.find.new.self 0))
