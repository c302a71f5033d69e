-- What the feed answers, and what is then asked for.
use Rattle.std.proofs.Common.{ap, sym, ◌∙◌, subst, Ok, List, ◌++◌}
use Rattle.btr_base.specs.declared.point.Point.{Point}
use Rattle.btr_text.specs.declared.reply.LineReply.TheVariants.{No}
use Rattle.btr_text.specs.declared.reply.Reason.{Reason}
use Rattle.btr_live.specs.Feeds.{Waiting, waiting_of}
use Rattle.btr_live.specs.Meaning.{Holds, Refuses, insert_points, reason_of_fault}
use Rattle.btr_live.specs.Serving.{RepliesIn}
use Rattle.btr_live.proofs.WaitingLemmas.{at_stream}
use Rattle.btr_live.proofs.FeedLines.{added_held, added_due, added_fault, due_waits}
use Rattle.btr_live.proofs.ServeLemmas.{holds, refuses}
use Rattle.btr_live.proofs.feed_line.feed_stream.Goals as goal

pub returns-in-Ok-Buffered-clause-replies : goal.returns-in-Ok-Buffered-clause-replies
returns-in-Ok-Buffered-clause-replies g c =
    let arm = c.in-Ok-Buffered in (
      Holds arm.count,
      added_held c.args.feeds.now.batch (waiting_of c.args.feeds.now) c.args.stream c.args.points.now c.insert.result c.insert.ensures.fault arm.count _ (waiting_of c.insert.new.self)
          (arm.is ∙ ap Ok arm.field-0-is) (sym arm.field-0-is ∙ arm.ensures.held) arm.ensures.waiting.waiting,
      holds c.args.hall.now c.args.session.now arm.count,
    )

pub returns-in-Ok-Due-clause-replies : goal.returns-in-Ok-Due-clause-replies
returns-in-Ok-Due-clause-replies g c =
    let arm = c.in-Ok-Due in
    let w : Waiting = waiting_of c.args.feeds.now in
    let all : List Point = w c.args.stream ++ c.args.points.now in
    let mid : Waiting = waiting_of c.insert.new.self in
    let after : Waiting = waiting_of c.commit_feed.new.feeds in
    let reply = c.commit_feed.result in
    let has = ap (λ (v : Waiting). v c.args.stream) arm.ensures.waiting.waiting ∙ at_stream c.args.stream all w in (
      insert_points c.args.stream all,
      added_due c.args.feeds.now.batch w c.args.stream c.args.points.now c.insert.result c.insert.ensures.fault arm.field-0-0 reply after
          (arm.is ∙ ap Ok arm.field-0-is) (sym arm.field-0-is ∙ arm.ensures.held)
          (due_waits w mid after c.args.stream all reply arm.ensures.waiting.waiting c.commit_feed.ensures.waiting.waiting),
      subst (λ (ps : List Point). RepliesIn c.args.hall.now c.args.session.now c.commit_feed.new.session (insert_points c.args.stream ps) reply) has c.commit_feed.ensures.replies,
    )

pub returns-in-Err-clause-replies : goal.returns-in-Err-clause-replies
returns-in-Err-clause-replies g c = (
  Refuses (reason_of_fault c.in-Err.fault),
  added_fault c.args.feeds.now.batch (waiting_of c.args.feeds.now) c.args.stream c.args.points.now c.insert.result c.insert.ensures.fault c.in-Err.fault _ (waiting_of c.insert.new.self)
      c.in-Err.is c.in-Err.ensures.err.waiting,
  subst (λ (r : Reason). RepliesIn c.args.hall.now c.args.session.now c.args.session.now (Refuses (reason_of_fault c.in-Err.fault)) (No r)) (sym c.reason_of.ensures)
      (refuses c.args.hall.now c.args.session.now (reason_of_fault c.in-Err.fault)),
)
