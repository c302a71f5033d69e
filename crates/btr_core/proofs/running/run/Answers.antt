-- One more event.
use Rattle.std.proofs.Common.{drop, ◌+◌}
use Rattle.btr_hist.specs.Machine as model
use Rattle.btr_core.specs.Events.{event_of, events_of}
use Rattle.btr_core.proofs.RunLemmas.{drop-step, reply-more}
use Rattle.btr_core.proofs.running.run.Goals as goal

pub loop-event-preserved : goal.loop-event-preserved
loop-event-preserved c =
    let m = c.loop-event.invariant.0 in
    let of = c.loop-event.invariant.1 in
    let i = c.loop-event.event-index in
    let es = c.args.events.now in
    let e = c.event-item.result in (
      model.next m e.actor (event_of e.what),
      c.in_ok-reply.ensures.next m of,
      reply-more m c.loop-event.replies.items c.push.new.self.items c.in_ok-reply.reply e (drop i es) (drop (i + 1) es) (model.replies model.start (events_of es)) (drop-step es i e c.loop-event-test.true c.event-item.is)
          c.in_ok-push.ensures.items (c.in_ok-reply.ensures.replied m of) c.loop-event.invariant.2,
    )
