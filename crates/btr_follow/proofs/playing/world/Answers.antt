-- One more event.
use Rattle.std.proofs.Common.{◌++◌, ◌+◌, refl, ap, List, drop}
use Rattle.btr_follow.specs.declared.event.Lengths.{Lengths}
use Rattle.btr_follow.specs.World.{first_world, next_world, lengths_from}
use Rattle.btr_follow.proofs.PlayLemmas.{drop-step, lengths-more}
use Rattle.btr_follow.proofs.playing.world.Goals as goal

pub loop-event-init : goal.loop-event-init
loop-event-init c = (
  first_world,
  record { leader = c.in_ok-empty.ensures; shipped = c.new.ensures.items; follower = refl; acked = refl },
  ap (λ (ls : List Lengths). ls ++ lengths_from first_world c.args.events.now) c.in_ok-lengths.ensures.items,
)

pub loop-event-preserved : goal.loop-event-preserved
loop-event-preserved c =
    let w = c.loop-event.invariant.0 in
    let of = c.loop-event.invariant.1 in
    let i = c.loop-event.event-index in
    let es = c.args.events.now in
    let e = c.event-item.result in
    let next = c.in_ok-next.ensures w of in (
      next_world w e,
      next,
      lengths-more w c.loop-event.lengths.items c.push.new.self.items c.lengths.result e (drop i es) (drop (i + 1) es) (lengths_from first_world es) (drop-step es i e c.loop-event-test.true c.event-item.is)
          c.in_ok-push.ensures.items (c.lengths.ensures (next_world w e) next) c.loop-event.invariant.2,
    )
