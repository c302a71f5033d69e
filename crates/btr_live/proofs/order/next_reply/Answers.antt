-- The part at the place of the lane has given its first reply.
use Rattle.std.specs.Prelude.{◌<◌, length}
use Rattle.std.proofs.Common.{arith}
use Rattle.btr_live.proofs.PartLemmas.{feeds-set}
use Rattle.btr_live.proofs.order.next_reply.Goals as goal

pub returns-then-has_reply-clause-feeds : goal.returns-then-has_reply-clause-feeds
returns-then-has_reply-clause-feeds g c =
    let there : c.from-place.result < length c.args.parts.now = omega (arith, c.if-place-parts.true) in
    feeds-set c.args.parts.now c.from-place.result c.index-parts-place-then-has_reply.result c.next_reply.new.self there c.next_reply.ensures.feeding
