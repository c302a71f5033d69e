use Rattle.std.proofs.Common.{refl, arith}
use Rattle.btr_node.specs.Reading.{slot_in, items_in}
use Rattle.btr_node.proofs.Places.{one-read, exact-more}
use Rattle.btr_node.proofs.reading.read_slots.Goals as goal

pub loop-i-init : goal.loop-i-init
unfolding items_in
loop-i-init c = ((refl, c.told-slots), λ k lt. absurd (omega arith))

pub loop-i-preserved : goal.loop-i-preserved
loop-i-preserved c =
    let bytes = c.args.bytes.now in
    let i = c.loop-i.i in (
      one-read slot_in 56 64 bytes i c.loop-i.slots c.in-Some.slot c.loop-i-test.true c.in-Some.ensures.some c.loop-i.invariant.0,
      exact-more i bytes c.loop-i.invariant.1 c.in-Some.ensures.exact,
    )
