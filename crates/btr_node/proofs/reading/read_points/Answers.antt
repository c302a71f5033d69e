use Rattle.std.proofs.Common.{refl, arith}
use Rattle.btr_node.specs.Reading.{point_in, items_in}
use Rattle.btr_node.proofs.Places.{one-read, all-read}
use Rattle.btr_node.proofs.reading.read_points.Goals as goal

pub loop-i-init : goal.loop-i-init
unfolding items_in
loop-i-init c = (refl, c.told-points)

pub loop-i-preserved : goal.loop-i-preserved
loop-i-preserved c =
    one-read point_in 16 252 c.args.bytes.now c.loop-i.i c.loop-i.points c.point_at.result c.loop-i-test.true c.point_at.ensures c.loop-i.invariant

pub returns : goal.returns
returns c = all-read point_in 16 252 c.args.bytes.now c.loop-i.i c.loop-i.points (omega (arith, c.loop-i-test.false, c.loop-i.auto.i-end)) c.loop-i.invariant
