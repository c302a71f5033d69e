use Rattle.std.proofs.Common.{◌<◌, length, take, pos, refl, sym, arith}
use Rattle.std.proofs.lemmas.List.{append-nil}
use Rattle.btr_node.specs.Page.{point_bytes}
use Rattle.btr_node.proofs.Pieces.{one-more, all-items}
use Rattle.btr_node.proofs.writing.put_points.Goals as goal

pub loop-i-init : goal.loop-i-init
loop-i-init c = sym (append-nil (take 64 c.args.to.now))

pub loop-i-preserved : goal.loop-i-preserved
loop-i-preserved c =
    let inside : c.loop-i.i < length c.args.points.now = omega (arith, c.loop-i-test.true) in
    one-more point_bytes 16 c.args.points.now c.loop-i.i (record { time = pos 0; value = pos 0 }) (take 64 c.args.to.now) c.loop-i.to c.put_point.new.to inside c.loop-i.invariant c.put_point.ensures

pub returns : goal.returns
returns c =
    all-items point_bytes 16 (length c.args.points.now) c.loop-i.i c.args.points.now (take 64 c.args.to.now) c.loop-i.to refl (omega (arith, c.loop-i-test.false, c.loop-i.auto.i-end)) c.loop-i.invariant
