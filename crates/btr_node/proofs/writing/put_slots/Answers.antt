use Rattle.std.proofs.Common.{◌<◌, length, take, sym, arith}
use Rattle.std.proofs.lemmas.List.{append-nil}
use Rattle.btr_node.specs.Page.{slot_bytes}
use Rattle.btr_node.proofs.Pieces.{one-more, all-items}
use Rattle.btr_node.proofs.writing.put_slots.Goals as goal

pub loop-i-init : goal.loop-i-init
loop-i-init c = sym (append-nil (take 64 c.args.to.now))

pub loop-i-preserved : goal.loop-i-preserved
loop-i-preserved c =
    let inside : c.loop-i.i < length c.args.slots.now = let len = c.type_inv.slots in omega (arith, c.loop-i-test.true) in
    one-more slot_bytes 56 c.args.slots.now c.loop-i.i c.index-slots-i.result (take 64 c.args.to.now) c.loop-i.to c.put_slot.new.to inside c.loop-i.invariant c.put_slot.ensures

pub returns : goal.returns
returns c =
    all-items slot_bytes 56 64 c.loop-i.i c.args.slots.now (take 64 c.args.to.now) c.loop-i.to c.type_inv.slots (omega (arith, c.loop-i-test.false, c.loop-i.auto.i-end)) c.loop-i.invariant
