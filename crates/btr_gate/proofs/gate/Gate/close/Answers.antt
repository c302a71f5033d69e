use Rattle.std.specs.Slots.{slots_items}
use Rattle.btr_gate.proofs.KeepsEnds.{closed, closed_some}
use Rattle.btr_gate.proofs.gate.Gate.close.Goals as goal

pub unreachable-requires : goal.unreachable-requires
unreachable-requires g c =
    let h = closed g.T.Chronicle (slots_items c.close_with-closed.result.words) (slots_items c.close_with-closed.result.slots) c.args.pass.seat.id c.args.pass.seat.me.0 c.take-slot.result
    c.close_with-closed.ensures.values.2 c.args.pass.live c.requires.idle c.requires.home c.requires.covers c.take-slot.ensures.value in
    c.in_default.not-Some h.0 h.1

pub unreachable-requires-in_default-added : goal.unreachable-requires-in_default-added
unreachable-requires-in_default-added g c =
    let h = closed g.T.Chronicle (slots_items c.close_with-closed.result.words) (slots_items c.close_with-closed.result.slots) c.args.pass.seat.id c.args.pass.seat.me.0 c.take-slot.result
    c.close_with-closed.ensures.values.2 c.args.pass.live c.requires.idle c.requires.home c.requires.covers c.take-slot.ensures.value in
    c.in_default-added.not-None (closed_some g.T.Chronicle c.args.pass.seat.me.0 c.take-slot.result c.in-Some.field-0 c.in-Some.is h).0

pub returns : goal.returns
returns g c =
    let h = closed g.T.Chronicle (slots_items c.close_with-closed.result.words) (slots_items c.close_with-closed.result.slots) c.args.pass.seat.id c.args.pass.seat.me.0 c.take-slot.result
    c.close_with-closed.ensures.values.2 c.args.pass.live c.requires.idle c.requires.home c.requires.covers c.take-slot.ensures.value in
    (closed_some g.T.Chronicle c.args.pass.seat.me.0 c.take-slot.result c.in-Some.field-0 c.in-Some.is h).1
