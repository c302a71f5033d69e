use Rattle.std.proofs.Common.{◌≡◌, ◌*◌, ◌-◌, ◌+◌, arith}
use Rattle.std.proofs.lemmas.Int.{ints}
use Rattle.btr_base.specs.Span.{width}
use Rattle.btr_base.proofs.SpanLemmas.{width-positive, width-slots, times-up_to}
use Rattle.btr_base.proofs.span.Span.last_slot.Goals as goal

pub returns-then-to-end-clause-last : goal.returns-then-to-end-clause-last
returns-then-to-end-clause-last c =
    let some = width-positive (c.args.self.now.height - 1) in
    let whole = width-slots c.args.self.now.height c.requires.height in
    let e : 63 * width (c.args.self.now.height - 1) + width (c.args.self.now.height - 1) ≡ 64 * width (c.args.self.now.height - 1) = omega arith in
    let high = c.if-to-end.true in
    let end = c.end.ensures.end in
    omega (arith, ints)

pub returns-clause-behind : goal.returns-clause-behind
returns-clause-behind c i behind place =
    let next = times-up_to c.slot_at.result i (width (c.args.self.now.height - 1)) behind in
    let ends = c.slot_at.ensures.ends in
    omega (arith, ints)
