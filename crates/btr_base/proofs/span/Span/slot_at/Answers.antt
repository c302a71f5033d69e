use Rattle.std.proofs.Common.{◌≡◌, ◌*◌, ◌/◌, ap, ◌-◌, ◌∙◌, arith}
use Rattle.std.proofs.lemmas.Int.{ints}
use Rattle.btr_base.specs.Span.{width}
use Rattle.btr_base.proofs.SpanLemmas.{IsSlotAround, slot-around, width-positive, width-slots}
use Rattle.btr_base.proofs.span.Span.slot_at.Goals as goal

around : (c : goal.After-width) → IsSlotAround c.abs_diff-offset.result c.width.result (c.abs_diff-offset.result / c.width.result)
around c =
    let height = ap (λ p. p.height) c.self.view_is in
    let start = ap (λ p. p.start) c.self.view_is in
    let same = c.width.ensures in
    let whole = width-slots c.args.self.now.height c.requires.height in
    let positive = width-positive (c.self.inside.height - 1) in
    let low = c.requires.begins.le in
    let high = c.requires.ends.lt in
    let e : width (c.self.inside.height - 1) ≡ width (c.args.self.now.height - 1) = ap (λ k. width (k - 1)) height in
    slot-around c.abs_diff-offset.result c.width.result (omega arith) (omega (arith, ints))

pub nonzero_div-result : goal.nonzero_div-result
nonzero_div-result c = omega (arith, width-positive (c.self.inside.height - 1))

pub overflow_cast-result : goal.overflow_cast-result
overflow_cast-result c = let place = (around c).place in omega arith

pub returns-clause-place : goal.returns-clause-place
returns-clause-place c = (around c).place

product : (c : goal.After-width) → c.abs_diff-offset.result / c.width.result * c.width.result ≡ c.abs_diff-offset.result / c.width.result * width (c.args.self.now.height - 1)
product c =
    ap (λ w. c.abs_diff-offset.result / c.width.result * w) c.width.ensures ∙ ap (λ k. c.abs_diff-offset.result / c.width.result * width (k - 1)) (ap (λ p. p.height) c.self.view_is)

pub returns-clause-begins : goal.returns-clause-begins
returns-clause-begins c =
    let start = ap (λ p. p.start) c.self.view_is in
    let begins = (around c).begins in
    omega (arith, ints, product c)

pub returns-clause-ends : goal.returns-clause-ends
returns-clause-ends c =
    let start = ap (λ p. p.start) c.self.view_is in
    let ends = (around c).ends in
    let same : c.width.result ≡ width (c.args.self.now.height - 1) = c.width.ensures ∙ ap (λ k. width (k - 1)) (ap (λ p. p.height) c.self.view_is) in
    omega (arith, ints, product c)
