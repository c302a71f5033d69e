use Rattle.std.proofs.Common.{◌≡◌, ◌*◌, ◌/◌, ◌^◌, ◌<◌, ap, arith}
use Rattle.std.proofs.lemmas.Int.{ints}
use Rattle.std.proofs.Math.Nat.{lt-div-mul-add}
use Rattle.btr_base.specs.Span.{width}
use Rattle.btr_base.proofs.SpanLemmas.{width-positive, width-fits}
use Rattle.btr_base.proofs.span.Span.of.Goals as goal

pub nonzero_div-result : goal.nonzero_div-result
nonzero_div-result c = omega (arith, width-positive c.args.height)

pub invariant_of-result : goal.invariant_of-result
invariant_of-result c =
    let o = c.abs_diff-offset.result in
    let w = c.width-width.result in
    let inside : o < 2 ^ 62 = omega (arith, ints) in
    let e : (o / w) * w ≡ (o / width c.args.height) * width c.args.height = ap (λ v. (o / v) * v) c.width-width.ensures in
    let fits = width-fits c.args.height o c.requires.height inside in (
      o / width c.args.height,
      record {
        height = c.requires.height;
        start = omega (arith, ints);
        ends = omega (arith, ints);
      },
    )

pub returns-clause-ends : goal.returns-clause-ends
returns-clause-ends c =
    let o = c.abs_diff-offset.result in
    let w = c.width-width.result in
    let positive = width-positive c.args.height in
    let inside : o < 2 ^ 62 = omega (arith, ints) in
    let e : (o / w) * w ≡ (o / width c.args.height) * width c.args.height = ap (λ v. (o / v) * v) c.width-width.ensures in
    let fits = width-fits c.args.height o c.requires.height inside in
    let next = lt-div-mul-add {a = o} positive in
    omega (arith, ints)
