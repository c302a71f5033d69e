use Rattle.std.proofs.Common.{◌≡◌, ◌<◌, sym, ap, ◌∙◌, arith, take, drop, length, length-take}
use Rattle.btr_rows.specs.Reading.{field_size}
use Rattle.btr_rows.proofs.DigitFieldLemmas.{digits-at, digits-more, value-more, number-whole}
use Rattle.btr_rows.proofs.plain.short_digits.Goals as goal

pub returns-then-not-is_ascii_digit-clause-value : goal.returns-then-not-is_ascii_digit-clause-value
returns-then-not-is_ascii_digit-clause-value c = λ most within.
    let inv = c.loop-index.invariant in
    let size : field_size c.args.text.now ≡ c.loop-index.index = digits-at c.args.text.now c.loop-index.index c.loop-index-test.true inv.0 (sym c.if-not-ends_field.ensures) in
    let long : 0 < length (take c.loop-index.index c.args.text.now) = rw (length-take c.loop-index.index c.args.text.now) (omega (arith, c.if-index-eq0.false, c.loop-index-test.true)) in
    rw size (number-whole most (take c.loop-index.index c.args.text.now) c.loop-index.number long inv.0 inv.1 (omega (arith, inv.2, within)))

pub returns-then-not-is_ascii_digit-clause-rest : goal.returns-then-not-is_ascii_digit-clause-rest
returns-then-not-is_ascii_digit-clause-rest c =
    c.split_at.ensures.back ∙ ap (λ n. drop n c.args.text.now) (sym (digits-at c.args.text.now c.loop-index.index c.loop-index-test.true c.loop-index.invariant.0 (sym c.if-not-ends_field.ensures)))

pub loop-index-preserved : goal.loop-index-preserved
loop-index-preserved c =
    let inv = c.loop-index.invariant in
    let digit = sym c.if-not-is_ascii_digit.ensures.value in
    let range = c.if-not-is_ascii_digit.ensures.cases in (
      digits-more c.args.text.now c.loop-index.index c.loop-index-test.true inv.0 digit,
      value-more c.args.text.now c.loop-index.index c.loop-index.number c.loop-index-test.true inv.1 digit,
      omega (arith, range.1, c.if-number-gt-MOST_BEFORE_DIGIT.false),
    )
