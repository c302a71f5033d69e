use Rattle.std.proofs.Common.{◌≡◌, ◌∷◌, Some, ap, ◌∙◌, arith, to_z-of_z, take}
use Rattle.btr_base.specs.Decimal.{signed_of}
use Rattle.btr_rows.specs.Reading.{field_size}
use Rattle.btr_rows.proofs.DigitFieldLemmas.{signed-minus, signed-plain}
use Rattle.btr_rows.proofs.plain.short_number.Goals as goal

pub returns-in_ok-number-in-Some-clause-value : goal.returns-in_ok-number-in-Some-clause-value
returns-in_ok-number-in-Some-clause-value c =
    let n = c.in_ok-number-in-Some.ensures in
    let text-is = c.in-Some.ensures.cases.0 ∙ ap (λ b. b ∷ c.in-Some.digits.now) c.if-first-eq-MINUS.true in
    let said : Some c.negative.result ≡ signed_of (take (field_size c.args.text.now) c.args.text.now) =
    ap Some c.negative.ensures ∙ signed-minus c.args.text.now c.in-Some.digits.now c.in_ok-number-in-Some.number text-is (n.value 9223372036854775808 (omega arith)) in
    grind (arith, to_z-of_z)

pub returns-in_ok-number-in_default-clause-value : goal.returns-in_ok-number-in_default-clause-value
returns-in_ok-number-in_default-clause-value c =
    let n = c.in_ok-number-in_default.ensures in
    let said : Some c.positive.result ≡ signed_of (take (field_size c.args.text.now) c.args.text.now) =
    ap Some c.positive.ensures ∙ signed-plain c.args.text.now c.in_ok-number-in_default.number n.digit (n.value 9223372036854775807 (omega arith)) in
    grind (arith, to_z-of_z)
