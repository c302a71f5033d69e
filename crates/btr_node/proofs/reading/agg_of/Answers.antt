use Rattle.std.proofs.Common.{◌≡◌, ℤ, pos, ◌*ℤ◌, ◌≤ℤ◌, int_le, true, ap, ◌∙◌, arith, rules, FitsSigned}
use Rattle.std.specs.Int.{w64, w128, cast_signed}
use Rattle.std.proofs.lemmas.Int.{ints, to_z-of_z}
use Rattle.btr_node.proofs.Places.{agg-exact}
use Rattle.btr_node.proofs.reading.agg_of.Goals as goal

up_to : (a b p q : ℤ) → int_le p q ≡ true → p ≡ a → q ≡ b → a ≤ℤ b
up_to a b p q h e f = grind (arith, ints)

pub returns-then-sum-times-clause-exact : goal.returns-then-sum-times-clause-exact
returns-then-sum-times-clause-exact c =
    let n = c.args.count in
    let sum_fits : FitsSigned w128 c.cast_signed-sum.result = search rules in
    let least_fits : FitsSigned w64 c.cast_signed-least.result = search rules in
    let greatest_fits : FitsSigned w64 c.cast_signed-greatest.result = search rules in
    let low_fits : FitsSigned w128 c.times.result = search rules in
    let high_fits : FitsSigned w128 c.times-then-times-sum.result = search rules in
    let sum = to_z-of_z w128 c.cast_signed-sum.result sum_fits ∙ c.cast_signed-sum.ensures in
    let least = to_z-of_z w64 c.cast_signed-least.result least_fits ∙ c.cast_signed-least.ensures in
    let greatest = to_z-of_z w64 c.cast_signed-greatest.result greatest_fits ∙ c.cast_signed-greatest.ensures in
    let low = to_z-of_z w128 c.times.result low_fits ∙ c.times.ensures ∙ ap (λ z. pos n *ℤ z) least in
    let high = to_z-of_z w128 c.times-then-times-sum.result high_fits ∙ c.times-then-times-sum.ensures ∙ ap (λ z. pos n *ℤ z) greatest in
    agg-exact n (cast_signed w128 c.args.sum) (cast_signed w64 c.args.least) (cast_signed w64 c.args.greatest) (omega (arith, c.if-count-eq0.false))
    (up_to _ _ _ _ c.if-times-sum.true low sum)
    (up_to _ _ _ _ c.if-sum-times.true sum high)
