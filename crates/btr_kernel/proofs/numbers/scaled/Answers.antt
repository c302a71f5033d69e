use Rattle.std.proofs.Common.{◌≡◌, ◌+ℤ◌, ◌*ℤ◌, ◌∙◌, ap, arith, rules, w64, to_z, of_z, SFits}
use Rattle.std.specs.Int.{w128, int_div_euclid}
use Rattle.std.proofs.lemmas.Int.{ints, to_z-of_z}
use Rattle.btr_kernel.proofs.numbers.scaled.Goals as goal

pub returns : goal.returns
returns c =
    let fits : SFits w128 c.floor.result = search rules in
    let sum : to_z w128 (of_z w128 (to_z w128 (of_z w128 c.product.result) +ℤ to_z w128 (of_z w128 c.from.result))) ≡ c.product.result +ℤ c.args.b = omega (arith, ints) in
    to_z-of_z w128 c.floor.result fits
    ∙ c.floor.ensures
    ∙ (λ i. int_div_euclid (sum i) (to_z-of_z w64 c.args.d c.ranges.d i))
    ∙ ap (λ z. int_div_euclid (z +ℤ c.args.b) c.args.d) c.product.ensures.product
    ∙ (λ i. int_div_euclid ((to_z-of_z w64 c.args.a c.ranges.a i *ℤ to_z-of_z w64 c.args.x c.ranges.x i) +ℤ c.args.b) c.args.d)
