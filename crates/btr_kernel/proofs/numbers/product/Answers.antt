use Rattle.std.proofs.Common.{◌≡◌, ◌≤◌, ℕ, suc, ℤ, pos, negsuc, ◌*ℤ◌, ◌≤ℤ◌, ◌∙◌, subst, sym, arith, w64, to_z, of_z, SFits}
use Rattle.std.specs.Prelude.{unsigned_abs}
use Rattle.std.specs.Int.{w128}
use Rattle.std.proofs.lemmas.Int.{ints, to_z-of_z, fits_signed_mul, unsigned_abs-mul}
use Rattle.std.proofs.Math.Nat.{mul-le-mul}
use Rattle.btr_kernel.proofs.numbers.product.Goals as goal

abs-fits : (z : ℤ) → SFits w64 z → unsigned_abs z ≤ 9223372036854775808
abs-fits (pos n) h = omega (arith, ints)
abs-fits (negsuc n) h = omega (arith, ints)

low-abs : (z : ℤ) (n : ℕ) → unsigned_abs z ≤ suc n → negsuc n ≤ℤ z
low-abs (pos a) n h = omega (arith, ints)
low-abs (negsuc a) n h = omega (arith, ints)

high-abs : (z : ℤ) (n : ℕ) → unsigned_abs z ≤ n → z ≤ℤ pos n
high-abs (pos a) n h = omega (arith, ints)
high-abs (negsuc a) n h = omega (arith, ints)

abs-product : (a x : ℤ) → SFits w64 a → SFits w64 x → unsigned_abs (a *ℤ x) ≤ 85070591730234615865843651857942052864
abs-product a x h k =
    omega (arith, unsigned_abs-mul a x, mul-le-mul (abs-fits a h) (abs-fits x k))

pub returns-clause-product : goal.returns-clause-product
returns-clause-product c =
    let e : to_z w128 (of_z w128 c.from.result) ≡ c.args.a = omega (arith, ints) in
    let f : to_z w128 (of_z w128 c.from-2.result) ≡ c.args.x = omega (arith, ints) in
    let fits = fits_signed_mul w128 c.args.a c.args.x 9223372036854775808 9223372036854775808 (abs-fits c.args.a c.ranges.a) (abs-fits c.args.x c.ranges.x) (omega arith) in
    (λ i. to_z w128 (of_z w128 (e i *ℤ f i))) ∙ to_z-of_z w128 (c.args.a *ℤ c.args.x) fits

pub returns-clause-low : goal.returns-clause-low
returns-clause-low c =
    subst (λ z. negsuc 85070591730234615865843651857942052863 ≤ℤ z) (sym (returns-clause-product c)) (low-abs (c.args.a *ℤ c.args.x) 85070591730234615865843651857942052863 (abs-product c.args.a c.args.x c.ranges.a c.ranges.x))

pub returns-clause-high : goal.returns-clause-high
returns-clause-high c =
    subst (λ z. z ≤ℤ pos 85070591730234615865843651857942052864) (sym (returns-clause-product c)) (high-abs (c.args.a *ℤ c.args.x) 85070591730234615865843651857942052864 (abs-product c.args.a c.args.x c.ranges.a c.ranges.x))
