use Rattle.std.proofs.Common.{◌≡◌, ◌*◌, ◌-◌, ℤ, ◌≤ℤ◌, int_le, true, ap, arith, w64, to_z, of_z}
use Rattle.std.proofs.lemmas.Int.{ints, to_z-of_z}
use Rattle.btr_base.specs.Span.{width}
use Rattle.btr_base.proofs.SpanLemmas.{width-positive}
use Rattle.btr_base.proofs.span.Span.first_slot.Goals as goal

le-true : (x y a b : ℤ) → int_le x y ≡ true → x ≡ a → y ≡ b → a ≤ℤ b
le-true x y a b h e f = grind (arith, ints)

pub returns-then-from-self-clause-first : goal.returns-then-from-self-clause-first
returns-then-from-self-clause-first c =
    let some = width-positive (c.args.self.now.height - 1) in
    let start = ap (λ p. p.start) c.self.view_is in
    let low = le-true (to_z w64 (of_z w64 c.args.from)) (to_z w64 (of_z w64 c.self.inside.start)) c.args.from c.self.inside.start c.if-from-self.true (to_z-of_z w64 c.args.from c.ranges.from) (to_z-of_z w64 c.self.inside.start (let s = c.self.invariant.1.start in let e = c.self.invariant.1.ends in omega (arith, ints))) in
    let none : 0 * width (c.args.self.now.height - 1) ≡ 0 = omega arith in
    omega (arith, ints)
