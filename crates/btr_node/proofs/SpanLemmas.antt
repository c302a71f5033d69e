-- Two spans of one height that share a time are one.
use Rattle.std.specs.Prelude.{◌≡◌, ℕ, ◌*◌, ℤ, pos, ◌+ℤ◌, ◌≤ℤ◌, ◌<ℤ◌}
use Rattle.std.proofs.Common.{inl, inr, ap, arith}
use Rattle.std.proofs.lemmas.Bool.{cases_lt}
use Rattle.std.proofs.lemmas.Int.{ints}
use Rattle.btr_base.specs.Span.{width, IsSpan}
use Rattle.btr_base.proofs.SpanLemmas.{width-positive, times-up_to}

pub one-start : (h : ℕ) (a b : ℤ) → IsSpan (record { start = a; height = h }) → IsSpan (record { start = b; height = h }) → a ≤ℤ b → b <ℤ (a +ℤ pos (width h)) → a ≡ b
one-start h a b is_a is_b low high =
    let i = is_a.0 in
    let j = is_b.0 in
    let w = width h in
    let start_a = is_a.1.start in
    let start_b = is_b.1.start in
    let some = width-positive h in
    elim (cases_lt i j) [
      | inl before ↦ let far = times-up_to i j w before in absurd (omega (arith, ints))
      | inr after ↦
          elim (cases_lt j i) [
            | inl behind ↦ let far = times-up_to j i w behind in absurd (omega (arith, ints))
            | inr same ↦ let e : i ≡ j = omega arith in let product = ap (λ k. k * w) e in omega (arith, ints)
          ]
    ]
