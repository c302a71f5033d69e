-- Lemmas on numbers of 64 bits: the start of a span, different times, and the bounds of whole windows.
use Rattle.std.specs.Prelude.{◌≡◌, ℕ, ◌+◌, ◌*◌, ℤ, pos, ◌+ℤ◌, ◌-ℤ◌, ◌≤ℤ◌, ◌<ℤ◌, true, false}
use Rattle.std.specs.Ordering.{int_eq}
use Rattle.std.proofs.Common.{refl, sym, ap, ◌∙◌, arith, subst, to_z, of_z, w64, SFits}
use Rattle.std.proofs.lemmas.Int.{ints, to_z-of_z, to_z_pos}
use Rattle.btr_base.specs.declared.limits.TheConstants.{END}
use Rattle.btr_base.specs.Range.{IsRange}
use Rattle.btr_base.specs.Windows.{window_of}
use Rattle.btr_base.specs.Windows.{IsGrid, begin_of}
use Rattle.btr_base.proofs.WindowLemmas.{numbered}
use Rattle.btr_window.proofs.Cells.{begin-bounds}
use Rattle.btr_base.specs.Span.{SpanValue, IsSpan}
use Rattle.btr_base.proofs.SpanLemmas.{width-positive}

-- The start of a span.
pub span-start : (inside s : SpanValue) → IsSpan inside → inside ≡ s → to_z w64 (of_z w64 inside.start) ≡ s.start
span-start inside s span e =
    let some = width-positive inside.height in
    let begins = span.1.start in
    let ends = span.1.ends in
    to_z-of_z w64 inside.start (omega (arith, ints)) ∙ ap (λ (u : SpanValue). u.start) e

equal : (a b : ℤ) → int_eq a b ≡ true → a ≡ b
equal a b e = grind (arith, ints)

pub apart-times : (a b : ℤ) → (of_z w64 a ≡ of_z w64 b → ⊥) → int_eq a b ≡ false
apart-times a b h =
    elim (int_eq a b) as (λ t. int_eq a b ≡ t → t ≡ false) [
      | true ↦ λ e. absurd (h (ap (of_z w64) (equal a b e)))
      | false ↦ λ e. refl
    ] refl

-- ---- Whole windows.

-- What is computed of the starts of the first and the last window that a range meets.
pub record IsWhole (width : ℕ) (begin last : ℤ) : Type 0 where
  pub sum_fits : SFits w64 (to_z w64 (of_z w64 last) +ℤ to_z w64 width)
  pub sum : to_z w64 (of_z w64 (to_z w64 (of_z w64 last) +ℤ to_z w64 width)) ≡ last +ℤ pos width
  pub range : IsRange (record { from = to_z w64 (of_z w64 begin); to = to_z w64 (of_z w64 (to_z w64 (of_z w64 last) +ℤ to_z w64 width)) })

pub whole-is : (first : ℤ) (width : ℕ) (from to begin last : ℤ) → IsGrid first width → first ≤ℤ from → from <ℤ to → begin ≡ begin_of first width from → last ≡ begin_of first width (to -ℤ pos 1) → (begin_of first width (to -ℤ pos 1) +ℤ pos width) ≤ℤ END → IsWhole width begin last
whole-is first width from to begin last grid behind full p q fits =
    let low = grid.begins in
    let most = grid.most in
    let some = grid.some in
    let a = begin-bounds first width from some behind in
    let b = begin-bounds first width (to -ℤ pos 1) some (omega (arith, ints)) in
    let n = numbered first width (to -ℤ pos 1) some (omega (arith, ints)) in
    let is = n.at in
    let high = n.high in
    let next : (window_of first width (to -ℤ pos 1) + 1) * width ≡ window_of first width (to -ℤ pos 1) * width + width = omega arith in
    let cast : to_z w64 width ≡ pos width = to_z_pos w64 width (omega arith) in
    let begins : to_z w64 (of_z w64 begin) ≡ begin = to_z-of_z w64 begin (omega (arith, ints)) in
    let lasts : to_z w64 (of_z w64 last) ≡ last = to_z-of_z w64 last (omega (arith, ints)) in
    let both : to_z w64 (of_z w64 last) +ℤ to_z w64 width ≡ last +ℤ pos width = omega (arith, ints) in
    let sum : to_z w64 (of_z w64 (to_z w64 (of_z w64 last) +ℤ to_z w64 width)) ≡ last +ℤ pos width = ap (λ x. to_z w64 (of_z w64 x)) both ∙ to_z-of_z w64 (last +ℤ pos width) (omega (arith, ints)) in
    record {
      sum_fits = subst (SFits w64) (sym both) (omega (arith, ints));
      sum = sum;
      range = record { begins = omega (arith, ints); not_empty = omega (arith, ints); ends = omega (arith, ints) };
    }
