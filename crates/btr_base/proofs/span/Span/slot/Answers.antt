use Rattle.std.proofs.Common.{◌≡◌, ℕ, ◌+◌, ◌-◌, ◌*◌, ◌^◌, ◌≤◌, ◌<◌, ℤ, pos, ◌+ℤ◌, ◌≤ℤ◌, ap, sym, refl, ◌∙◌, subst, arith}
use Rattle.std.proofs.lemmas.Int.{ints}
use Rattle.btr_base.specs.declared.limits.TheConstants.{FIRST, END}
use Rattle.btr_base.specs.Span.{width, SpanValue, IsSpan, slot_of}
use Rattle.btr_base.proofs.SpanLemmas.{slot-aligned, slot-offset, width-at_most}
use Rattle.btr_base.proofs.span.Span.slot.Goals as goal

-- The offset of the slot, as the code computes it.
pub record IsOffset (s : SpanValue) (i product : ℕ) : Type 0 where
  pub is : product ≡ i * width (s.height - 1)
  pub small : product ≤ 2 ^ 62
  pub starts : FIRST ≤ℤ s.start
  pub ends : (s.start +ℤ pos product) ≤ℤ END

offset-is : (s : SpanValue) (i a b : ℕ) → IsSpan s → 1 ≤ s.height → i < 64 → a ≡ i → b ≡ width (s.height - 1) → IsOffset s i (a * b)
offset-is s i a b span low place p q =
    let is : a * b ≡ i * width (s.height - 1) = ap (λ n. n * b) p ∙ ap (λ n. i * n) q in
    let slot = slot-offset s i low place in
    let most = width-at_most s.height span.1.height in
    let start = span.1.start in
    let ends = span.1.ends in
    record { is = is; small = omega arith; starts = omega (arith, ints); ends = omega (arith, ints) }

part-by : (a b : ℤ) (m n : ℕ) → a ≡ b → m ≡ n → (let s : SpanValue = record { start = a; height = m } in s) ≡ record { start = b; height = n }
part-by a b m n p q = cc

offset : (c : goal.After-from) → IsOffset (record { start = c.self.inside.start; height = c.self.inside.height }) c.args.i (c.from.result * c.width-width.result)
offset c =
    offset-is (record { start = c.self.inside.start; height = c.self.inside.height }) c.args.i c.from.result c.width-width.result c.self.invariant (omega (arith, ap (λ p. p.height) c.self.view_is)) c.requires.place c.from.ensures c.width-width.ensures

pub overflow_mul-result : goal.overflow_mul-result
overflow_mul-result c = let small = (offset c).small in omega arith

pub overflow_cast-result : goal.overflow_cast-result
overflow_cast-result c = let small = (offset c).small in omega (arith, ints)

pub overflow_add-result : goal.overflow_add-result
overflow_add-result c = let o = offset c in omega (arith, ints)

pub returns : goal.returns
returns c =
    let o = offset c in
    let s : SpanValue = record { start = c.self.inside.start; height = c.self.inside.height } in
    part-by _ _ _ _ (omega (arith, ints)) refl ∙ ap (λ p. slot_of p c.args.i) c.self.view_is

pub invariant_of-result : goal.invariant_of-result
invariant_of-result c =
    let span : IsSpan c.args.self.now = subst IsSpan c.self.view_is c.self.invariant in
    let slot : IsSpan (slot_of c.args.self.now c.args.i) = (64 * span.0 + c.args.i, slot-aligned c.args.self.now span.0 c.args.i span.1 c.requires.height c.requires.place) in
    subst IsSpan (sym (returns c)) slot
