use Rattle.std.proofs.Common.{◌≡◌, ◌+◌, ◌*◌, ◌/◌, ◌^◌, ◌<◌, ℕ, ◌≤◌, sym, subst, arith, pos, ◌+ℤ◌, ◌-ℤ◌, ℤ}
use Rattle.std.specs.Prelude.{unsigned_abs}
use Rattle.std.proofs.lemmas.Int.{ints}
use Rattle.std.proofs.lemmas.Nat.{pow_pos}
use Rattle.btr_base.specs.declared.limits.TheConstants.{FIRST}
use Rattle.btr_base.specs.Point.{InDomain}
use Rattle.btr_base.specs.Range.{RangeValue, IsRange}
use Rattle.btr_base.specs.Changes.{slot_around}
use Rattle.btr_base.proofs.ChangesLemmas.{slot-is, slot-range, slot-fits}
use Rattle.btr_base.proofs.grid.slot_around.Goals as goal

-- The bounds of the slot, by the offset and the width.
record IsSlotBy (p : ℕ) (t : ℤ) (o w : ℕ) : Type 0 where
  from : FIRST +ℤ pos (o / w * w) ≡ (slot_around p t).from
  to : FIRST +ℤ pos (o / w * w + w) ≡ (slot_around p t).to
  some : 0 < w
  fits : o / w * w + w ≤ 2 ^ 62

slot-by : (p : ℕ) (t : ℤ) (o w : ℕ) → p ≤ 62 → InDomain t → o ≡ unsigned_abs (t -ℤ FIRST) → w ≡ 2 ^ p → IsSlotBy p t o w
slot-by p t o w low inside is same =
    let v = unsigned_abs (t -ℤ FIRST) in
    let s = slot-is p t inside.0 in
    let time = s.time in
    let high = inside.1 in
    let fits = slot-fits p v low (omega (arith, ints)) in
    let split : (v / 2 ^ p + 1) * 2 ^ p ≡ v / 2 ^ p * 2 ^ p + 2 ^ p = omega arith in
    let at : IsSlotBy p t v (2 ^ p) = record {
      from = sym s.from;
      to = sym s.to;
      some = pow_pos p;
      fits = omega arith;
    } in
    subst (λ x. IsSlotBy p t x w) (sym is) (subst (IsSlotBy p t v) (sym same) at)

by : (c : goal.After-abs_diff-offset) → IsSlotBy c.args.p c.args.time c.abs_diff-offset.result c.power_of_two-width.result
by c =
    let e = c.abs_diff-offset.ensures in
    slot-by c.args.p c.args.time c.abs_diff-offset.result c.power_of_two-width.result c.requires.power c.requires.domain (omega (arith, ints)) c.power_of_two-width.ensures

pub nonzero_div-from : goal.nonzero_div-from
nonzero_div-from c = omega (arith, pow_pos c.args.p)

pub overflow_cast-result : goal.overflow_cast-result
overflow_cast-result c = let s = by c in let fits = s.fits in omega (arith, ints)

pub overflow_add-result : goal.overflow_add-result
overflow_add-result c = let s = by c in let fits = s.fits in omega (arith, ints)

interval-by : (a b x y : ℤ) → a ≡ x → b ≡ y → (let r : RangeValue = record { from = a; to = b } in r) ≡ record { from = x; to = y }
interval-by a b x y e f = cc

range-by : (a b : ℤ) (s : RangeValue) → a ≡ s.from → b ≡ s.to → IsRange s → IsRange (record { from = a; to = b })
range-by a b s e f h =
    let begins = h.begins in
    let full = h.not_empty in
    let ends = h.ends in
    record { begins = omega (arith, ints); not_empty = omega (arith, ints); ends = omega (arith, ints) }

pub invariant_of-result : goal.invariant_of-result
invariant_of-result c =
    let s = by c in
    let fits = s.fits in
    range-by _ _ (slot_around c.args.p c.args.time) (omega (arith, ints, s.from)) (omega (arith, ints, s.to)) (slot-range c.args.p c.args.time c.requires.power c.requires.domain)

pub returns : goal.returns
returns c =
    let s = by c in
    let fits = s.fits in
    interval-by _ _ _ _ (omega (arith, ints, s.from)) (omega (arith, ints, s.to))
