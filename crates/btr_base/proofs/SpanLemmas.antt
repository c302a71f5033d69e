-- Lemmas on spans and their widths.
use Rattle.std.specs.Prelude.{◌≡◌, ℕ, ◌+◌, ◌-◌, ◌*◌, ◌/◌, ◌^◌, ◌<◌, ◌≤◌}
use Rattle.std.proofs.Common.{zero, suc, refl, sym, ap, ◌∙◌, arith, mul-le-mul_right}
use Rattle.std.proofs.Math.Nat.{lt_of_not-le, div-mul-le_self, lt-div-mul-add}
use Rattle.std.proofs.lemmas.Nat.{pow-add, pow_pos}
use Rattle.std.proofs.lemmas.Int.{ints}
use Rattle.btr_base.specs.Span.{width, SpanValue, IsAligned, slot_of}

pub width-next : (h : ℕ) → width (suc h) ≡ 64 * width h
unfolding width
width-next h =
    let e : 6 * suc h + 2 ≡ 6 + (6 * h + 2) = omega arith in ap (λ n. 2 ^ n) e ∙ pow-add 2 6 (6 * h + 2)

pub width-positive : (h : ℕ) → 0 < width h
unfolding width
width-positive h = pow_pos (6 * h + 2)

pub width-bottom : width 0 ≡ 4
unfolding width
width-bottom = refl

pub width-root : width 10 ≡ 2 ^ 62
unfolding width
width-root = refl

-- The width of a height is a whole number of times that of a lower one.
pub width-times : (d h : ℕ) → (m : ℕ) × (width (d + h) ≡ m * width h)
width-times zero h = (1, let e : 0 + h ≡ h = omega arith in ap width e ∙ omega arith)
width-times (suc d) h =
    let below = width-times d h in
    (64 * below.0, let e : suc d + h ≡ suc (d + h) = omega arith in ap width e ∙ width-next (d + h) ∙ grind (arith, below.1))

pub less-times : (a b w : ℕ) → a * w < b * w → a < b
less-times a b w h =
    lt_of_not-le (λ low. let m : b * w ≤ a * w = mul-le-mul_right w low in omega arith)

pub times-up_to : (a b w : ℕ) → a < b → a * w + w ≤ b * w
times-up_to a b w h =
    let m : suc a * w ≤ b * w = mul-le-mul_right w (omega arith) in
    let e : suc a * w ≡ a * w + w = omega arith in
    omega arith

-- The span that contains an offset in the domain ends in the domain.
pub width-fits : (h o : ℕ) → h ≤ 10 → o < 2 ^ 62 → (o / width h) * width h + width h ≤ 2 ^ 62
width-fits h o low inside =
    let times = width-times (10 - h) h in
    let e : (10 - h) + h ≡ 10 = omega arith in
    let whole : 2 ^ 62 ≡ times.0 * width h = sym width-root ∙ ap width (sym e) ∙ times.1 in
    let at_most : (o / width h) * width h ≤ o = div-mul-le_self o (width h) in
    let below : o / width h < times.0 = less-times (o / width h) times.0 (width h) (omega arith) in
    let next = times-up_to (o / width h) times.0 (width h) below in
    omega arith

-- The width of a span is 64 times that of its slots.
pub width-slots : (h : ℕ) → 1 ≤ h → width h ≡ 64 * width (h - 1)
width-slots h low = let e : h ≡ suc (h - 1) = omega arith in ap width e ∙ width-next (h - 1)

pub slot-aligned : (s : SpanValue) (k i : ℕ) → IsAligned s k → 1 ≤ s.height → i < 64 → IsAligned (slot_of s i) (64 * k + i)
slot-aligned s k i h low place =
    let w = width (s.height - 1) in
    let whole = width-slots s.height low in
    let begins : k * width s.height ≡ k * (64 * w) = ap (λ v. k * v) whole in
    let behind : suc i * w ≤ 64 * w = mul-le-mul_right w (omega arith) in
    let start = h.start in
    let ends = h.ends in
    record {
      height = let low = h.height in omega arith;
      start = omega (arith, ints);
      ends = omega (arith, ints);
    }

-- The offset of a slot's start.
pub slot-offset : (s : SpanValue) (i : ℕ) → 1 ≤ s.height → i < 64 → i * width (s.height - 1) + width (s.height - 1) ≤ width s.height
slot-offset s i low place =
    let w = width (s.height - 1) in
    let behind : suc i * w ≤ 64 * w = mul-le-mul_right w (omega arith) in
    let whole = width-slots s.height low in
    omega arith

pub width-at_most : (h : ℕ) → h ≤ 10 → width h ≤ 2 ^ 62
width-at_most h low =
    let fits = width-fits h 0 low (omega arith) in omega arith

-- ---- the slot that contains an offset

-- The slot of this index contains the offset.
pub record IsSlotAround (o w i : ℕ) : Type 0 where
  pub place : i < 64
  pub begins : i * w ≤ o
  pub ends : o < i * w + w

pub slot-around : (o w : ℕ) → 0 < w → o < 64 * w → IsSlotAround o w (o / w)
slot-around o w some inside =
    let begins = div-mul-le_self o w in
    let ends = lt-div-mul-add {a = o} some in
    let place : o / w < 64 = less-times (o / w) 64 w (omega arith) in
    record { place = place; begins = begins; ends = omega arith }
