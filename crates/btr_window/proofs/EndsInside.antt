-- Lemmas on the ends of a range that lie inside a span, and inside the slots that it is made of.
use Rattle.std.specs.Prelude.{◌≡◌, ℕ, ◌+◌, ◌*◌, ◌<◌, ◌≤◌, ℤ, pos, ◌+ℤ◌, ◌≤ℤ◌}
use Rattle.std.proofs.Common.{suc, sym, ap, ◌∙◌, arith, inl, inr, mul-le-mul_left}
use Rattle.std.proofs.lemmas.Bool.{cases_lt}
use Rattle.std.proofs.lemmas.Int.{ints}
use Rattle.btr_base.specs.Span.{width, SpanValue}
use Rattle.btr_tree.specs.Change.{end_of}
use Rattle.btr_tree.specs.Shape.{slot_start}
use Rattle.btr_tree.proofs.NodeLemmas.{slot-order, slot-from, slot-end}
use Rattle.btr_tree.proofs.RangeSlotLemmas.{IsBetween, slot-begins, slot-ends}
use Rattle.btr_window.specs.RangeEnds.{ends_inside}

pub ends-longer : (start end later from to : ℤ) → end ≤ℤ later → ends_inside start end from to ≤ ends_inside start later from to
ends-longer start end later from to h = grind (arith, ints)

pub ends-earlier : (start slot end from to : ℤ) → start ≤ℤ slot → ends_inside slot end from to ≤ ends_inside start end from to
ends-earlier start slot end from to h = grind (arith, ints)

pub ends-next : (start slot end from to : ℤ) → from ≤ℤ slot → slot ≤ℤ to → ends_inside start slot from to + ends_inside slot end from to ≤ ends_inside start end from to
ends-next start slot end from to h k = grind (arith, ints)

pub ends-some : (start end from to : ℤ) → (from ≤ℤ start → end ≤ℤ to → ⊥) → 1 ≤ ends_inside start end from to
ends-some start end from to h = grind (arith, ints)

pub ends-most : (start end from to : ℤ) → ends_inside start end from to ≤ 2
ends-most start end from to = grind (arith, ints)

-- ---- The steps of a slot, after those of the slots before it.

pub steps-first : (k : ℕ) (start slot next from to : ℤ) (old now new : ℕ) → start ≤ℤ slot → now ≡ old → new ≤ now + k * ends_inside slot next from to → new ≤ old + k * ends_inside start next from to
steps-first k start slot next from to old now new low same few =
    let more = mul-le-mul_left k (ends-earlier start slot next from to low) in omega arith

pub steps-next : (k : ℕ) (start slot next from to : ℤ) (old now new : ℕ) → from ≤ℤ slot → slot ≤ℤ to → now ≤ old + k * ends_inside start slot from to → new ≤ now + k * ends_inside slot next from to → new ≤ old + k * ends_inside start next from to
steps-next k start slot next from to old now new low high was few =
    let a = ends_inside start slot from to in
    let b = ends_inside slot next from to in
    let more = mul-le-mul_left k (ends-next start slot next from to low high) in
    let both : k * (a + b) ≡ k * a + k * b = omega arith in
    omega arith

pub cost-as : (k l : ℕ) (a b c d from to : ℤ) (now new : ℕ) → k ≡ l → a ≡ c → b ≡ d → new ≤ now + k * ends_inside a b from to → new ≤ now + l * ends_inside c d from to
cost-as k l a b c d from to now new p q r few =
    let e : k * ends_inside a b from to ≡ l * ends_inside c d from to = ap (λ n. n * ends_inside a b from to) p ∙ ap (λ x. l * ends_inside x b from to) q ∙ ap (λ x. l * ends_inside c x from to) r in
    omega arith

-- ---- The steps of the slots that a range meets.

-- The steps of a slot, after those of the slots that the range meets before it.
pub steps-part : (span part : SpanValue) (below : ℕ) (from to : ℤ) (first last i old now new : ℕ) → span.height ≡ suc below → IsBetween below span.start from to first last → part ≡ record { start = slot_start below span.start i; height = below } → first ≤ i → i ≤ last → (i ≡ first → now ≡ old) → (first < i → now ≤ old + span.height * ends_inside span.start (slot_start below span.start i) from to) → new ≤ now + (part.height + 1) * ends_inside part.start (end_of part) from to → new ≤ old + span.height * ends_inside span.start (slot_start below span.start (i + 1)) from to
steps-part span part below from to first last i old now new e met is low high none was few =
    let start = span.start in
    let k = span.height in
    let up : part.height + 1 ≡ k = omega (arith, ap (λ (u : SpanValue). u.height) is) in
    let cost = cost-as (part.height + 1) k _ _ _ _ from to now new up (slot-begins below start i part is) (slot-ends below start i part is) few in
    elim (cases_lt first i) [
      | inl seen ↦
          let begins = met.begins in
          let ends = met.ends in
          let behind = slot-order below start (first + 1) i (omega arith) in
          let before = slot-order below start i last high in
          steps-next k start (slot_start below start i) (slot_start below start (i + 1)) from to old now new (omega (arith, ints)) (omega (arith, ints)) (was seen) cost
      | inr other ↦
          steps-first k start (slot_start below start i) (slot_start below start (i + 1)) from to old now new (slot-from below start i) (none (omega arith)) cost
    ]

-- The steps of the slots before one are within those of the span.
pub steps-whole : (span : SpanValue) (below : ℕ) (from to : ℤ) (i old new : ℕ) → span.height ≡ suc below → i ≤ 64 → new ≤ old + span.height * ends_inside span.start (slot_start below span.start i) from to → new ≤ old + span.height * ends_inside span.start (end_of span) from to
steps-whole span below from to i old new e le few =
    let start = span.start in
    let end : slot_start below start 64 ≡ end_of span = slot-end below start ∙ ap (λ k. start +ℤ pos (width k)) (sym e) in
    let rise = slot-order below start i 64 le in
    let more = ends-longer start (slot_start below start i) (end_of span) from to (omega (arith, ints)) in
    let times = mul-le-mul_left span.height more in
    omega arith
