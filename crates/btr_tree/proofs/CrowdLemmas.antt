-- Lemmas on crowded bottom spans.
use Rattle.std.specs.Prelude.{◌≡◌, ℕ, ◌+◌, ◌*◌, ◌<◌, ◌≤◌, ℤ, pos, ◌+ℤ◌, ◌≤ℤ◌, ◌<ℤ◌, List, length}
use Rattle.std.proofs.Common.{suc, sym, ap, ◌∙◌, arith, subst, mul-le-mul_right}
use Rattle.std.proofs.Math.Nat.{lt_of_not-le}
use Rattle.std.proofs.lemmas.Int.{ints, by_lt_z}
use Rattle.btr_base.specs.declared.point.Point.{Point}
use Rattle.btr_base.specs.Bag.{within, is_within}
use Rattle.btr_base.specs.Span.{width, SpanValue, IsSpan}
use Rattle.btr_base.proofs.SpanLemmas.{width-times}
use Rattle.btr_base.proofs.WithinLemmas.{within-nested}
use Rattle.btr_base.proofs.ListLemmas.{length-filter}
use Rattle.btr_base.specs.declared.limits.TheConstants.{LEAF_POINTS}
use Rattle.btr_tree.specs.Nodes.{points_of}
use Rattle.btr_tree.specs.Change.{end_of}
use Rattle.btr_tree.specs.Crowd.{bottom, HasNoCrowdedSpan, IsFirstCrowd}

pub room-few : (a b : ℤ) (xs : List Point) → length xs ≤ LEAF_POINTS → HasNoCrowdedSpan a b xs
room-few a b xs few j low high =
    let fewer = length-filter (is_within (bottom j) (bottom j +ℤ pos (width 0))) xs in omega arith

pub room-none : (a : ℤ) (xs : List Point) → HasNoCrowdedSpan a a xs
room-none a xs j low high = absurd (omega (arith, ints))

pub room-join : (a m b : ℤ) (xs : List Point) → HasNoCrowdedSpan a m xs → HasNoCrowdedSpan m b xs → HasNoCrowdedSpan a b xs
room-join a m b xs h k j low high = by_lt_z (bottom j) m (λ lt. h j low lt) (λ le. k j le high)

-- Each bottom span that starts before the end ends by it.
abbrev pub Whole : ℤ → Type 0
Whole b = (j : ℕ) → bottom j <ℤ b → (bottom j +ℤ pos (width 0)) ≤ℤ b

pub span-whole : (span : SpanValue) → IsSpan span → Whole (end_of span)
span-whole span aligned j lt =
    let w = width 0 in
    let times = width-times span.height 0 in
    let h : span.height + 0 ≡ span.height = omega arith in
    let e : width span.height ≡ times.0 * w = sym (ap width h) ∙ times.1 in
    let begins : aligned.0 * width span.height ≡ aligned.0 * (times.0 * w) = ap (λ v. aligned.0 * v) e in
    let start = aligned.1.start in
    let before : j < aligned.0 * times.0 + times.0 = lt_of_not-le (λ le. let m : (aligned.0 * times.0 + times.0) * w ≤ j * w = mul-le-mul_right w le in absurd (omega (arith, ints))) in
    let next : suc j * w ≤ (aligned.0 * times.0 + times.0) * w = mul-le-mul_right w (omega arith) in
    omega (arith, ints)

bottom-same : (a b : ℤ) (xs : List Point) (j : ℕ) → Whole b → a ≤ℤ bottom j → bottom j <ℤ b → points_of 0 (bottom j) (within a b xs) ≡ points_of 0 (bottom j) xs
bottom-same a b xs j whole low high =
    within-nested a b (bottom j) (bottom j +ℤ pos (width 0)) xs low (whole j high)

pub room-part : (a b : ℤ) (xs : List Point) → Whole b → HasNoCrowdedSpan a b (within a b xs) → HasNoCrowdedSpan a b xs
room-part a b xs whole h j low high =
    subst (λ ps. length ps ≤ LEAF_POINTS) (bottom-same a b xs j whole low high) (h j low high)

-- The first crowded span of a part is that of the whole if there is none before the part.
pub crowd-part : (a b c d : ℤ) (xs : List Point) (start : ℤ) (j : ℕ) → Whole d → a ≤ℤ c → d ≤ℤ b → HasNoCrowdedSpan a c xs → IsFirstCrowd c d (within c d xs) start j → IsFirstCrowd a b xs start j
crowd-part a b c d xs start j whole low high room h =
    let is = h.is in
    let begins = h.begins in
    let ends = h.ends in
    let same : points_of 0 start (within c d xs) ≡ points_of 0 start xs = subst (λ t. points_of 0 t (within c d xs) ≡ points_of 0 t xs) (sym is) (bottom-same c d xs j whole (omega (arith, ints)) (omega (arith, ints))) in
    record {
      is = is;
      begins = omega (arith, ints);
      ends = omega (arith, ints);
      crowded = subst (λ ps. LEAF_POINTS < length ps) same h.crowded;
      first = room-join a c start xs room (λ k l m. subst (λ ps. length ps ≤ LEAF_POINTS) (bottom-same c d xs k whole l (omega (arith, ints))) (h.first k l m));
    }
