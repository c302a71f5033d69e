-- Lemmas on ranges that are lengthened, and on sets of times that are united.
use Rattle.std.specs.Prelude.{◌≡◌, ℕ, ◌+◌, ◌≤◌, ℤ, pos, ◌+ℤ◌, ◌≤ℤ◌, ◌<ℤ◌, int_lt, Bool, true, false, ◌||◌, cond, List, [], ◌∷◌, length, map}
use Rattle.std.specs.Int.{int_min, int_max}
use Rattle.std.specs.List.{AllByRecursion}
use Rattle.std.proofs.Common.{refl, sym, ap, ◌∙◌, arith}
use Rattle.std.proofs.lemmas.Int.{ints, clamps}
use Rattle.btr_base.specs.declared.limits.TheConstants.{END}
use Rattle.btr_base.specs.Range.{RangeValue, IsRange, IsCut, AreApart, contains, covered}
use Rattle.btr_base.specs.Cut.{lengthened, with_range, union}
use Rattle.btr_base.proofs.RangeLemmas.{IsCut-none, IsCut-rest, first_ends, contains-from, same_from-covered}

-- ---- a longer range

pub lengthened-is_range : (lead : ℕ) (r : RangeValue) → IsRange r → IsRange (lengthened lead r)
lengthened-is_range lead r h =
    let begins = h.begins in
    let full = h.not_empty in
    let ends = h.ends in
    record { begins = begins; not_empty = omega (arith, ints, clamps); ends = omega (arith, ints, clamps) }

pub lengthened-each : (lead : ℕ) (rs : List RangeValue) → AllByRecursion IsRange rs → AllByRecursion IsRange (map (lengthened lead) rs)
lengthened-each lead [] h = tt
lengthened-each lead (r ∷ rs) h = (lengthened-is_range lead r h.0, lengthened-each lead rs h.1)

pub lengthened-contains : (lead : ℕ) (r : RangeValue) (u t : ℤ) → contains r u ≡ true → u ≤ℤ t → t ≤ℤ (u +ℤ pos lead) → t <ℤ END → contains (lengthened lead r) t ≡ true
lengthened-contains lead r u t h early late inside =
    let in_range = contains-from r u h in
    let low = in_range.0 in
    let high = in_range.1 in
    grind (arith, ints)

lengthened-zero : (r : RangeValue) → IsRange r → lengthened 0 r ≡ r
lengthened-zero r h =
    let ends = h.ends in
    let same : int_min END (r.to +ℤ pos 0) ≡ r.to = omega (arith, ints, clamps) in
    λ i. record { from = r.from; to = same i }

each_lengthened-zero : (rs : List RangeValue) → AllByRecursion IsRange rs → map (lengthened 0) rs ≡ rs
each_lengthened-zero [] h = refl
each_lengthened-zero (r ∷ rs) h =
    let first = lengthened-zero r h.0 in
    let rest = each_lengthened-zero rs h.1 in
    λ i. first i ∷ rest i

-- ---- two ranges that touch or overlap

-- From the earlier begin to the later end.
abbrev spanned : RangeValue → RangeValue → RangeValue
spanned r s = record { from = int_min r.from s.from; to = int_max r.to s.to }

spanned-is_range : (r s : RangeValue) → IsRange r → IsRange s → IsRange (spanned r s)
spanned-is_range r s h k =
    let begins_r = h.begins in
    let begins_s = k.begins in
    let full_r = h.not_empty in
    let full_s = k.not_empty in
    let ends_r = h.ends in
    let ends_s = k.ends in
    record { begins = omega (arith, ints, clamps); not_empty = omega (arith, ints, clamps); ends = omega (arith, ints, clamps) }

spanned-contains : (r s : RangeValue) (t : ℤ) → IsRange r → IsRange s → int_lt s.to r.from ≡ false → int_lt r.to s.from ≡ false → contains (spanned r s) t ≡ (contains r t || contains s t)
spanned-contains r s t h k behind before =
    let full_r = h.not_empty in
    let full_s = k.not_empty in
    grind (arith, ints)

-- ---- one range among others

with_range-each : (P : RangeValue → Type 0) (r : RangeValue) (rs : List RangeValue) → ((a b : RangeValue) → P a → P b → P (spanned a b)) → P r → AllByRecursion P rs → AllByRecursion P (with_range r rs)
with_range-each P r [] join h k = (h, tt)
with_range-each P r (s ∷ rs) join h k =
    elim (int_lt s.to r.from) as (λ t. AllByRecursion P (cond t (s ∷ with_range r rs) (cond (int_lt r.to s.from) (r ∷ s ∷ rs) (with_range (spanned r s) rs)))) [
      | true ↦ (k.0, with_range-each P r rs join h k.1)
      | false ↦ elim (int_lt r.to s.from) as (λ t. AllByRecursion P (cond t (r ∷ s ∷ rs) (with_range (spanned r s) rs))) [
        | true ↦ (h, k)
        | false ↦ with_range-each P (spanned r s) rs join (join r s h k.0) k.1
      ]
    ]

apart-first : (s : RangeValue) (rs : List RangeValue) → AllByRecursion (λ u. s.to <ℤ u.from) rs → AreApart rs → AreApart (s ∷ rs)
apart-first s [] h k = tt
apart-first s (u ∷ rs) h k = (h.0, k)

lt-true : (a b : ℤ) → int_lt a b ≡ true → a <ℤ b
lt-true a b h = grind (arith, ints)

later-both : (t a b : ℤ) → t <ℤ a → t <ℤ b → t <ℤ int_min a b
later-both t a b h k = omega (arith, ints, clamps)

with_range-apart : (r : RangeValue) (rs : List RangeValue) → IsRange r → IsCut rs → AreApart (with_range r rs)
with_range-apart r [] h k = tt
with_range-apart r (s ∷ rs) h k =
    elim (int_lt s.to r.from) as (λ t. int_lt s.to r.from ≡ t → AreApart (cond t (s ∷ with_range r rs) (cond (int_lt r.to s.from) (r ∷ s ∷ rs) (with_range (spanned r s) rs)))) [
      | true ↦ λ e.
          let after = with_range-each (λ u. s.to <ℤ u.from) r rs (λ a b i j. later-both s.to a.from b.from i j) (lt-true s.to r.from e) (first_ends s rs k) in
          apart-first s (with_range r rs) after (with_range-apart r rs h (IsCut-rest s rs k))
      | false ↦ λ _. elim (int_lt r.to s.from) as (λ t. int_lt r.to s.from ≡ t → AreApart (cond t (r ∷ s ∷ rs) (with_range (spanned r s) rs))) [
        | true ↦ λ e. (lt-true r.to s.from e, k.apart)
        | false ↦ λ _. with_range-apart (spanned r s) rs (spanned-is_range r s h k.each.0) (IsCut-rest s rs k)
      ] refl
    ] refl

pub with_range-cut : (r : RangeValue) (rs : List RangeValue) → IsRange r → IsCut rs → IsCut (with_range r rs)
with_range-cut r rs h k = record { each = with_range-each IsRange r rs spanned-is_range h k.each; apart = with_range-apart r rs h k }

or_swap : (a b c : Bool) → (a || (b || c)) ≡ (b || (a || c))
or_swap a b c = grind arith

or_first : (a b c : Bool) → ((a || b) || c) ≡ (a || (b || c))
or_first a b c = grind arith

pub with_range-covered : (r : RangeValue) (rs : List RangeValue) (t : ℤ) → IsRange r → AllByRecursion IsRange rs → covered (with_range r rs) t ≡ (contains r t || covered rs t)
with_range-covered r [] t h k = refl
with_range-covered r (s ∷ rs) t h k =
    elim (int_lt s.to r.from) as (λ u. int_lt s.to r.from ≡ u → covered (cond u (s ∷ with_range r rs) (cond (int_lt r.to s.from) (r ∷ s ∷ rs) (with_range (spanned r s) rs))) t ≡ (contains r t || covered (s ∷ rs) t)) [
      | true ↦ λ _. ap (λ c. contains s t || c) (with_range-covered r rs t h k.1) ∙ or_swap (contains s t) (contains r t) (covered rs t)
      | false ↦ λ behind. elim (int_lt r.to s.from) as (λ u. int_lt r.to s.from ≡ u → covered (cond u (r ∷ s ∷ rs) (with_range (spanned r s) rs)) t ≡ (contains r t || covered (s ∷ rs) t)) [
        | true ↦ λ _. refl
        | false ↦ λ before.
            with_range-covered (spanned r s) rs t (spanned-is_range r s h k.0) k.1
            ∙ ap (λ c. c || covered rs t) (spanned-contains r s t h k.0 behind before)
            ∙ or_first (contains r t) (contains s t) (covered rs t)
      ] refl
    ] refl

with_range-length : (r : RangeValue) (rs : List RangeValue) → length (with_range r rs) ≤ 1 + length rs
with_range-length r [] = omega arith
with_range-length r (s ∷ rs) =
    elim (int_lt s.to r.from) as (λ t. length (cond t (s ∷ with_range r rs) (cond (int_lt r.to s.from) (r ∷ s ∷ rs) (with_range (spanned r s) rs))) ≤ 1 + length (s ∷ rs)) [
      | true ↦ let rest = with_range-length r rs in omega arith
      | false ↦ elim (int_lt r.to s.from) as (λ t. length (cond t (r ∷ s ∷ rs) (with_range (spanned r s) rs)) ≤ 1 + length (s ∷ rs)) [
        | true ↦ omega arith
        | false ↦ let rest = with_range-length (spanned r s) rs in omega arith
      ]
    ]

-- ---- all of them

pub union-cut : (rs : List RangeValue) → AllByRecursion IsRange rs → IsCut (union rs)
union-cut [] h = IsCut-none
union-cut (r ∷ rs) h = with_range-cut r (union rs) h.0 (union-cut rs h.1)

pub union-covered : (rs : List RangeValue) (t : ℤ) → AllByRecursion IsRange rs → covered (union rs) t ≡ covered rs t
union-covered [] t h = refl
union-covered (r ∷ rs) t h =
    with_range-covered r (union rs) t h.0 (union-cut rs h.1).each ∙ ap (λ c. contains r t || c) (union-covered rs t h.1)

pub union-length : (rs : List RangeValue) → length (union rs) ≤ length rs
union-length [] = omega arith
union-length (r ∷ rs) = let more = with_range-length r (union rs) in let rest = union-length rs in omega arith

-- A set of times that covers the times of these ranges is their union.
pub union-is : (cut rs : List RangeValue) → IsCut cut → AllByRecursion IsRange rs → ((t : ℤ) → covered cut t ≡ covered rs t) → cut ≡ union rs
union-is cut rs h k same = same_from-covered cut (union rs) h (union-cut rs k) (λ t. same t ∙ sym (union-covered rs t k))

-- The union of a set of times is that set.
pub union-of_cut : (rs : List RangeValue) → IsCut rs → union rs ≡ rs
union-of_cut rs h = sym (union-is rs rs h h.each (λ t. refl))

-- Ranges in order and apart that are lengthened by nothing are as they were.
pub union-zero : (rs : List RangeValue) → IsCut rs → union (map (lengthened 0) rs) ≡ rs
union-zero rs h = ap union (each_lengthened-zero rs h.each) ∙ union-of_cut rs h
