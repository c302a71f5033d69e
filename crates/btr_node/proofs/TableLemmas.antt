-- Points one after another are in order exactly if none is before the one that it follows.
use Rattle.std.specs.Prelude.{◌≡◌, ℕ, ◌+◌, ◌-◌, ◌<◌, ◌≤◌, false, true, List, length, slice_index_or}
use Rattle.std.proofs.Common.{refl, Ordering, Less, Equal, Greater, Some, inl, inr, subst, sym, ap, ◌∙◌, arith}
use Rattle.std.specs.Ordering.{int_cmp, is_lt, is_some_and, ordering_then, partial_ordering_then}
use Rattle.std.specs.List.Sorted.{IsSortedWithin}
use Rattle.std.proofs.lemmas.Bool.{cases_lt, false≢true}
use Rattle.std.proofs.lemmas.List.{get_or_default}
use Rattle.btr_base.specs.declared.point.Point.{Point}
use Rattle.btr_base.specs.Point.{point_cmp}
use Rattle.btr_base.specs.Bag.{IsInOrder}
use Rattle.btr_base.proofs.PointLemmas.{sorted-from_in_order}

partial-lt : (x y : Ordering) → is_some_and is_lt (partial_ordering_then (Some x) (Some y)) ≡ is_lt (ordering_then x y)
partial-lt Less y = refl
partial-lt Equal y = refl
partial-lt Greater y = refl

-- What the code's comparison of two points answers.
pub points-lt : (p q : Point) → is_some_and is_lt (partial_ordering_then (Some (int_cmp p.time q.time)) (Some (int_cmp p.value q.value))) ≡ is_lt (point_cmp p q)
points-lt p q = partial-lt (int_cmp p.time q.time) (int_cmp p.value q.value)

-- No point up to the i-th is before the one that it follows.
abbrev pub IsOrderedTo : List Point → ℕ → Type 0
IsOrderedTo ps i = IsSortedWithin (λ x y. is_lt (point_cmp x y)) ps 0 i

pub ordered-one : (ps : List Point) → IsOrderedTo ps 1
ordered-one ps k d low high = absurd (omega arith)

pub ordered-more : (ps : List Point) (i : ℕ) (e : Point) → 1 ≤ i → i < length ps → IsOrderedTo ps i → is_lt (point_cmp (slice_index_or ps i e) (slice_index_or ps (i - 1) e)) ≡ false → IsOrderedTo ps (i + 1)
ordered-more ps i e some inside so_far here k d low high =
    elim (cases_lt (k + 1) i) [
      | inl before ↦ so_far k d low before
      | inr last ↦
          let next : i ≡ k + 1 = omega arith in
          let prev : i - 1 ≡ k = omega arith in
          let p = ap (λ m. slice_index_or ps m e) (sym next) ∙ get_or_default ps i e d inside ∙ ap (λ m. slice_index_or ps m d) next in
          let q = ap (λ m. slice_index_or ps m e) (sym prev) ∙ get_or_default ps (i - 1) e d (omega arith) ∙ ap (λ m. slice_index_or ps m d) prev in
          subst (λ m. is_lt (point_cmp m (slice_index_or ps k d)) ≡ false) p (subst (λ m. is_lt (point_cmp (slice_index_or ps (k + 1) e) m) ≡ false) q (subst (λ m. is_lt (point_cmp (slice_index_or ps (k + 1) e) (slice_index_or ps m e)) ≡ false) prev (subst (λ m. is_lt (point_cmp (slice_index_or ps m e) (slice_index_or ps (i - 1) e)) ≡ false) next here)))
    ]

-- A point before the one that it follows.
pub not-ordered : (ps : List Point) (i : ℕ) (d : Point) → 1 ≤ i → i < length ps → is_lt (point_cmp (slice_index_or ps i d) (slice_index_or ps (i - 1) d)) ≡ true → IsInOrder ps → ⊥
not-ordered ps i d some inside less order =
    let e : i - 1 + 1 ≡ i = omega arith in
    let not_less = sorted-from_in_order ps order (i - 1) d (omega arith) (omega arith) in
    false≢true (sym not_less ∙ subst (λ m. is_lt (point_cmp (slice_index_or ps m d) (slice_index_or ps (i - 1) d)) ≡ true) (sym e) less)
