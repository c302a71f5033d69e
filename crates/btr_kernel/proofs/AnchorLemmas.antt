-- Lemmas on the anchors of the points from an index on.
use Rattle.std.specs.Prelude.{◌≡◌, ℕ, ◌+◌, ◌<◌, ℤ, ◌≤ℤ◌, ◌<ℤ◌, true, false, not, nat_eq, List, ◌∷◌, length, drop}
use Rattle.std.specs.List.{AllByRecursion}
use Rattle.std.proofs.Common.{sym, ap, ◌∙◌, arith, subst, get_or, eqb-true, eq-eqb, w64, to_z, of_z, SFits}
use Rattle.std.proofs.lemmas.Bool.{both_ways}
use Rattle.std.proofs.lemmas.Int.{ints, to_z-of_z}
use Rattle.std.proofs.lemmas.List.{drop_more}
use Rattle.btr_base.specs.declared.point.Point.{Point}
use Rattle.btr_base.specs.Bag.{IsInOrder}
use Rattle.btr_base.proofs.ListLemmas.{each-weaker}
use Rattle.btr_base.proofs.PointLemmas.{is_not_after-times, drop-in_order}
use Rattle.btr_hist.specs.Kernel.{anchors}
use Rattle.btr_kernel.proofs.PlaceLemmas.{rest-from}
use Rattle.btr_kernel.proofs.KernelPointLemmas.{anchors-next, anchors-last}

-- ---- two times as machine words

pub other-words : (s t : ℤ) → not (nat_eq (of_z w64 s) (of_z w64 t)) ≡ true → s ≡ t → ⊥
other-words s t h e =
    let same : nat_eq (of_z w64 s) (of_z w64 t) ≡ true = eq-eqb (of_z w64 s) (of_z w64 t) (ap (of_z w64) e) in
    both_ways (not (nat_eq (of_z w64 s) (of_z w64 t))) (ap not same) h

pub same-words : (s t : ℤ) → SFits w64 s → SFits w64 t → not (nat_eq (of_z w64 s) (of_z w64 t)) ≡ false → s ≡ t
same-words s t f g h =
    let e : nat_eq (of_z w64 s) (of_z w64 t) ≡ true = grind (arith, h) in
    sym (to_z-of_z w64 s f) ∙ ap (to_z w64) (eqb-true (of_z w64 s) (of_z w64 t) e) ∙ to_z-of_z w64 t g

-- ---- one point and the next

next-later : (p q : Point) (r : List Point) → IsInOrder (p ∷ q ∷ r) → (q.time ≡ p.time → ⊥) → AllByRecursion (λ x. p.time <ℤ x.time) (q ∷ r)
next-later p q r order other =
    let le : p.time ≤ℤ q.time = is_not_after-times p q order.0.0 in
    let lt : p.time <ℤ q.time = omega (arith, ints) in
    (lt, each-weaker (λ x. q.time ≤ℤ x.time) (λ x. p.time <ℤ x.time) (λ x h. omega (arith, ints)) r (rest-from q r order.1))

module _ (b : List Point) (i : ℕ) (q d : Point) (order : IsInOrder b) (within : i + 1 < length b) (is : q ≡ get_or b (i + 1) q) where
  next : drop (i + 1) b ≡ q ∷ drop ((i + 1) + 1) b
  next = drop_more b (i + 1) q within ∙ ap (λ x. x ∷ drop ((i + 1) + 1) b) (sym is)

  here : drop i b ≡ get_or b i d ∷ q ∷ drop ((i + 1) + 1) b
  here = drop_more b i d (omega arith) ∙ ap (λ l. get_or b i d ∷ l) next

  -- The next point has another time.
  pub step-last : (q.time ≡ (get_or b i d).time → ⊥) → anchors (drop i b) ≡ (get_or b i d).time ∷ anchors (drop (i + 1) b)
  step-last other =
      ap anchors here
      ∙ anchors-last (get_or b i d) (q ∷ drop ((i + 1) + 1) b) (next-later (get_or b i d) q (drop ((i + 1) + 1) b) (subst IsInOrder here (drop-in_order i b order)) other)
      ∙ ap (λ l. (get_or b i d).time ∷ anchors l) (sym next)

  -- The next point has the same time.
  pub step-again : (get_or b i d).time ≡ q.time → anchors (drop i b) ≡ anchors (drop (i + 1) b)
  step-again same =
      ap anchors here ∙ anchors-next (get_or b i d) q (drop ((i + 1) + 1) b) same ∙ ap anchors (sym next)
