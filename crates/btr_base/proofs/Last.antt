-- Lemmas on the last of ranges that are apart.
use Rattle.std.proofs.Common.{◌≡◌, ℕ, ◌+◌, suc, ℤ, ◌≤ℤ◌, ◌<ℤ◌, inl, inr, Bool, true, ◌||◌, List, [], ◌∷◌, ◌++◌, ◌∙◌, sym, ap, subst, arith, length, get_or, take, set}
use Rattle.std.specs.List.{AllByRecursion}
use Rattle.std.proofs.lemmas.Bool.{or_cases}
use Rattle.std.proofs.lemmas.Int.{ints}
use Rattle.std.proofs.lemmas.List.{set_split, take_more, take_all, drop_all}
use Rattle.btr_base.specs.Range.{RangeValue, IsRange, IsCut, covered, contains}
use Rattle.btr_base.proofs.RangeLemmas.{EndBefore, IsCut-rest, IsCut-push, IsCut-take, first_ends, covered-push, contains-from, ends_before-rest}

each-last : {X : Type 0} (P : X → Type 0) (xs : List X) (x : X) → AllByRecursion P (xs ++ x ∷ []) → P x
each-last P [] x h = h.0
each-last P (y ∷ xs) x h = each-last P xs x h.1

-- The others end before the last begins.
pub ends_before-last : (rs : List RangeValue) (s : RangeValue) → IsCut (rs ++ s ∷ []) → EndBefore s.from rs
ends_before-last [] s h = tt
ends_before-last (r ∷ rs) s h =
    (each-last (λ u. r.to <ℤ u.from) rs s (first_ends r (rs ++ s ∷ []) h), ends_before-last rs s (IsCut-rest r (rs ++ s ∷ []) h))

-- The union of a range and one that does not begin before it does not begin before it.
pub union-begins : (both last range : RangeValue) → IsRange both → ((t : ℤ) → contains both t ≡ (contains last t || contains range t)) → last.from ≤ℤ range.from → last.from ≤ℤ both.from
union-begins both last range h e le =
    let full = h.not_empty in
    let here : contains both both.from ≡ true = grind (arith, ints) in
    elim (or_cases (contains last both.from) (contains range both.from) (sym (e both.from) ∙ here)) [
      | inl in_last ↦ (contains-from last both.from in_last).0
      | inr in_range ↦ let low = (contains-from range both.from in_range).0 in omega (arith, ints)
    ]

or_last : (prefix last range : Bool) → (prefix || (last || range)) ≡ (range || (prefix || last))
or_last prefix last range = grind arith

module _ (rs : List RangeValue) (last both range : RangeValue) (h : IsCut (rs ++ last ∷ [])) (e : (t : ℤ) → contains both t ≡ (contains last t || contains range t)) where
  pub with_last-cut : IsRange both → last.from ≤ℤ range.from → IsCut rs → IsCut (rs ++ both ∷ [])
  with_last-cut k le c =
      IsCut-push rs both c k (ends_before-rest last.from both.from rs (union-begins both last range k e le) (ends_before-last rs last h))

  pub with_last-times : (t : ℤ) → covered (rs ++ both ∷ []) t ≡ (contains range t || covered (rs ++ last ∷ []) t)
  with_last-times t =
      covered-push rs both t
      ∙ ap (λ s. covered rs t || s) (e t)
      ∙ or_last (covered rs t) (contains last t) (contains range t)
      ∙ ap (λ c. contains range t || c) (sym (covered-push rs last t))

-- ---- by the index of the last

module _ (rs : List RangeValue) (n : ℕ) (is_last : n + 1 ≡ length rs) where
  split-last : (last : RangeValue) → last ≡ get_or rs n last → rs ≡ take n rs ++ last ∷ []
  split-last last is =
      sym (take_all (n + 1) rs (omega arith)) ∙ take_more rs n last (omega arith) ∙ ap (λ s. take n rs ++ s ∷ []) (sym is)

  set-last : (both : RangeValue) → set rs n both ≡ take n rs ++ both ∷ []
  set-last both = set_split rs n both (omega arith) ∙ ap (λ s. take n rs ++ both ∷ s) (drop_all (suc n) rs (omega arith))

  module _ (last both range : RangeValue) (is : last ≡ get_or rs n last) (h : IsCut rs) (e : (t : ℤ) → contains both t ≡ (contains last t || contains range t)) where
    pub set_last-cut : IsRange both → last.from ≤ℤ range.from → IsCut (set rs n both)
    set_last-cut k le =
        subst IsCut (sym (set-last both)) (with_last-cut (take n rs) last both range (subst IsCut (split-last last is) h) e k le (IsCut-take n rs h))

    pub set_last-times : (t : ℤ) → covered (set rs n both) t ≡ (contains range t || covered rs t)
    set_last-times t =
        ap (λ s. covered s t) (set-last both)
        ∙ with_last-times (take n rs) last both range (subst IsCut (split-last last is) h) e t
        ∙ ap (λ s. contains range t || covered s t) (sym (split-last last is))
