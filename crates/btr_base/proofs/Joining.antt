-- The state of the pass that joins one range to a list of ranges.
use Rattle.std.proofs.Common.{◌≡◌, ℤ, ◌<ℤ◌, inl, inr, Bool, true, ◌||◌, List, [], ◌∷◌, ◌++◌, ◌∙◌, refl, sym, ap, arith}
use Rattle.std.proofs.lemmas.Bool.{or_cases}
use Rattle.std.proofs.lemmas.Int.{ints}
use Rattle.btr_base.specs.Range.{RangeValue, IsRange, IsCut, covered, contains}
use Rattle.btr_base.proofs.ListLemmas.{each-weaker}
use Rattle.btr_base.proofs.RangeLemmas.{EndBefore, AllBefore, IsCut-none, all_before-none, IsCut-rest, IsCut-push, first_ends, each-push, all_before-push, covered-push, contains-from}

-- The ranges that are done, the current one and the rest cover the same times as the new range and all ranges.
pub record IsJoining (done : List RangeValue) (current : RangeValue) (rest : List RangeValue) (range : RangeValue) (ranges : List RangeValue) : Type 0 where
  pub done_cut : IsCut done
  pub current_range : IsRange current
  pub rest_cut : IsCut rest
  pub before_current : EndBefore current.from done
  pub before_rest : AllBefore done rest
  pub times : (t : ℤ) → (covered done t || (contains current t || covered rest t)) ≡ (contains range t || covered ranges t)

or_skip : (d n c m : Bool) → ((d || n) || (c || m)) ≡ (d || (c || (n || m)))
or_skip d n c m = grind arith

or_close : (d c n m : Bool) → ((d || c) || (n || m)) ≡ (d || (c || (n || m)))
or_close d c n m = grind arith

or_union : (d c n m : Bool) → (d || ((c || n) || m)) ≡ (d || (c || (n || m)))
or_union d c n m = grind arith

module _ (done : List RangeValue) (current next : RangeValue) (rest : List RangeValue) (range : RangeValue) (ranges : List RangeValue) (h : IsJoining done current (next ∷ rest) range ranges) where
  pub joining-skip : next.to <ℤ current.from → IsJoining (done ++ next ∷ []) current rest range ranges
  joining-skip lt =
      record {
        done_cut = IsCut-push done next h.done_cut h.rest_cut.each.0 h.before_rest.0;
        current_range = h.current_range;
        rest_cut = IsCut-rest next rest h.rest_cut;
        before_current = each-push (λ r. r.to <ℤ current.from) done next h.before_current lt;
        before_rest = all_before-push done rest next h.before_rest.1 (first_ends next rest h.rest_cut);
        times = λ t. ap (λ d. d || (contains current t || covered rest t)) (covered-push done next t) ∙ or_skip (covered done t) (contains next t) (contains current t) (covered rest t) ∙ h.times t;
      }

  pub joining-close : current.to <ℤ next.from → IsJoining (done ++ current ∷ []) next rest range ranges
  joining-close lt =
      let full = h.rest_cut.each.0.not_empty in
      record {
        done_cut = IsCut-push done current h.done_cut h.current_range h.before_current;
        current_range = h.rest_cut.each.0;
        rest_cut = IsCut-rest next rest h.rest_cut;
        before_current = each-push (λ r. r.to <ℤ next.from) done current h.before_rest.0 lt;
        before_rest = all_before-push done rest current h.before_rest.1 (each-weaker (λ s. next.to <ℤ s.from) (λ s. current.to <ℤ s.from) (λ s k. omega (arith, ints)) rest (first_ends next rest h.rest_cut));
        times = λ t. ap (λ d. d || (contains next t || covered rest t)) (covered-push done current t) ∙ or_close (covered done t) (contains current t) (contains next t) (covered rest t) ∙ h.times t;
      }

  both_before : (both : RangeValue) → IsRange both → ((t : ℤ) → contains both t ≡ (contains current t || contains next t)) → EndBefore both.from done
  both_before both k e =
      let full = k.not_empty in
      let here : contains both both.from ≡ true = grind (arith, ints) in
      elim (or_cases (contains current both.from) (contains next both.from) (sym (e both.from) ∙ here)) [
        | inl in_current ↦ let low = (contains-from current both.from in_current).0 in each-weaker (λ r. r.to <ℤ current.from) (λ r. r.to <ℤ both.from) (λ r j. omega (arith, ints)) done h.before_current
        | inr in_next ↦ let low = (contains-from next both.from in_next).0 in each-weaker (λ r. r.to <ℤ next.from) (λ r. r.to <ℤ both.from) (λ r j. omega (arith, ints)) done h.before_rest.0
      ]

  pub joining-union : (both : RangeValue) → IsRange both → ((t : ℤ) → contains both t ≡ (contains current t || contains next t)) → IsJoining done both rest range ranges
  joining-union both k e =
      record {
        done_cut = h.done_cut;
        current_range = k;
        rest_cut = IsCut-rest next rest h.rest_cut;
        before_current = both_before both k e;
        before_rest = h.before_rest.1;
        times = λ t. ap (λ c. covered done t || (c || covered rest t)) (e t) ∙ or_union (covered done t) (contains current t) (contains next t) (covered rest t) ∙ h.times t;
      }

module _ (done : List RangeValue) (current range : RangeValue) (ranges : List RangeValue) (h : IsJoining done current [] range ranges) where
  pub joined-cut : IsCut (done ++ current ∷ [])
  joined-cut = IsCut-push done current h.done_cut h.current_range h.before_current

pub joining-start : (range : RangeValue) (ranges : List RangeValue) → IsRange range → IsCut ranges → IsJoining [] range ranges range ranges
joining-start range ranges h k =
    record {
      done_cut = IsCut-none;
      current_range = h;
      rest_cut = k;
      before_current = tt;
      before_rest = all_before-none ranges;
      times = λ t. refl;
    }
