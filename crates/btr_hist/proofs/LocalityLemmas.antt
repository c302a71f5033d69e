-- Lemmas on functions of two inputs that depend on nothing but the times that they look at: at times that are not affected by a
-- change they give the same.
use Rattle.std.specs.Prelude.{◌≡◌, ℕ, ◌+◌, ◌≤◌, ℤ, Bool, true, false, not, ◌&&◌, ◌||◌, List, [], ◌∷◌, ◌++◌, map, cond}
use Rattle.std.specs.List.{filter, AllByRecursion}
use Rattle.std.specs.Ordering.{int_eq}
use Rattle.std.proofs.Common.{refl, sym, ap, ◌∙◌, arith}
use Rattle.std.proofs.lemmas.Bool.{both_ways, or_parts, or_right, not-true, false_from_ne_true}
use Rattle.std.proofs.lemmas.Int.{ints}
use Rattle.btr_base.specs.declared.point.Point.{Point}
use Rattle.btr_base.specs.Point.{in_domain, InDomain, AreInDomain}
use Rattle.btr_base.specs.Range.{RangeValue, IsRange, contains, covered}
use Rattle.btr_base.specs.Bag.{IsInOrder, sort, copies}
use Rattle.btr_base.specs.Changes.{points_at, changes}
use Rattle.btr_base.specs.Commit.{after}
use Rattle.btr_base.specs.Cut.{union}
use Rattle.btr_base.proofs.ListLemmas.{each-append, filter-filter, filter-same}
use Rattle.btr_base.proofs.PointLemmas.{filter-in_order, copies-append, copies-filter, copies-filter_kept, same_from-copies, sort-same, sort-of_order}
use Rattle.btr_base.proofs.RangeLemmas.{covered-append}
use Rattle.btr_base.proofs.ChangesLemmas.{changes-cut, changes-unchanged}
use Rattle.btr_base.proofs.CutLemmas.{union-covered}
use Rattle.btr_hist.specs.Distil.{Inputs, AreBags, DependsOn, IsWidened}

-- ---- two bags with the same points at some times

time-itself : (t : ℤ) → int_eq t t ≡ true
time-itself t = grind (arith, ints)

copies-at : (p : Point) (b : List Point) → copies p b ≡ copies p (points_at p.time b)
copies-at p b = sym (copies-filter_kept (λ q. int_eq q.time p.time) p b (time-itself p.time))

-- Two bags in order that have the same points at each time that passes a test have the same points at these times together.
pub filter-agree : (f : ℤ → Bool) (a b : List Point) → IsInOrder a → IsInOrder b → ((u : ℤ) → f u ≡ true → points_at u a ≡ points_at u b) → filter (λ p. f p.time) a ≡ filter (λ p. f p.time) b
filter-agree f a b h k same =
    let test = λ (p : Point). f p.time in
    same_from-copies (filter test a) (filter test b) (filter-in_order test a h) (filter-in_order test b k) (λ p.
    copies-filter test p a
    ∙ elim (f p.time) as (λ s. f p.time ≡ s → cond s (copies p a) 0 ≡ cond s (copies p b) 0) [
      | true ↦ λ e. copies-at p a ∙ ap (copies p) (same p.time e) ∙ sym (copies-at p b)
      | false ↦ λ _. refl
    ] refl
    ∙ sym (copies-filter test p b))

same-time : (t u : ℤ) → int_eq u t ≡ true → u ≡ t
same-time t u h = grind (arith, ints)

fails-both : (s : Bool) → (s && false) ≡ false
fails-both true = refl
fails-both false = refl

-- A test that holds at a time holds of each time that is this one.
also-passes : (f : ℤ → Bool) (t u : ℤ) → f t ≡ true → (f u && int_eq u t) ≡ int_eq u t
also-passes f t u here =
    elim (int_eq u t) as (λ s. int_eq u t ≡ s → (f u && s) ≡ s) [
      | true ↦ λ e. ap (λ s. s && true) (ap f (same-time t u e) ∙ here)
      | false ↦ λ _. fails-both (f u)
    ] refl

-- Two bags that have the same points at some times have the same points at one of these.
pub points_at-agree : (f : ℤ → Bool) (t : ℤ) (a b : List Point) → f t ≡ true → filter (λ p. f p.time) a ≡ filter (λ p. f p.time) b → points_at t a ≡ points_at t b
points_at-agree f t a b here same =
    let kept = λ (l : List Point). filter-filter (λ p. int_eq p.time t) (λ p. f p.time) l ∙ filter-same (λ p. f p.time && int_eq p.time t) (λ p. int_eq p.time t) l (λ p. also-passes f t p.time here) in
    sym (kept a) ∙ ap (points_at t) same ∙ kept b

-- ---- times outside the domain

other-outside : (q : Point) (t : ℤ) → InDomain q.time → in_domain t ≡ false → int_eq q.time t ≡ false
other-outside q t h out =
    let low = h.0 in
    let high = h.1 in
    grind (arith, ints)

-- A bag of the domain has no points at a time outside it.
none-outside : (b : List Point) (t : ℤ) → AreInDomain b → in_domain t ≡ false → points_at t b ≡ []
none-outside [] t h out = refl
none-outside (p ∷ b) t h out =
    ap (λ s. cond s (p ∷ points_at t b) (points_at t b)) (other-outside p t h.0 out) ∙ none-outside b t h.1 out

inside-test : (t : ℤ) → in_domain t ≡ true → InDomain t
inside-test t h = (grind (arith, ints), grind (arith, ints))

-- ---- changes that are widened

-- The times at which an input differs, widened.
abbrev pub affected_by : (RangeValue → RangeValue) → ℕ → Inputs → Inputs → List RangeValue
affected_by widen p old new = union (map widen (changes p old.first new.first ++ changes p old.second new.second))

pub widened-each : (looks : ℤ → ℤ → Bool) (widen : RangeValue → RangeValue) (rs : List RangeValue) → IsWidened looks widen → AllByRecursion IsRange rs → AllByRecursion IsRange (map widen rs)
widened-each looks widen [] is h = tt
widened-each looks widen (r ∷ rs) is h = (is.is_range r h.0, widened-each looks widen rs is h.1)

widened-covered : (looks : ℤ → ℤ → Bool) (widen : RangeValue → RangeValue) (rs : List RangeValue) (t u : ℤ) → IsWidened looks widen → AllByRecursion IsRange rs → covered rs u ≡ true → looks t u ≡ true → InDomain t → covered (map widen rs) t ≡ true
widened-covered looks widen [] t u is h inside seen domain = absurd (both_ways false refl inside)
widened-covered looks widen (r ∷ rs) t u is h inside seen domain =
    let rest = covered (map widen rs) t in
    elim (contains r u) as (λ s. contains r u ≡ s → covered (map widen (r ∷ rs)) t ≡ true) [
      | true ↦ λ here. ap (λ s. s || rest) (is.contained r t u h.0 here seen domain)
      | false ↦ λ other.
          let later : covered rs u ≡ true = sym (ap (λ s. s || covered rs u) other) ∙ inside in
          or_right (contains (widen r) t) rest (widened-covered looks widen rs t u is h.1 later seen domain)
    ] refl

-- The old and the new inputs, and the times at which what looks at these times may differ.
module _ (looks : ℤ → ℤ → Bool) (widen : RangeValue → RangeValue) (p : ℕ) (old new : Inputs) (is : IsWidened looks widen) (low : p ≤ 62) (h : AreBags old) (k : AreBags new) where
  abbrev cut : List RangeValue
  cut = affected_by widen p old new

  abbrev first : List RangeValue
  first = changes p old.first new.first

  abbrev second : List RangeValue
  second = changes p old.second new.second

  each-range : AllByRecursion IsRange (first ++ second)
  each-range =
      each-append IsRange first second (changes-cut p old.first new.first low).each (changes-cut p old.second new.second low).each

  -- If a time is not affected, the inputs have the same points at each time that it looks at.
  unaffected : (t u : ℤ) → covered cut t ≡ false → looks t u ≡ true → InDomain t → (points_at u old.first ≡ points_at u new.first) × (points_at u old.second ≡ points_at u new.second)
  unaffected t u out seen inside =
      let all = union-covered (map widen (first ++ second)) t (widened-each looks widen (first ++ second) is each-range) in
      let none = false_from_ne_true (covered (first ++ second) u) (λ e. both_ways (covered (map widen (first ++ second)) t) (sym all ∙ out) (widened-covered looks widen (first ++ second) t u is each-range e seen inside)) in
      let both = or_parts (covered first u) (covered second u) (sym (covered-append first second u) ∙ none) in
      (changes-unchanged p old.first new.first u low h.first_in_domain k.first_in_domain both.0, changes-unchanged p old.second new.second u low h.second_in_domain k.second_in_domain both.1)

  -- What depends on nothing but the times that it looks at has the same points at a time that is not affected.
  pub point-outside : (f : Inputs → List Point) → DependsOn looks f → AreInDomain (f old) → AreInDomain (f new) → (t : ℤ) → covered cut t ≡ false → points_at t (f old) ≡ points_at t (f new)
  point-outside f depends of_old of_new t out =
      elim (in_domain t) as (λ s. in_domain t ≡ s → points_at t (f old) ≡ points_at t (f new)) [
        | true ↦ λ e.
            let inside = inside-test t e in
            depends t old new h k (filter-agree (looks t) old.first new.first h.first_in_order k.first_in_order (λ u seen. (unaffected t u out seen inside).0)) (filter-agree (looks t) old.second new.second h.second_in_order k.second_in_order (λ u seen. (unaffected t u out seen inside).1))
        | false ↦ λ e. none-outside (f old) t of_old e ∙ sym (none-outside (f new) t of_new e)
      ] refl

-- ---- the commit that replaces the points at the affected times

either-copies : (t : Bool) (n : ℕ) → cond (not t) n 0 + cond t n 0 ≡ n
either-copies true n = omega arith
either-copies false n = omega arith

-- The points that fail a test and those that pass it, in order, are all of them.
pub sort-both : (g : Point → Bool) (b : List Point) → IsInOrder b → sort (filter (λ q. not (g q)) b ++ filter g b) ≡ b
sort-both g b h =
    let fail = λ (q : Point). not (g q) in
    sort-same (filter fail b ++ filter g b) b (λ q.
    copies-append q (filter fail b) (filter g b)
    ∙ ap (λ n. n + copies q (filter g b)) (copies-filter fail q b)
    ∙ ap (λ n. cond (fail q) (copies q b) 0 + n) (copies-filter g q b)
    ∙ either-copies (g q) (copies q b))
    ∙ sort-of_order b h

-- The points are a bag of the domain.
pub record IsBag (b : List Point) : Type 0 where
  pub in_order : IsInOrder b
  pub in_domain : AreInDomain b

-- What depends on nothing but the times that it looks at: its points of the new inputs are those of the old ones after the commit
-- that replaces the points at the affected times.
pub local-right : (looks : ℤ → ℤ → Bool) (widen : RangeValue → RangeValue) (f : Inputs → List Point) (p : ℕ) (old new : Inputs) → IsWidened looks widen → DependsOn looks f → p ≤ 62 → AreBags old → AreBags new → IsBag (f old) → IsBag (f new) → after (f old) (record { cut = affected_by widen p old new; added = filter (λ q. covered (affected_by widen p old new) q.time) (f new) }) ≡ f new
local-right looks widen f p old new is depends low h k of_old of_new =
    let cut = affected_by widen p old new in
    let same = filter-agree (λ u. not (covered cut u)) (f old) (f new) of_old.in_order of_new.in_order (λ u out. point-outside looks widen p old new is low h k f depends of_old.in_domain of_new.in_domain u (not-true (covered cut u) out)) in
    ap (λ b. sort (b ++ filter (λ q. covered cut q.time) (f new))) same
    ∙ sort-both (λ q. covered cut q.time) (f new) of_new.in_order
