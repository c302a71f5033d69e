-- Lemmas on bottom spans in a list in order, in which the points of one span are neighbours.
use Rattle.std.specs.Prelude.{◌≡◌, ℕ, ℤ, pos, ◌+◌, ◌+ℤ◌, ◌≤◌, ◌<◌, ◌≤ℤ◌, ◌<ℤ◌, nat_lt, int_lt, Bool, true, false, List, [], ◌∷◌, ◌++◌, length, drop, take, get_or, cond, Option, Some, None, IsTrue}
use Rattle.std.specs.List.{find, AllByRecursion}
use Rattle.std.specs.Option.{option_map, option_or}
use Rattle.std.specs.Ordering.{int_eq}
use Rattle.std.proofs.Common.{zero, suc, refl, sym, ap, ◌∙◌, arith, inl, inr, subst}
use Rattle.std.proofs.lemmas.Int.{ints, by_lt_z}
use Rattle.std.proofs.lemmas.List.{drop_more, take_more, take-append-drop, get_or-drop, length-drop, length-append}
use Rattle.std.proofs.lemmas.List.Folds.{find-append}
use Rattle.std.proofs.lemmas.Bool.{cases_lt, ltb-true, ltb-false, lt-ltb, le-ltb}
use Rattle.std.proofs.lemmas.Bool.Decides.{nat_tests}
use Rattle.btr_base.specs.declared.limits.TheConstants.{LEAF_POINTS}
use Rattle.btr_base.specs.declared.point.Point.{Point}
use Rattle.btr_base.specs.Point.{is_not_after}
use Rattle.btr_base.specs.Bag.{IsInOrder, within, is_within}
use Rattle.btr_base.specs.Crowded.{bottom_start, is_crowded, crowded}
use Rattle.btr_base.specs.Span.{width}
use Rattle.btr_base.proofs.CrowdedLemmas.{bottom-around, bottom-same}
use Rattle.btr_base.proofs.ListLemmas.{each-weaker, length-filter}
use Rattle.btr_base.proofs.PointLemmas.{is_not_after-times, drop-in_order, times-rise}
use Rattle.btr_base.proofs.SpanLemmas.{width-bottom}
use Rattle.btr_base.proofs.WithinLemmas.{within-append, within-behind}

-- The first time after the bottom span of a time.
abbrev end_of : ℤ → ℤ
end_of t = bottom_start t +ℤ pos (width 0)

end-is : (t : ℤ) → end_of t ≡ bottom_start t +ℤ pos 4
end-is t = ap (λ (w : ℕ). bottom_start t +ℤ pos w) width-bottom

-- ---- how many points of a list in order lie in a bottom span

-- A later time lies in the bottom span of a time exactly if its bottom span is the same.
same-bottom : (t u : ℤ) → t ≤ℤ u → int_eq (bottom_start t) (bottom_start u) ≡ int_lt u (end_of t)
same-bottom t u h =
    let s = bottom_start t in
    let around = bottom-around t in
    let begins = around.0 in
    let end = end-is t in
    by_lt_z u (end_of t)
    (λ lt.
    let same : bottom_start u ≡ s = bottom-same t u (omega (arith, ints)) (omega (arith, ints)) in
    grind (arith, ints))
    (λ ge.
    let next = bottom-around u in
    let ends = next.1 in
    grind (arith, ints))

next-less : (n m : ℕ) → nat_lt (suc n) (suc m) ≡ nat_lt n m
next-less n m = grind (arith, nat_tests)

-- No point of a list in order lies in a span that ends by the first of them.
within-late : (s e : ℤ) (p : Point) (c : List Point) → IsInOrder (p ∷ c) → int_lt p.time e ≡ false → within s e (p ∷ c) ≡ []
within-late s e p c order k =
    let late : e ≤ℤ p.time = grind (arith, ints) in
    within-behind s e (p ∷ c) (late, each-weaker (λ q. IsTrue (is_not_after p q)) (λ q. e ≤ℤ q.time) (λ q j. let next = is_not_after-times p q j in omega (arith, ints)) c order.0)

-- In a list in order the n-th point, from 0, lies before a time exactly if more than n points do.
crowd-count : (n : ℕ) (c : List Point) (d : Point) (s e : ℤ) → AllByRecursion (λ q. s ≤ℤ q.time) c → IsInOrder c → n < length c → int_lt (get_or c n d).time e ≡ nat_lt n (length (within s e c))
crowd-count n [] d s e low order inside = absurd (omega arith)
crowd-count zero (p ∷ c) d s e low order inside =
    let begins = low.0 in
    let here : is_within s e p ≡ int_lt p.time e = grind (arith, ints) in
    elim (int_lt p.time e) as (λ t. int_lt p.time e ≡ t → t ≡ nat_lt 0 (length (within s e (p ∷ c)))) [
      | true ↦ λ k.
          let some : within s e (p ∷ c) ≡ p ∷ within s e c = ap (λ t. cond t (p ∷ within s e c) (within s e c)) (here ∙ k) in
          sym (ap (λ l. nat_lt 0 (length l)) some ∙ lt-ltb 0 (length (p ∷ within s e c)) (omega arith))
      | false ↦ λ k.
          let none = within-late s e p c order k in
          sym (ap (λ l. nat_lt 0 (length l)) none)
    ] refl
crowd-count (suc n) (p ∷ c) d s e low order inside =
    let begins = low.0 in
    let here : is_within s e p ≡ int_lt p.time e = grind (arith, ints) in
    elim (int_lt p.time e) as (λ t. int_lt p.time e ≡ t → int_lt (get_or c n d).time e ≡ nat_lt (suc n) (length (within s e (p ∷ c)))) [
      | true ↦ λ k.
          let some : within s e (p ∷ c) ≡ p ∷ within s e c = ap (λ t. cond t (p ∷ within s e c) (within s e c)) (here ∙ k) in
          crowd-count n c d s e low.1 order.1 (omega arith) ∙ sym (ap (λ l. nat_lt (suc n) (length l)) some ∙ next-less n (length (within s e c)))
      | false ↦ λ k.
          let none = within-late s e p c order k in
          let rise = times-rise (p ∷ c) 0 (suc n) d order (omega arith) inside in
          let late : int_lt (get_or c n d).time e ≡ false = grind (arith, ints) in
          late ∙ sym (ap (λ l. nat_lt (suc n) (length l)) none ∙ le-ltb (suc n) (length {A = Point} []) (omega arith))
    ] refl

module _ (b : List Point) (i : ℕ) (d : Point) (order : IsInOrder b) (low : i < length b) where
  abbrev point : Point
  point = get_or b i d

  abbrev start : ℤ
  start = bottom_start point.time

  split : drop i b ≡ point ∷ drop (i + 1) b
  split = drop_more b i d low

  rest-in_order : IsInOrder (point ∷ drop (i + 1) b)
  rest-in_order = subst IsInOrder split (drop-in_order i b order)

  rest-from : AllByRecursion (λ q. start ≤ℤ q.time) (drop i b)
  rest-from =
      let begins = (bottom-around point.time).0 in
      subst (AllByRecursion (λ q. start ≤ℤ q.time)) (sym split) (begins, each-weaker (λ q. IsTrue (is_not_after point q)) (λ q. start ≤ℤ q.time) (λ q k. let next = is_not_after-times point q k in omega (arith, ints)) (drop (i + 1) b) rest-in_order.0)

  -- The program's test, if there are enough points.
  pub crowd-at : i + LEAF_POINTS < length b → int_eq start (bottom_start (get_or b (i + LEAF_POINTS) d).time) ≡ is_crowded (drop i b) start
  crowd-at more =
      same-bottom point.time (get_or b (i + LEAF_POINTS) d).time (times-rise b i (i + LEAF_POINTS) d order (omega arith) more)
      ∙ ap (λ (q : Point). int_lt q.time (end_of point.time)) (sym (get_or-drop i b LEAF_POINTS d))
      ∙ crowd-count LEAF_POINTS (drop i b) d start (end_of point.time) rest-from (drop-in_order i b order) (omega (arith, length-drop i b))

  -- There are too few points.
  pub crowd-few : length b ≤ i + LEAF_POINTS → is_crowded (drop i b) start ≡ false
  crowd-few few =
      let fewer = length-filter (is_within start (end_of point.time)) (drop i b) in
      le-ltb LEAF_POINTS (length (within start (end_of point.time) (drop i b))) (omega (arith, length-drop i b))

-- ---- the first crowded point

abbrev test : List Point → Point → Bool
test b p = is_crowded b (bottom_start p.time)

-- If no span of the points before is crowded, no span that contains one of them is.
passed : (b pre : List Point) (t : ℤ) → find (test b) pre ≡ None → 0 < length (within (bottom_start t) (end_of t) pre) → is_crowded b (bottom_start t) ≡ false
passed b [] t none some = absurd (omega arith)
passed b (q ∷ pre) t none some =
    let s = bottom_start t in
    let e = end_of t in
    elim (test b q) as (λ u. test b q ≡ u → cond u (Some q) (find (test b) pre) ≡ None → is_crowded b s ≡ false) [
      | true ↦ λ _ bad. absurd (cc)
      | false ↦ λ fails rest. elim (is_within s e q) as (λ u. is_within s e q ≡ u → is_crowded b s ≡ false) [
        | true ↦ λ in_span.
            let end = end-is t in
            let low : s ≤ℤ q.time = grind (arith, ints) in
            let high : q.time <ℤ e = grind (arith, ints) in
            ap (is_crowded b) (sym (bottom-same t q.time low (omega (arith, ints)))) ∙ fails
        | false ↦ λ out.
            let less : within s e (q ∷ pre) ≡ within s e pre = ap (λ u. cond u (q ∷ within s e pre) (within s e pre)) out in
            passed b pre t rest (subst (λ (l : List Point). 0 < length l) less some)
      ] refl
    ] refl none

find-first : (test : Point → Bool) (p : Point) (c : List Point) → test p ≡ true → find test (p ∷ c) ≡ Some p
find-first test p c h = ap {A = Bool} {B = Option Point} (λ t. cond t (Some p) (find test c)) h

find-last : (test : Point → Bool) (pre : List Point) (p : Point) → find test pre ≡ None → test p ≡ false → find test (pre ++ p ∷ []) ≡ None
find-last test pre p h k = find-append test pre (p ∷ []) ∙ ap {A = Option Point} {B = Option Point} (λ o. option_or o (find test (p ∷ []))) h ∙ ap {A = Bool} {B = Option Point} (λ t. cond t (Some p) None) k

both-parts : (b : List Point) (i : ℕ) (s e : ℤ) → length (within s e b) ≡ length (within s e (take i b)) + length (within s e (drop i b))
both-parts b i s e =
    ap (λ c. length (within s e c)) (sym (take-append-drop i b))
    ∙ ap (length {A = Point}) (within-append s e (take i b) (drop i b))
    ∙ length-append (within s e (take i b)) (within s e (drop i b))

-- No point so far is crowded, and this one is from here on: it is the first.
pub crowded-found : (b : List Point) (i : ℕ) (d : Point) → i < length b → find (test b) (take i b) ≡ None → is_crowded (drop i b) (bottom_start (get_or b i d).time) ≡ true → crowded b ≡ Some (bottom_start (get_or b i d).time)
crowded-found b i d low none here =
    let p = get_or b i d in
    let s = bottom_start p.time in
    let e = end_of p.time in
    let parts = both-parts b i s e in
    let many : LEAF_POINTS < length (within s e (drop i b)) = ltb-true LEAF_POINTS (length (within s e (drop i b))) here in
    let yes : test b p ≡ true = lt-ltb LEAF_POINTS (length (within s e b)) (omega arith) in
    let found : find (test b) (drop i b) ≡ Some p = ap (find (test b)) (drop_more b i d low) ∙ find-first (test b) p (drop (i + 1) b) yes in
    let all : find (test b) b ≡ Some p =
    ap (find (test b)) (sym (take-append-drop i b)) ∙ find-append (test b) (take i b) (drop i b) ∙ ap {A = Option Point} {B = Option Point} (λ o. option_or o (find (test b) (drop i b))) none ∙ found in
    ap (option_map (λ (q : Point). bottom_start q.time)) all

-- No point so far is crowded, and this one is not from here on: none up to it is.
pub crowded-passed : (b : List Point) (i : ℕ) (d : Point) → i < length b → find (test b) (take i b) ≡ None → is_crowded (drop i b) (bottom_start (get_or b i d).time) ≡ false → find (test b) (take (i + 1) b) ≡ None
crowded-passed b i d low none here =
    let p = get_or b i d in
    let s = bottom_start p.time in
    let e = end_of p.time in
    let parts = both-parts b i s e in
    let few : length (within s e (drop i b)) ≤ LEAF_POINTS = ltb-false LEAF_POINTS (length (within s e (drop i b))) here in
    let no : test b p ≡ false =
    elim (cases_lt 0 (length (within s e (take i b)))) [
      | inl some ↦ passed b (take i b) p.time none some
      | inr none_before ↦ le-ltb LEAF_POINTS (length (within s e b)) (omega arith)
    ] in
    ap (find (test b)) (take_more b i d low) ∙ find-last (test b) (take i b) p none no
