use Rattle.std.proofs.Common.{◌≡◌, ◌<◌, ◌≤◌, ℤ, pos, ◌+ℤ◌, false, cond, List, [], ◌∷◌, length, refl, sym, ap, subst, arith}
use Rattle.std.specs.Prelude.{Some, None, IsTrue, slice_get, ◌≤ℤ◌, not, int_lt}
use Rattle.std.specs.List.{AllByRecursion}
use Rattle.std.proofs.lemmas.Int.{ints, clamps, by_lt_z}
use Rattle.std.specs.Int.{int_min}
use Rattle.btr_base.specs.declared.point.Point.{Point}
use Rattle.btr_base.specs.Point.{InDomain, is_not_after, AreInDomain}
use Rattle.btr_base.specs.Bag.{IsInOrder}
use Rattle.btr_base.proofs.ListLemmas.{each-weaker, length-filter}
use Rattle.btr_base.proofs.PointLemmas.{is_not_after-times}
use Rattle.btr_diff.specs.Comparison.{IsFirstTime, rest_from}
use Rattle.btr_diff.proofs.points.first_time.Goals as goal

-- The first point of a list in order.
record HasFirst (b : List Point) (q : Point) : Type 0 where
  from : AllByRecursion (λ r. q.time ≤ℤ r.time) b
  inside : AreInDomain b → InDomain q.time
  fewer : (t : ℤ) → q.time ≡ t → length (rest_from (t +ℤ pos 1) b) < length b

has-first : (b : List Point) (q : Point) → IsInOrder b → Some q ≡ slice_get b 0 → HasFirst b q
has-first [] q order e = cc
has-first (r ∷ b) q order e =
    let same : q ≡ r = cc in
    let at : HasFirst (r ∷ b) r = record {
      from = (omega (arith, ints), each-weaker (λ s. IsTrue (is_not_after r s)) (λ s. r.time ≤ℤ s.time) (λ s k. is_not_after-times r s k) b order.0);
      inside = λ h. h.0;
      fewer = λ t u.
          let gone : not (int_lt r.time (t +ℤ pos 1)) ≡ false = grind (arith, ints) in
          let rest = length-filter (λ s. not (int_lt s.time (t +ℤ pos 1))) b in
          let first = ap (λ g. length (cond g (r ∷ rest_from (t +ℤ pos 1) b) (rest_from (t +ℤ pos 1) b))) gone in
          omega arith;
    } in
    subst (HasFirst (r ∷ b)) (sym same) at

empty-is : (b : List Point) → None ≡ slice_get b 0 → b ≡ []
empty-is [] e = refl
empty-is (q ∷ b) e = cc

no-later : (t u : ℤ) (b : List Point) → t ≤ℤ u → AllByRecursion (λ r. u ≤ℤ r.time) b → AllByRecursion (λ r. t ≤ℤ r.time) b
no-later t u b low h = each-weaker (λ r. u ≤ℤ r.time) (λ r. t ≤ℤ r.time) (λ r k. omega (arith, ints)) b h

no-more : (t : ℤ) (b : List Point) → length (rest_from t b) ≤ length b
no-more t b = length-filter (λ q. not (int_lt q.time t)) b

-- The first point of the first list is no later than that of the second.
first-left : (t : ℤ) (a b : List Point) (q : Point) → t ≡ q.time → HasFirst a q → AllByRecursion (λ r. q.time ≤ℤ r.time) b → IsFirstTime t a b
first-left t a b q e h low =
    let fewer = h.fewer t (sym e) in
    let rest = no-more (t +ℤ pos 1) b in
    record {
      a_from = no-later t q.time a (omega (arith, ints)) h.from;
      b_from = no-later t q.time b (omega (arith, ints)) low;
      inside = λ x y. subst InDomain (sym e) (h.inside x);
      fewer = omega arith;
    }

first-right : (t : ℤ) (a b : List Point) (q : Point) → t ≡ q.time → HasFirst b q → AllByRecursion (λ r. q.time ≤ℤ r.time) a → IsFirstTime t a b
first-right t a b q e h low =
    let fewer = h.fewer t (sym e) in
    let rest = no-more (t +ℤ pos 1) a in
    record {
      a_from = no-later t q.time a (omega (arith, ints)) low;
      b_from = no-later t q.time b (omega (arith, ints)) h.from;
      inside = λ x y. subst InDomain (sym e) (h.inside y);
      fewer = omega arith;
    }

first-both : (t : ℤ) (a b : List Point) (q r : Point) → t ≡ int_min q.time r.time → HasFirst a q → HasFirst b r → IsFirstTime t a b
first-both t a b q r e h k =
    by_lt_z q.time r.time (λ low. first-left t a b q (grind (arith, ints, clamps)) h (no-later q.time r.time b (omega (arith, ints)) k.from)) (λ high. first-right t a b r (grind (arith, ints, clamps)) k (no-later r.time q.time a (omega (arith, ints)) h.from))

pub returns-in-None-Some : goal.returns-in-None-Some
returns-in-None-Some c =
    let none = empty-is c.args.a.now c.in-None-Some.ensures.value in
    let q = c.in-None-Some.b.now in
    let first = has-first c.args.b.now q c.requires.b c.in-None-Some.ensures'.value in
    first-right _ c.args.a.now c.args.b.now q (omega (arith, ints)) first (subst (AllByRecursion (λ r. q.time ≤ℤ r.time)) (sym none) tt)

pub returns-in-Some-None : goal.returns-in-Some-None
returns-in-Some-None c =
    let none = empty-is c.args.b.now c.in-Some-None.ensures'.value in
    let q = c.in-Some-None.a.now in
    let first = has-first c.args.a.now q c.requires.a c.in-Some-None.ensures.value in
    first-left _ c.args.a.now c.args.b.now q (omega (arith, ints)) first (subst (AllByRecursion (λ r. q.time ≤ℤ r.time)) (sym none) tt)

pub returns-in-Some-Some : goal.returns-in-Some-Some
returns-in-Some-Some c =
    let q = c.in-Some-Some.a.now in
    let r = c.in-Some-Some.b.now in
    let h = has-first c.args.a.now q c.requires.a c.in-Some-Some.ensures.value in
    let k = has-first c.args.b.now r c.requires.b c.in-Some-Some.ensures'.value in
    first-both _ c.args.a.now c.args.b.now q r (omega (arith, ints, clamps)) h k
