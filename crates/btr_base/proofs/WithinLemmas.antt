-- Lemmas on the points of a bag from a time up to, and without, another.
use Rattle.std.specs.Prelude.{◌≡◌, ℤ, Bool, true, false, not, ◌&&◌, int_le, int_lt, ◌≤ℤ◌, ◌<ℤ◌, List, [], ◌∷◌, ◌++◌, cond, IsTrue}
use Rattle.std.specs.List.{filter, AllByRecursion}
use Rattle.std.proofs.Common.{refl, sym, ap, ◌∙◌, arith}
use Rattle.std.proofs.lemmas.Int.{ints, by_lt_z}
use Rattle.btr_base.specs.declared.point.Point.{Point}
use Rattle.btr_base.specs.Point.{is_not_after}
use Rattle.btr_base.specs.Range.{RangeValue, covered}
use Rattle.btr_base.specs.Bag.{IsInOrder, sort, outside, within, is_within}
use Rattle.btr_base.proofs.ListLemmas.{each-weaker, filter-append, filter-filter, filter-swap, filter-same}
use Rattle.btr_base.proofs.PointLemmas.{is_not_after-times, filter-sort, filter-in_order}

-- ---- points between two times

pub within-sort : (from to : ℤ) (b : List Point) → within from to (sort b) ≡ sort (within from to b)
within-sort from to b = filter-sort (is_within from to) b

pub within-append : (from to : ℤ) (a b : List Point) → within from to (a ++ b) ≡ within from to a ++ within from to b
within-append from to a b = filter-append (is_within from to) a b

pub within-outside : (from to : ℤ) (b : List Point) (rs : List RangeValue) → within from to (outside b rs) ≡ outside (within from to b) rs
within-outside from to b rs = filter-swap (is_within from to) (λ p. not (covered rs p.time)) b

pub within-after : (from to : ℤ) (b : List Point) (rs : List RangeValue) (added : List Point) → within from to (sort (outside b rs ++ added)) ≡ sort (outside (within from to b) rs ++ within from to added)
within-after from to b rs added =
    within-sort from to (outside b rs ++ added)
    ∙ ap sort (within-append from to (outside b rs) added ∙ ap (λ c. c ++ within from to added) (within-outside from to b rs))

nested : (a b c d t : ℤ) → a ≤ℤ c → d ≤ℤ b → ((int_le a t && int_lt t b) && (int_le c t && int_lt t d)) ≡ (int_le c t && int_lt t d)
nested a b c d t h k = grind (arith, ints)

pub within-nested : (a b c d : ℤ) (xs : List Point) → a ≤ℤ c → d ≤ℤ b → within c d (within a b xs) ≡ within c d xs
within-nested a b c d xs h k =
    filter-filter (is_within c d) (is_within a b) xs
    ∙ filter-same (λ p. is_within a b p && is_within c d p) (is_within c d) xs (λ p. nested a b c d p.time h k)

before-mid : (a b m t : ℤ) → m ≤ℤ b → ((int_le a t && int_lt t b) && int_lt t m) ≡ (int_le a t && int_lt t m)
before-mid a b m t k = grind (arith, ints)

from-mid : (a b m t : ℤ) → a ≤ℤ m → ((int_le a t && int_lt t b) && int_le m t) ≡ (int_le m t && int_lt t b)
from-mid a b m t h = grind (arith, ints)

pub within-before : (a b m : ℤ) (xs : List Point) → m ≤ℤ b → filter (λ p. int_lt p.time m) (within a b xs) ≡ within a m xs
within-before a b m xs k =
    filter-filter (λ p. int_lt p.time m) (is_within a b) xs
    ∙ filter-same (λ p. is_within a b p && int_lt p.time m) (is_within a m) xs (λ p. before-mid a b m p.time k)

pub within-from : (a b m : ℤ) (xs : List Point) → a ≤ℤ m → filter (λ p. int_le m p.time) (within a b xs) ≡ within m b xs
within-from a b m xs h =
    filter-filter (λ p. int_le m p.time) (is_within a b) xs
    ∙ filter-same (λ p. is_within a b p && int_le m p.time) (is_within m b) xs (λ p. from-mid a b m p.time h)

pub within-empty : (a : ℤ) (xs : List Point) → within a a xs ≡ []
within-empty a [] = refl
within-empty a (p ∷ xs) =
    let out : is_within a a p ≡ false = grind (arith, ints) in
    ap (λ t. cond t (p ∷ within a a xs) (within a a xs)) out ∙ within-empty a xs

pub within-behind : (a b : ℤ) (xs : List Point) → AllByRecursion (λ q. b ≤ℤ q.time) xs → within a b xs ≡ []
within-behind a b [] h = refl
within-behind a b (p ∷ xs) h =
    let late = h.0 in
    let out : is_within a b p ≡ false = grind (arith, ints) in
    ap (λ t. cond t (p ∷ within a b xs) (within a b xs)) out ∙ within-behind a b xs h.1

pub within-all : (a b : ℤ) (xs : List Point) → AllByRecursion (λ q. (a ≤ℤ q.time) × (q.time <ℤ b)) xs → within a b xs ≡ xs
within-all a b [] h = refl
within-all a b (p ∷ xs) h =
    let low = h.0.0 in
    let high = h.0.1 in
    let here : is_within a b p ≡ true = grind (arith, ints) in
    ap (λ t. cond t (p ∷ within a b xs) (within a b xs)) here ∙ ap (λ c. p ∷ c) (within-all a b xs h.1)

pub within-in_order : (a b : ℤ) (xs : List Point) → IsInOrder xs → IsInOrder (within a b xs)
within-in_order a b xs h = filter-in_order (is_within a b) xs h

cond-append : {X : Type 0} (t : Bool) (x : X) (b c : List X) → cond t (x ∷ (b ++ c)) (b ++ c) ≡ cond t (x ∷ b) b ++ c
cond-append t x b c =
    elim t as (λ t. cond t (x ∷ (b ++ c)) (b ++ c) ≡ cond t (x ∷ b) b ++ c) [ true ↦ refl | false ↦ refl ]

late-from : (m : ℤ) (p : Point) (xs : List Point) → m ≤ℤ p.time → IsInOrder (p ∷ xs) → AllByRecursion (λ q. m ≤ℤ q.time) xs
late-from m p xs low order =
    each-weaker (λ q. IsTrue (is_not_after p q)) (λ q. m ≤ℤ q.time) (λ q k. let next = is_not_after-times p q k in omega (arith, ints)) xs order.0

split-early : (a m b : ℤ) (p : Point) (xs : List Point) → m ≤ℤ b → p.time <ℤ m → within a b xs ≡ within a m xs ++ within m b xs → within a b (p ∷ xs) ≡ within a m (p ∷ xs) ++ within m b (p ∷ xs)
split-early a m b p xs k early rest =
    let out : is_within m b p ≡ false = grind (arith, ints) in
    let same : is_within a b p ≡ is_within a m p = grind (arith, ints) in
    let t = is_within a m p in
    ap (λ s. cond s (p ∷ within a b xs) (within a b xs)) same
    ∙ ap (λ c. cond t (p ∷ c) c) rest
    ∙ cond-append t p (within a m xs) (within m b xs)
    ∙ ap (λ s. cond t (p ∷ within a m xs) (within a m xs) ++ cond s (p ∷ within m b xs) (within m b xs)) (sym out)

split-late : (a m b : ℤ) (p : Point) (xs : List Point) → a ≤ℤ m → m ≤ℤ p.time → IsInOrder (p ∷ xs) → within a b xs ≡ within a m xs ++ within m b xs → within a b (p ∷ xs) ≡ within a m (p ∷ xs) ++ within m b (p ∷ xs)
split-late a m b p xs h late order rest =
    let out : is_within a m p ≡ false = grind (arith, ints) in
    let same : is_within a b p ≡ is_within m b p = grind (arith, ints) in
    let none = within-behind a m xs (late-from m p xs late order) in
    let t = is_within m b p in
    let behind : within a b xs ≡ within m b xs = rest ∙ ap (λ c. c ++ within m b xs) none in
    ap (λ s. cond s (p ∷ within a b xs) (within a b xs)) same
    ∙ ap (λ c. cond t (p ∷ c) c) behind
    ∙ ap (λ c. c ++ cond t (p ∷ within m b xs) (within m b xs)) (sym none)
    ∙ ap (λ s. cond s (p ∷ within a m xs) (within a m xs) ++ cond t (p ∷ within m b xs) (within m b xs)) (sym out)

-- The points up to a time, and from it on.
pub within-split : (a m b : ℤ) (xs : List Point) → a ≤ℤ m → m ≤ℤ b → IsInOrder xs → within a b xs ≡ within a m xs ++ within m b xs
within-split a m b [] h k order = refl
within-split a m b (p ∷ xs) h k order =
    let rest = within-split a m b xs h k order.1 in
    by_lt_z p.time m (λ early. split-early a m b p xs k early rest) (λ late. split-late a m b p xs h late order rest)
