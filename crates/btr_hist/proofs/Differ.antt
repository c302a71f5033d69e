-- Lemmas on the times at which two lists of points differ, and on the slots around them.
use Rattle.std.specs.Prelude.{◌≡◌, ℕ, ◌+◌, ◌<◌, ◌≤◌, ℤ, pos, ◌+ℤ◌, int_le, int_lt, Bool, true, false, not, ◌&&◌, ◌||◌, List, [], ◌∷◌, ◌++◌, length, take, get_or, cond}
use Rattle.std.specs.List.{filter, list_any}
use Rattle.std.specs.Ordering.{int_eq}
use Rattle.std.specs.Cmp.Lexicographic.{pointwise}
use Rattle.std.proofs.Common.{refl, sym, ap, ◌∙◌, arith, subst}
use Rattle.std.proofs.Math.Bool.{or-false, or_comm, and_comm}
use Rattle.std.proofs.lemmas.List.Folds.{list_any-append}
use Rattle.std.proofs.lemmas.Int.{ints}
use Rattle.std.proofs.lemmas.List.{take_more, take_all}
use Rattle.std.proofs.lemmas.List.Elements.{All-from_recursion}
use Rattle.btr_base.specs.declared.limits.TheConstants.{FIRST, END}
use Rattle.btr_base.specs.declared.point.Point.{Point}
use Rattle.btr_base.specs.Point.{same_point, InDomain}
use Rattle.btr_base.specs.Range.{RangeValue, IsCut, contains, covered}
use Rattle.btr_base.specs.Bag.{sort, within, is_within}
use Rattle.btr_base.specs.Changes.{points_at, same_points, differ_at, changed, slot_around, changes}
use Rattle.btr_base.proofs.RangeLemmas.{same_from-covered}
use Rattle.btr_base.proofs.ListLemmas.{each-weaker, filter-append, filter-filter, filter-passes, filter-same}
use Rattle.btr_base.proofs.ChangesLemmas.{changes-cut, changes-covered}

-- ---- the points of one time

pointwise-is : (a b : List Point) → pointwise same_point a b ≡ same_points a b
pointwise-is [] [] = refl
pointwise-is [] (q ∷ b) = refl
pointwise-is (p ∷ a) [] = refl
pointwise-is (p ∷ a) (q ∷ b) = ap (λ t. same_point p q && t) (pointwise-is a b)

one-time : (t u : ℤ) → (int_le t u && int_lt u (t +ℤ pos 1)) ≡ int_eq u t
one-time t u = grind (arith, ints)

-- The points from a time up to the next one are those of that time.
pub points-time : (t n : ℤ) (b : List Point) → n ≡ t +ℤ pos 1 → within t n b ≡ points_at t b
points-time t n b is =
    ap (λ z. within t z b) is ∙ filter-same (is_within t (t +ℤ pos 1)) (λ p. int_eq p.time t) b (λ p. one-time t p.time)

pub differ-is : (t : ℤ) (r : Bool) (a b x y : List Point) → r ≡ not (pointwise same_point x y) → x ≡ points_at t a → y ≡ points_at t b → r ≡ differ_at a b t
differ-is t r a b x y is left right =
    is
    ∙ ap not (pointwise-is x y)
    ∙ ap (λ z. not (same_points z y)) left
    ∙ ap (λ z. not (same_points (points_at t a) z)) right

-- ---- the slots of the points that were passed

-- The time lies in the slot of one of the points at whose times the two lists differ.
abbrev pub hits : ℕ → List Point → List Point → ℤ → List Point → Bool
hits p a b t ps = list_any (λ q. contains (slot_around p q.time) t) (filter (λ q. differ_at a b q.time) ps)

hits-push : (p : ℕ) (a b : List Point) (t : ℤ) (ps : List Point) (q : Point) → hits p a b t (ps ++ q ∷ []) ≡ (hits p a b t (q ∷ []) || hits p a b t ps)
hits-push p a b t ps q =
    let f = λ (r : Point). contains (slot_around p r.time) t in
    let d = λ (r : Point). differ_at a b r.time in
    ap (list_any f) (filter-append d ps (q ∷ []))
    ∙ list_any-append f (filter d ps) (filter d (q ∷ []))
    ∙ or_comm (list_any f (filter d ps)) (list_any f (filter d (q ∷ [])))

hits-one : (p : ℕ) (a b : List Point) (t : ℤ) (q : Point) → differ_at a b q.time ≡ true → hits p a b t (q ∷ []) ≡ contains (slot_around p q.time) t
hits-one p a b t q h =
    ap (λ s. list_any (λ (r : Point). contains (slot_around p r.time) t) (cond s (q ∷ []) [])) h ∙ or-false (contains (slot_around p q.time) t)

hits-none : (p : ℕ) (a b : List Point) (t : ℤ) (q : Point) → differ_at a b q.time ≡ false → hits p a b t (q ∷ []) ≡ false
hits-none p a b t q h = ap (λ s. list_any (λ (r : Point). contains (slot_around p r.time) t) (cond s (q ∷ []) [])) h

-- A point at whose time the two differ.
pub hits-more : (p : ℕ) (a b : List Point) (t : ℤ) (ps : List Point) (i : ℕ) (d : Point) (was now : Bool) → i < length ps → differ_at a b (get_or ps i d).time ≡ true → was ≡ hits p a b t (take i ps) → now ≡ (contains (slot_around p (get_or ps i d).time) t || was) → now ≡ hits p a b t (take (i + 1) ps)
hits-more p a b t ps i d was now low differ so_far more =
    let q = get_or ps i d in
    more
    ∙ ap (λ s. contains (slot_around p q.time) t || s) so_far
    ∙ sym (ap (λ s. s || hits p a b t (take i ps)) (hits-one p a b t q differ))
    ∙ sym (hits-push p a b t (take i ps) q)
    ∙ sym (ap (hits p a b t) (take_more ps i d low))

-- Another point.
pub hits-same : (p : ℕ) (a b : List Point) (t : ℤ) (ps : List Point) (i : ℕ) (d : Point) (was now : Bool) → i < length ps → differ_at a b (get_or ps i d).time ≡ false → was ≡ hits p a b t (take i ps) → now ≡ was → now ≡ hits p a b t (take (i + 1) ps)
hits-same p a b t ps i d was now low same so_far still =
    let q = get_or ps i d in
    still
    ∙ so_far
    ∙ sym (ap (λ s. s || hits p a b t (take i ps)) (hits-none p a b t q same))
    ∙ sym (hits-push p a b t (take i ps) q)
    ∙ sym (ap (hits p a b t) (take_more ps i d low))

-- The points of both in the domain at whose times they differ are the changed ones.
changed-is : (a b : List Point) → filter (λ q. differ_at a b q.time) (within FIRST END (sort (a ++ b))) ≡ changed a b
changed-is a b =
    filter-filter (λ q. differ_at a b q.time) (is_within FIRST END) (sort (a ++ b))
    ∙ filter-same (λ q. is_within FIRST END q && differ_at a b q.time) (λ q. differ_at a b q.time && is_within FIRST END q) (sort (a ++ b)) (λ q. and_comm (is_within FIRST END q) (differ_at a b q.time))

-- The end of the walk.
pub changes-found : (p : ℕ) (a b ps : List Point) (i : ℕ) (found : List RangeValue) → p ≤ 62 → IsCut found → ps ≡ within FIRST END (sort (a ++ b)) → length ps ≤ i → ((t : ℤ) → covered found t ≡ hits p a b t (take i ps)) → found ≡ changes p a b
changes-found p a b ps i found low cut is done times =
    same_from-covered found (changes p a b) cut (changes-cut p a b low) (λ t.
    times t
    ∙ ap (hits p a b t) (take_all i ps done ∙ is)
    ∙ ap (list_any (λ (q : Point). contains (slot_around p q.time) t)) (changed-is a b)
    ∙ sym (changes-covered p a b t low))

-- ---- times of the domain

inside : (p : Point) → is_within FIRST END p ≡ true → InDomain p.time
inside p h = (grind (arith, ints), grind (arith, ints))

pub within-domain : (ps all : List Point) (i : ℕ) (d : Point) → ps ≡ within FIRST END all → i < length ps → InDomain (get_or ps i d).time
within-domain ps all i d is low =
    let each = each-weaker (λ p. is_within FIRST END p ≡ true) (λ p. InDomain p.time) inside (within FIRST END all) (filter-passes (is_within FIRST END) all) in
    subst (λ (qs : List Point). i < length qs → InDomain (get_or qs i d).time) (sym is) (All-from_recursion (λ p. InDomain p.time) (within FIRST END all) each i d) low
