-- Lemmas on points, their order, and bags.
use Rattle.std.specs.Prelude.{◌≡◌, ℕ, ◌+◌, ◌-◌, ◌<◌, ◌≤◌, slice_index_or, drop, Bool, true, false, not, ℤ, ◌≤ℤ◌, ◌<ℤ◌, List, [], ◌∷◌, ◌++◌, length, cond, IsTrue}
use Rattle.std.specs.List.{filter, count_by, AllByRecursion}
use Rattle.std.proofs.Common.{zero, suc, refl, sym, ap, ◌∙◌, arith, subst}
use Rattle.std.proofs.lemmas.Int.{ints}
use Rattle.std.proofs.lemmas.Bool.{not-true}
use Rattle.std.proofs.lemmas.List.Elements.{All-from_recursion}
use Rattle.std.proofs.lemmas.List.Sorted.{sum_by-IsPermutation}
use Rattle.std.specs.List.Sorted.{IsPermutation, IsSorted}
use Rattle.std.specs.Ordering.{is_lt}
use Rattle.btr_base.specs.declared.point.Point.{Point}
use Rattle.btr_base.specs.Point.{point_cmp, is_not_after, same_point}
use Rattle.btr_base.specs.Bag.{IsInOrder, insert, sort, copies}
use Rattle.btr_base.proofs.ListLemmas.{each-append, each-weaker, each-filter, count-append, count-cons}

-- ---- two points

pub is_not_after-total : (p q : Point) → is_not_after p q ≡ false → is_not_after q p ≡ true
is_not_after-total p q h = grind (arith, ints)

pub is_not_after-trans : (p q r : Point) → is_not_after p q ≡ true → is_not_after q r ≡ true → is_not_after p r ≡ true
is_not_after-trans p q r h k = grind (arith, ints)

pub is_not_after-antisymm : (p q : Point) → is_not_after p q ≡ true → is_not_after q p ≡ true → p ≡ q
is_not_after-antisymm p q h k = grind (arith, ints)

pub same_point-true : (p q : Point) → same_point p q ≡ true → p ≡ q
same_point-true p q h = grind (arith, ints)

pub same_point-refl : (p : Point) → same_point p p ≡ true
same_point-refl p = grind (arith, ints)

pub is_not_after-refl : (p : Point) → is_not_after p p ≡ true
is_not_after-refl p = grind (arith, ints)

pub is_not_after-times : (p q : Point) → is_not_after p q ≡ true → p.time ≤ℤ q.time
is_not_after-times p q h = grind (arith, ints)

-- ---- what holds of each element

pub each-insert : (P : Point → Type 0) (p : Point) (b : List Point) → P p → AllByRecursion P b → AllByRecursion P (insert p b)
each-insert P p [] h k = (h, tt)
each-insert P p (q ∷ b) h k =
    elim (is_not_after p q) as (λ t. AllByRecursion P (cond t (p ∷ q ∷ b) (q ∷ insert p b))) [
      | true ↦ (h, k)
      | false ↦ (k.0, each-insert P p b h k.1)
    ]

pub each-sort : (P : Point → Type 0) (b : List Point) → AllByRecursion P b → AllByRecursion P (sort b)
each-sort P [] h = tt
each-sort P (p ∷ b) h = each-insert P p (sort b) h.0 (each-sort P b h.1)

-- ---- order

pub insert-in_order : (p : Point) (b : List Point) → IsInOrder b → IsInOrder (insert p b)
insert-in_order p [] h = (tt, tt)
insert-in_order p (q ∷ b) h =
    elim (is_not_after p q) as (λ t. is_not_after p q ≡ t → IsInOrder (cond t (p ∷ q ∷ b) (q ∷ insert p b))) [
      | true ↦ λ e. ((e, each-weaker (λ r. IsTrue (is_not_after q r)) (λ r. IsTrue (is_not_after p r)) (λ r k. is_not_after-trans p q r e k) b h.0), h)
      | false ↦ λ e. (each-insert (λ r. IsTrue (is_not_after q r)) p b (is_not_after-total p q e) h.0, insert-in_order p b h.1)
    ] refl

pub sort-in_order : (b : List Point) → IsInOrder (sort b)
sort-in_order [] = tt
sort-in_order (p ∷ b) = insert-in_order p (sort b) (sort-in_order b)

pub filter-in_order : (f : Point → Bool) (b : List Point) → IsInOrder b → IsInOrder (filter f b)
filter-in_order f [] h = tt
filter-in_order f (p ∷ b) h =
    elim (f p) as (λ t. IsInOrder (cond t (p ∷ filter f b) (filter f b))) [
      | true ↦ (each-filter (λ q. IsTrue (is_not_after p q)) f b h.0, filter-in_order f b h.1)
      | false ↦ filter-in_order f b h.1
    ]

pub drop-in_order : (n : ℕ) (b : List Point) → IsInOrder b → IsInOrder (drop n b)
drop-in_order zero b h = h
drop-in_order (suc n) [] h = tt
drop-in_order (suc n) (p ∷ b) h = drop-in_order n b h.1

sorted-tail : (p : Point) (b : List Point) → IsSorted point_cmp (p ∷ b) → IsSorted point_cmp b
sorted-tail p b h k d low high =
    let next : suc k + 1 ≡ suc (k + 1) = omega arith in
    subst (λ n. is_lt (point_cmp (slice_index_or (p ∷ b) n d) (slice_index_or b k d)) ≡ false) next (h (suc k) d (omega arith) (omega arith))

pub in_order-from_sorted : (b : List Point) → IsSorted point_cmp b → IsInOrder b
in_order-from_sorted [] h = tt
in_order-from_sorted (p ∷ []) h = (tt, tt)
in_order-from_sorted (p ∷ q ∷ b) h =
    let rest : IsInOrder (q ∷ b) = in_order-from_sorted (q ∷ b) (sorted-tail p (q ∷ b) h) in
    let first : is_not_after p q ≡ true = ap not (h 0 p (omega arith) (omega arith)) in
    ((first, each-weaker (λ r. IsTrue (is_not_after q r)) (λ r. IsTrue (is_not_after p r)) (λ r k. is_not_after-trans p q r first k) b rest.0), rest)

-- Points in order, none of them after a time, and then a point after it.
pub in_order-push : (ps : List Point) (q : Point) (t : ℤ) → IsInOrder ps → AllByRecursion (λ p. p.time ≤ℤ t) ps → t <ℤ q.time → IsInOrder (ps ++ q ∷ [])
in_order-push [] q t h k late = (tt, tt)
in_order-push (p ∷ ps) q t h k late =
    let early = k.0 in
    let after : is_not_after p q ≡ true = grind (arith, ints) in
    (each-append (λ r. is_not_after p r ≡ true) ps (q ∷ []) h.0 (after, tt), in_order-push ps q t h.1 k.1 late)

pub sorted-from_in_order : (b : List Point) → IsInOrder b → IsSorted point_cmp b
sorted-from_in_order [] h k d low high = absurd (omega arith)
sorted-from_in_order (p ∷ []) h k d low high = absurd (omega arith)
sorted-from_in_order (p ∷ q ∷ b) h zero d low high = not-true (is_lt (point_cmp q p)) h.0.0
sorted-from_in_order (p ∷ q ∷ b) h (suc k) d low high =
    let next : suc (k + 1) ≡ suc k + 1 = omega arith in
    subst (λ n. is_lt (point_cmp (slice_index_or (p ∷ q ∷ b) n d) (slice_index_or (q ∷ b) k d)) ≡ false) next (sorted-from_in_order (q ∷ b) h.1 k d (omega arith) (omega arith))

-- ---- what passes a test

-- ---- how often a list contains a point

pub count-insert : (f : Point → Bool) (p : Point) (b : List Point) → count_by f (insert p b) ≡ cond (f p) 1 0 + count_by f b
count-insert f p [] = count-cons f p []
count-insert f p (q ∷ b) =
    elim (is_not_after p q) as (λ t. count_by f (cond t (p ∷ q ∷ b) (q ∷ insert p b)) ≡ cond (f p) 1 0 + count_by f (q ∷ b)) [
      | true ↦ count-cons f p (q ∷ b)
      | false ↦ omega (arith, count-cons f q (insert p b), count-cons f q b, count-insert f p b)
    ]

pub count-sort : (f : Point → Bool) (b : List Point) → count_by f (sort b) ≡ count_by f b
count-sort f [] = refl
count-sort f (p ∷ b) = omega (arith, count-insert f p (sort b), count-sort f b, count-cons f p b)

pub copies-sort : (p : Point) (b : List Point) → copies p (sort b) ≡ copies p b
copies-sort p b = count-sort (same_point p) b

pub copies-append : (p : Point) (a b : List Point) → copies p (a ++ b) ≡ copies p a + copies p b
copies-append p a b = count-append (same_point p) a b

-- What holds of each element holds of a point that the list contains.
pub each-copies : (P : Point → Type 0) (p : Point) (b : List Point) → AllByRecursion P b → 0 < copies p b → P p
each-copies P p [] h k = absurd (omega arith)
each-copies P p (q ∷ b) h k =
    let e = count-cons (same_point p) q b in
    elim (same_point p q) as (λ t. same_point p q ≡ t → copies p (q ∷ b) ≡ cond t 1 0 + copies p b → P p) [
      | true ↦ λ same _. subst P (sym (same_point-true p q same)) h.0
      | false ↦ λ _ less. each-copies P p b h.1 (omega arith)
    ] refl e

copies-head : (p : Point) (b : List Point) → copies p (p ∷ b) ≡ 1 + copies p b
copies-head p b = count-cons (same_point p) p b ∙ ap (λ t. cond t 1 0 + copies p b) (same_point-refl p)

copies-other : (p q : Point) (b : List Point) → same_point p q ≡ false → copies p (q ∷ b) ≡ copies p b
copies-other p q b e =
    let k = count-cons (same_point p) q b ∙ ap (λ t. cond t 1 0 + copies p b) e in omega arith

other_point : (f : Point → Bool) (p q : Point) → f p ≡ true → f q ≡ false → same_point p q ≡ false
other_point f p q passes fails =
    elim (same_point p q) as (λ t. same_point p q ≡ t → t ≡ false) [
      | true ↦ λ e. let same = same_point-true p q e in cc
      | false ↦ λ _. refl
    ] refl

pub copies-filter_kept : (f : Point → Bool) (p : Point) (b : List Point) → f p ≡ true → copies p (filter f b) ≡ copies p b
copies-filter_kept f p [] passes = refl
copies-filter_kept f p (q ∷ b) passes =
    let e = count-cons (same_point p) q b in
    let k = copies-filter_kept f p b passes in
    elim (f q) as (λ t. f q ≡ t → copies p (cond t (q ∷ filter f b) (filter f b)) ≡ copies p (q ∷ b)) [
      | true ↦ λ _. omega (arith, count-cons (same_point p) q (filter f b))
      | false ↦ λ fails. k ∙ sym (copies-other p q b (other_point f p q passes fails))
    ] refl

pub copies-filter_dropped : (f : Point → Bool) (p : Point) (b : List Point) → f p ≡ false → copies p (filter f b) ≡ 0
copies-filter_dropped f p [] fails = refl
copies-filter_dropped f p (q ∷ b) fails =
    let k = copies-filter_dropped f p b fails in
    elim (f q) as (λ t. f q ≡ t → copies p (cond t (q ∷ filter f b) (filter f b)) ≡ 0) [
      | true ↦ λ passes. copies-other p q (filter f b) (other_point (λ r. not (f r)) p q (ap not fails) (ap not passes)) ∙ k
      | false ↦ λ _. k
    ] refl

pub copies-filter : (f : Point → Bool) (p : Point) (b : List Point) → copies p (filter f b) ≡ cond (f p) (copies p b) 0
copies-filter f p b =
    elim (f p) as (λ t. f p ≡ t → copies p (filter f b) ≡ cond t (copies p b) 0) [
      | true ↦ copies-filter_kept f p b
      | false ↦ copies-filter_dropped f p b
    ] refl

-- The first of a list in order may precede each point that the list contains.
first_before : (p q : Point) (b : List Point) → IsInOrder (q ∷ b) → 0 < copies p (q ∷ b) → is_not_after q p ≡ true
first_before p q b h k = each-copies (λ r. is_not_after q r ≡ true) p (q ∷ b) (is_not_after-refl q, h.0) k

-- Lists in order that contain each point equally often are the same list.
pub same_from-copies : (b c : List Point) → IsInOrder b → IsInOrder c → ((p : Point) → copies p b ≡ copies p c) → b ≡ c
same_from-copies [] [] h k e = refl
same_from-copies [] (q ∷ c) h k e = absurd (omega (arith, e q, copies-head q c))
same_from-copies (p ∷ b) [] h k e = absurd (omega (arith, e p, copies-head p b))
same_from-copies (p ∷ b) (q ∷ c) h k e =
    let before : is_not_after q p ≡ true = first_before p q c k (omega (arith, e p, copies-head p b)) in
    let after : is_not_after p q ≡ true = first_before q p b h (omega (arith, e q, copies-head q c)) in
    let same = is_not_after-antisymm p q after before in
    let rest = same_from-copies b c h.1 k.1 (λ r. let first : same_point r p ≡ same_point r q = ap (same_point r) same in omega (arith, e r, count-cons (same_point r) p b, count-cons (same_point r) q c, ap {B = ℕ} (λ t. cond t 1 0) first)) in
    cc

-- ---- the bag of a list

pub sort-same : (a b : List Point) → ((p : Point) → copies p a ≡ copies p b) → sort a ≡ sort b
sort-same a b e =
    same_from-copies (sort a) (sort b) (sort-in_order a) (sort-in_order b) (λ p. copies-sort p a ∙ e p ∙ sym (copies-sort p b))

pub sort-of_order : (b : List Point) → IsInOrder b → sort b ≡ b
sort-of_order b h = same_from-copies (sort b) b (sort-in_order b) h (λ p. copies-sort p b)

pub sort-sort : (b : List Point) → sort (sort b) ≡ sort b
sort-sort b = sort-of_order (sort b) (sort-in_order b)

pub sort-permutation : (a b : List Point) → IsPermutation a b → sort b ≡ sort a
sort-permutation a b h = sort-same b a (λ p. sum_by-IsPermutation (λ q. cond (same_point p q) 1 0) a b h)

pub sort-sort_left : (a b : List Point) → sort (sort a ++ b) ≡ sort (a ++ b)
sort-sort_left a b =
    sort-same (sort a ++ b) (a ++ b) (λ p. omega (arith, copies-append p (sort a) b, copies-append p a b, copies-sort p a))

pub filter-sort : (f : Point → Bool) (b : List Point) → filter f (sort b) ≡ sort (filter f b)
filter-sort f b =
    same_from-copies (filter f (sort b)) (sort (filter f b)) (filter-in_order f (sort b) (sort-in_order b)) (sort-in_order (filter f b)) (λ p. copies-filter f p (sort b) ∙ ap (λ n. cond (f p) n 0) (copies-sort p b) ∙ sym (copies-filter f p b) ∙ sym (copies-sort p (filter f b)))

-- A point that may precede all others is the first.
pub sort-first : (p : Point) (b : List Point) → AllByRecursion (λ q. IsTrue (is_not_after p q)) b → sort (p ∷ b) ≡ p ∷ sort b
sort-first p b h =
    let in_order : IsInOrder (p ∷ sort b) = (each-sort (λ q. IsTrue (is_not_after p q)) b h, sort-in_order b) in
    same_from-copies (sort (p ∷ b)) (p ∷ sort b) (sort-in_order (p ∷ b)) in_order (λ q. omega (arith, copies-sort q (p ∷ b), count-cons (same_point q) p b, count-cons (same_point q) p (sort b), copies-sort q b))

pub length-insert : (p : Point) (b : List Point) → length (insert p b) ≡ 1 + length b
length-insert p [] = refl
length-insert p (q ∷ b) =
    elim (is_not_after p q) as (λ t. length (cond t (p ∷ q ∷ b) (q ∷ insert p b)) ≡ 1 + length (q ∷ b)) [
      | true ↦ omega arith
      | false ↦ omega (arith, length-insert p b)
    ]

pub length-sort : (b : List Point) → length (sort b) ≡ length b
length-sort [] = refl
length-sort (p ∷ b) = omega (arith, length-insert p (sort b), length-sort b)

-- A point that may precede the first of a list in order may precede all of it.
pub each-before : (p q : Point) (b : List Point) → IsInOrder (q ∷ b) → is_not_after p q ≡ true → AllByRecursion (λ r. IsTrue (is_not_after p r)) (q ∷ b)
each-before p q b h e =
    (e, each-weaker (λ r. IsTrue (is_not_after q r)) (λ r. IsTrue (is_not_after p r)) (λ r k. is_not_after-trans p q r e k) b h.0)

-- Two lists in order, of which the last point of one may precede the first of the other, are in order one after the other.
pub in_order-append : (a b : List Point) (last first : Point) → IsInOrder a → IsInOrder b → ((d : Point) → last ≡ slice_index_or a (length a - 1) d) → ((d : Point) → first ≡ slice_index_or b 0 d) → is_not_after last first ≡ true → IsInOrder (a ++ b)
in_order-append [] b last first h k is_last is_first le = k
in_order-append (p ∷ []) [] last first h k is_last is_first le = (tt, tt)
in_order-append (p ∷ []) (q ∷ b) last first h k is_last is_first le =
    (each-before p q b k (sym (λ i. is_not_after (is_last p i) (is_first p i)) ∙ le), k)
in_order-append (p ∷ q ∷ a) b last first h k is_last is_first le =
    let next : length (p ∷ q ∷ a) - 1 ≡ suc (length (q ∷ a) - 1) = omega arith in
    let rest = in_order-append (q ∷ a) b last first h.1 k (λ d. is_last d ∙ ap (λ n. slice_index_or (p ∷ q ∷ a) n d) next) is_first le in
    (each-before p q (a ++ b) rest h.0.0, rest)

pub sort-take_first : (p : Point) (a b : List Point) → AllByRecursion (λ q. IsTrue (is_not_after p q)) a → AllByRecursion (λ q. IsTrue (is_not_after p q)) b → sort (p ∷ a ++ b) ≡ p ∷ sort (a ++ b)
sort-take_first p a b h k = sort-first p (a ++ b) (each-append (λ q. IsTrue (is_not_after p q)) a b h k)

pub sort-take_second : (p : Point) (a b : List Point) → AllByRecursion (λ q. IsTrue (is_not_after p q)) a → AllByRecursion (λ q. IsTrue (is_not_after p q)) b → sort (a ++ p ∷ b) ≡ p ∷ sort (a ++ b)
sort-take_second p a b h k =
    sort-same (a ++ p ∷ b) (p ∷ a ++ b) (λ q. omega (arith, copies-append q a (p ∷ b), count-cons (same_point q) p b, count-cons (same_point q) p (a ++ b), copies-append q a b))
    ∙ sort-take_first p a b h k

-- ---- points by their indices

pub times-rise : (b : List Point) (i j : ℕ) (d : Point) → IsInOrder b → i ≤ j → j < length b → (slice_index_or b i d).time ≤ℤ (slice_index_or b j d).time
times-rise [] i j d h le lt = absurd (omega arith)
times-rise (p ∷ b) zero zero d h le lt = omega (arith, ints)
times-rise (p ∷ b) zero (suc j) d h le lt =
    is_not_after-times p (slice_index_or b j d) (All-from_recursion (λ q. IsTrue (is_not_after p q)) b h.0 j d (omega arith))
times-rise (p ∷ b) (suc i) zero d h le lt = absurd (omega arith)
times-rise (p ∷ b) (suc i) (suc j) d h le lt = times-rise b i j d h.1 (omega arith) (omega arith)
