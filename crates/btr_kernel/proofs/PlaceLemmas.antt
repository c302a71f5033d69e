-- Lemmas on places in points that are in order, and on the points between two places.
use Rattle.std.specs.Prelude.{◌≡◌, ℕ, ◌+◌, ◌<◌, ◌≤◌, ℤ, pos, ◌+ℤ◌, ◌-ℤ◌, ◌≤ℤ◌, ◌<ℤ◌, true, false, not, ◌&&◌, int_le, int_lt, List, [], ◌∷◌, length, take, drop, slice_range, min, cond, IsTrue}
use Rattle.std.specs.List.{filter, AllByRecursion}
use Rattle.std.proofs.Common.{zero, suc, refl, sym, ap, ◌∙◌, arith, get_or}
use Rattle.std.proofs.lemmas.Int.{ints, by_lt_z}
use Rattle.std.proofs.lemmas.Slice.{between_is}
use Rattle.std.proofs.lemmas.List.Elements.{All-from_recursion}
use Rattle.btr_base.specs.declared.point.Point.{Point}
use Rattle.btr_base.specs.Point.{is_not_after}
use Rattle.btr_base.specs.Bag.{IsInOrder, within, is_within}
use Rattle.btr_base.proofs.ListLemmas.{each-weaker, filter-filter, filter-same, filter-none, filter-all, length-filter}
use Rattle.btr_base.proofs.PointLemmas.{is_not_after-times, filter-in_order}
use Rattle.btr_hist.specs.Kernel.{window}
use Rattle.btr_kernel.specs.Places.{place_of}

lt-yes : (s t : ℤ) → s <ℤ t → int_lt s t ≡ true
lt-yes s t h = grind (arith, ints)

lt-no : (s t : ℤ) → t ≤ℤ s → int_lt s t ≡ false
lt-no s t h = grind (arith, ints)

-- The points after the first are not before it.
pub rest-from : (p : Point) (b : List Point) → IsInOrder (p ∷ b) → AllByRecursion (λ q. p.time ≤ℤ q.time) b
rest-from p b order =
    each-weaker (λ q. IsTrue (is_not_after p q)) (λ q. p.time ≤ℤ q.time) (λ q h. is_not_after-times p q h) b order.0

none-early : (t : ℤ) (p : Point) (b : List Point) → t ≤ℤ p.time → IsInOrder (p ∷ b) → filter (λ q. int_lt q.time t) b ≡ []
none-early t p b late order =
    filter-none (λ q. int_lt q.time t) b (each-weaker (λ q. p.time ≤ℤ q.time) (λ q. int_lt q.time t ≡ false) (λ q h. lt-no q.time t (omega (arith, ints))) b (rest-from p b order))

all-late : (t : ℤ) (p : Point) (b : List Point) → t ≤ℤ p.time → IsInOrder (p ∷ b) → filter (λ q. not (int_lt q.time t)) b ≡ b
all-late t p b late order =
    filter-all (λ q. not (int_lt q.time t)) b (each-weaker (λ q. p.time ≤ℤ q.time) (λ q. not (int_lt q.time t) ≡ true) (λ q h. ap not (lt-no q.time t (omega (arith, ints)))) b (rest-from p b order))

pub place-within : (t : ℤ) (b : List Point) → place_of t b ≤ length b
place-within t b = length-filter (λ p. int_lt p.time t) b

-- A point that is before the time comes before the place.
pub place-after : (t : ℤ) (b : List Point) (k : ℕ) (d : Point) → IsInOrder b → k < length b → (get_or b k d).time <ℤ t → k + 1 ≤ place_of t b
place-after t [] k d order low early = absurd (omega arith)
place-after t (p ∷ b) zero d order low early =
    let e : place_of t (p ∷ b) ≡ suc (place_of t b) = ap (λ s. length (cond s (p ∷ filter (λ q. int_lt q.time t) b) (filter (λ q. int_lt q.time t) b))) (lt-yes p.time t early) in
    omega arith
place-after t (p ∷ b) (suc k) d order low early =
    let le : p.time ≤ℤ (get_or b k d).time = All-from_recursion (λ q. p.time ≤ℤ q.time) b (rest-from p b order) k d (omega arith) in
    let e : place_of t (p ∷ b) ≡ suc (place_of t b) = ap (λ s. length (cond s (p ∷ filter (λ q. int_lt q.time t) b) (filter (λ q. int_lt q.time t) b))) (lt-yes p.time t (omega (arith, ints))) in
    let rest = place-after t b k d order.1 (omega arith) early in
    omega arith

-- A point that is not before the time comes at the place or after it.
pub place-before : (t : ℤ) (b : List Point) (k : ℕ) (d : Point) → IsInOrder b → k < length b → t ≤ℤ (get_or b k d).time → place_of t b ≤ k
place-before t [] k d order low late = absurd (omega arith)
place-before t (p ∷ b) zero d order low late =
    let e : place_of t (p ∷ b) ≡ 0 = ap (λ s. length (cond s (p ∷ filter (λ q. int_lt q.time t) b) (filter (λ q. int_lt q.time t) b))) (lt-no p.time t late) ∙ ap length (none-early t p b late order) in
    omega arith
place-before t (p ∷ b) (suc k) d order low late =
    let rest = place-before t b k d order.1 (omega arith) late in
    elim (int_lt p.time t) as (λ s. length (cond s (p ∷ filter (λ q. int_lt q.time t) b) (filter (λ q. int_lt q.time t) b)) ≤ suc k) [
      | true ↦ omega arith
      | false ↦ omega arith
    ]

-- The points before the place are those before the time, and the others follow.
pub place-take : (t : ℤ) (b : List Point) → IsInOrder b → take (place_of t b) b ≡ filter (λ p. int_lt p.time t) b
place-take t [] order = refl
place-take t (p ∷ b) order =
    let f = λ (q : Point). int_lt q.time t in
    by_lt_z p.time t (λ early.
    ap (λ s. take (length (cond s (p ∷ filter f b) (filter f b))) (p ∷ b)) (lt-yes p.time t early)
    ∙ ap (λ l. p ∷ l) (place-take t b order.1)
    ∙ ap (λ s. cond s (p ∷ filter f b) (filter f b)) (sym (lt-yes p.time t early))) (λ late.
    ap (λ s. take (length (cond s (p ∷ filter f b) (filter f b))) (p ∷ b)) (lt-no p.time t late)
    ∙ ap (λ l. take (length l) (p ∷ b)) (none-early t p b late order)
    ∙ sym (none-early t p b late order)
    ∙ ap (λ s. cond s (p ∷ filter f b) (filter f b)) (sym (lt-no p.time t late)))

pub place-drop : (t : ℤ) (b : List Point) → IsInOrder b → drop (place_of t b) b ≡ filter (λ p. not (int_lt p.time t)) b
place-drop t [] order = refl
place-drop t (p ∷ b) order =
    let f = λ (q : Point). int_lt q.time t in
    let g = λ (q : Point). not (int_lt q.time t) in
    by_lt_z p.time t (λ early.
    ap (λ s. drop (length (cond s (p ∷ filter f b) (filter f b))) (p ∷ b)) (lt-yes p.time t early)
    ∙ place-drop t b order.1
    ∙ ap (λ s. cond (not s) (p ∷ filter g b) (filter g b)) (sym (lt-yes p.time t early))) (λ late.
    ap (λ s. drop (length (cond s (p ∷ filter f b) (filter f b))) (p ∷ b)) (lt-no p.time t late)
    ∙ ap (λ l. drop (length l) (p ∷ b)) (none-early t p b late order)
    ∙ ap (λ l. p ∷ l) (sym (all-late t p b late order))
    ∙ ap (λ s. cond (not s) (p ∷ filter g b) (filter g b)) (sym (lt-no p.time t late)))

-- ---- two places

lt-lt : (x s u : ℤ) → s ≤ℤ u → (int_lt x u && int_lt x s) ≡ int_lt x s
lt-lt x s u h = grind (arith, ints)

place-early : (s u : ℤ) (b : List Point) → s ≤ℤ u → place_of s (filter (λ p. int_lt p.time u) b) ≡ place_of s b
place-early s u b h =
    ap length (filter-filter (λ p. int_lt p.time s) (λ p. int_lt p.time u) b ∙ filter-same (λ p. int_lt p.time u && int_lt p.time s) (λ p. int_lt p.time s) b (λ p. lt-lt p.time s u h))

pub place-rises : (s u : ℤ) (b : List Point) → s ≤ℤ u → place_of s b ≤ place_of u b
place-rises s u b h =
    let within = place-within s (filter (λ p. int_lt p.time u) b) in
    omega (arith, place-early s u b h)

between-times : (x s u : ℤ) → (int_lt x u && not (int_lt x s)) ≡ (int_le s x && int_lt x u)
between-times x s u = grind (arith, ints)

-- The points between the places of two times are those between the times.
pub places-within : (s u : ℤ) (b : List Point) → s ≤ℤ u → IsInOrder b → slice_range b (place_of s b) (place_of u b) ≡ within s u b
places-within s u b h order =
    let before = filter (λ (p : Point). int_lt p.time u) b in
    between_is b (place_of s b) (place_of u b)
    ∙ ap (drop (place_of s b)) (place-take u b order)
    ∙ ap (λ n. drop n before) (sym (place-early s u b h))
    ∙ place-drop s before (filter-in_order (λ p. int_lt p.time u) b order)
    ∙ filter-filter (λ p. not (int_lt p.time s)) (λ p. int_lt p.time u) b
    ∙ filter-same (λ p. int_lt p.time u && not (int_lt p.time s)) (is_within s u) b (λ p. between-times p.time s u)

pub window-places : (lead : ℕ) (t : ℤ) (b : List Point) → IsInOrder b → slice_range b (place_of (t -ℤ pos lead) b) (place_of (t +ℤ pos 1) b) ≡ window lead t b
window-places lead t b order = places-within (t -ℤ pos lead) (t +ℤ pos 1) b (omega (arith, ints)) order

-- The place of a time that is written in another way.
pub place-at : (b : List Point) (z w : ℤ) (n : ℕ) → n ≡ place_of z b → z ≡ w → n ≡ place_of w b
place-at b z w n is same = is ∙ ap (λ t. place_of t b) same

pub place-found : (b : List Point) (z w : ℤ) (n from : ℕ) → n ≡ min from (place_of z b) → length b ≤ from → z ≡ w → n ≡ place_of w b
place-found b z w n from is all same =
    let within = place-within z b in
    let here : n ≡ place_of z b = omega arith in
    here ∙ ap (λ t. place_of t b) same
