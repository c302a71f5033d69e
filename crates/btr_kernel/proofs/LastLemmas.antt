-- Lemmas on the last of points in order: it has the greatest value of its time.
use Rattle.std.specs.Prelude.{◌≡◌, ℤ, ◌≤ℤ◌, ◌<ℤ◌, pos, ◌+ℤ◌, true, false, ◌&&◌, int_lt, List, [], ◌∷◌, ◌++◌, cond, Option, Some, None, IsTrue}
use Rattle.std.specs.Int.{int_max}
use Rattle.std.specs.Ordering.{int_eq}
use Rattle.std.specs.List.{filter, last_or, AllByRecursion}
use Rattle.std.specs.Option.{option_map, option_and_then}
use Rattle.std.proofs.Common.{refl, sym, ap, ◌∙◌, arith, subst}
use Rattle.std.proofs.lemmas.Int.{ints, clamps}
use Rattle.btr_base.specs.declared.point.Point.{Point}
use Rattle.btr_base.specs.Point.{is_not_after}
use Rattle.btr_base.specs.Bag.{IsInOrder}
use Rattle.btr_base.specs.Agg.{join_ends, agg}
use Rattle.btr_base.specs.Changes.{points_at}
use Rattle.btr_base.proofs.ListLemmas.{each-weaker, filter-append, filter-filter, filter-same, filter-all, filter-none, filter-passes}
use Rattle.btr_base.proofs.PointLemmas.{is_not_after-times, filter-in_order}
use Rattle.btr_hist.specs.Kernel.{greatest, value_at, value_before}
use Rattle.btr_kernel.specs.Window.{AreUntil}

-- ---- the last of a list

-- The list ends with this element.
pub record HasLast {X : Type 0} (xs : List X) : Type 0 where
  pub rest : List X
  pub last : X
  pub split : xs ≡ rest ++ last ∷ []
  pub is : last_or None xs ≡ Some last

last-parts : {X : Type 0} (o : Option X) (x : X) (xs : List X) → (c : List X) × (y : X) × (x ∷ xs ≡ c ++ y ∷ []) × (last_or o (x ∷ xs) ≡ Some y)
last-parts o x [] = ([], x, refl, refl)
last-parts o x (z ∷ zs) = let r = last-parts (Some x) z zs in (x ∷ r.0, r.1, ap (λ l. x ∷ l) r.2, r.3)

pub has_last : {X : Type 0} (x : X) (xs : List X) → HasLast (x ∷ xs)
has_last x xs = let r = last-parts None x xs in record { rest = r.0; last = r.1; split = r.2; is = r.3 }

pub each-last : {X : Type 0} (P : X → Type 0) (xs : List X) (x : X) → AllByRecursion P (xs ++ x ∷ []) → P x
each-last P [] x h = h.0
each-last P (y ∷ xs) x h = each-last P xs x h.1

-- ---- the greatest value

join-greatest : (q v : ℤ) (o : Option (ℤ × ℤ)) → q ≤ℤ v → option_map (λ e. e.1) o ≡ Some v → option_map (λ e. e.1) (join_ends (Some (q, q)) o) ≡ Some v
join-greatest q v None low is = absurd (cc)
join-greatest q v (Some e) low is =
    let same : e.1 ≡ v = cc in
    let most : int_max q e.1 ≡ v = omega (arith, ints, clamps) in
    ap Some most

-- No other value is above the last one.
greatest-push : (b : List Point) (p : Point) → AllByRecursion (λ q. q.value ≤ℤ p.value) b → greatest (b ++ p ∷ []) ≡ Some p.value
greatest-push [] p h = refl
greatest-push (q ∷ b) p h = join-greatest q.value p.value (agg (b ++ p ∷ [])).ends h.0 (greatest-push b p h.1)

-- ---- points in order

eq-times : (s t : ℤ) → int_eq s t ≡ true → s ≡ t
eq-times s t h = grind (arith, ints)

times-eq : (s t : ℤ) → s ≡ t → int_eq s t ≡ true
times-eq s t h = grind (arith, ints)

not-eq : (s t : ℤ) → s <ℤ t → int_eq s t ≡ false
not-eq s t h = grind (arith, ints)

lower-value : (p q : Point) → is_not_after q p ≡ true → q.time ≡ p.time → q.value ≤ℤ p.value
lower-value p q h e = grind (arith, ints)

below-last : (t : ℤ) (c : List Point) (p : Point) → p.time ≡ t → IsInOrder (c ++ p ∷ []) → AllByRecursion (λ q. q.value ≤ℤ p.value) (points_at t c)
below-last t [] p same order = tt
below-last t (q ∷ c) p same order =
    let rest = below-last t c p same order.1 in
    let before = each-last (λ r. IsTrue (is_not_after q r)) c p order.0 in
    elim (int_eq q.time t) as (λ s. int_eq q.time t ≡ s → AllByRecursion (λ r. r.value ≤ℤ p.value) (cond s (q ∷ points_at t c) (points_at t c))) [
      | true ↦ λ e. (lower-value p q before (eq-times q.time t e ∙ sym same), rest)
      | false ↦ λ e. rest
    ] refl

value_at-push : (t : ℤ) (c : List Point) (p : Point) → p.time ≡ t → IsInOrder (c ++ p ∷ []) → value_at t (c ++ p ∷ []) ≡ Some p.value
value_at-push t c p same order =
    let here : points_at t (p ∷ []) ≡ p ∷ [] = ap (λ s. cond s (p ∷ []) []) (times-eq p.time t same) in
    ap greatest (filter-append (λ q. int_eq q.time t) c (p ∷ []) ∙ ap (λ l. points_at t c ++ l) here)
    ∙ greatest-push (points_at t c) p (below-last t c p same order)

until-last : (c : List Point) (p : Point) → IsInOrder (c ++ p ∷ []) → AllByRecursion (λ q. q.time ≤ℤ p.time) (c ++ p ∷ [])
until-last [] p order = (omega (arith, ints), tt)
until-last (q ∷ c) p order =
    (is_not_after-times q p (each-last (λ r. IsTrue (is_not_after q r)) c p order.0), until-last c p order.1)

value_at-early : (t : ℤ) (c : List Point) (p : Point) → p.time <ℤ t → IsInOrder (c ++ p ∷ []) → value_at t (c ++ p ∷ []) ≡ None
value_at-early t c p early order =
    ap greatest (filter-none (λ q. int_eq q.time t) (c ++ p ∷ []) (each-weaker (λ q. q.time ≤ℤ p.time) (λ q. int_eq q.time t ≡ false) (λ q le. not-eq q.time t (omega (arith, ints))) (c ++ p ∷ []) (until-last c p order)))

-- The value of a point at a time, if there is one.
abbrev pub value_then : ℤ → Option Point → Option ℤ
value_then t None = None
value_then t (Some p) = cond (int_eq p.time t) (Some p.value) None

pub value_then-same : (t : ℤ) (p : Point) → p.time ≡ t → value_then t (Some p) ≡ Some p.value
value_then-same t p e = ap (λ s. cond s (Some p.value) None) (times-eq p.time t e)

pub value_then-other : (t : ℤ) (p : Point) → (p.time ≡ t → ⊥) → value_then t (Some p) ≡ None
value_then-other t p other =
    elim (int_eq p.time t) as (λ s. int_eq p.time t ≡ s → cond s (Some p.value) None ≡ None) [
      | true ↦ λ e. absurd (other (eq-times p.time t e))
      | false ↦ λ e. refl
    ] refl

not_later : (s t : ℤ) → s ≤ℤ t → int_eq s t ≡ false → s <ℤ t
not_later s t h e = grind (arith, ints)

value_at-split : (t : ℤ) (c : List Point) (p : Point) → p.time ≤ℤ t → IsInOrder (c ++ p ∷ []) → value_at t (c ++ p ∷ []) ≡ cond (int_eq p.time t) (Some p.value) None
value_at-split t c p le order =
    elim (int_eq p.time t) as (λ s. int_eq p.time t ≡ s → value_at t (c ++ p ∷ []) ≡ cond s (Some p.value) None) [
      | true ↦ λ e. value_at-push t c p (eq-times p.time t e) order
      | false ↦ λ e. value_at-early t c p (not_later p.time t le e) order
    ] refl

-- The greatest value at a time that no point is after is that of the last point, if it has the time.
pub value_at-last : (t : ℤ) (b : List Point) → AreUntil t b → value_at t b ≡ value_then t (last_or None b)
value_at-last t [] h = refl
value_at-last t (x ∷ b) h =
    let l = has_last x b in
    let order = subst IsInOrder l.split h.in_order in
    let until = subst (AllByRecursion (λ p. p.time ≤ℤ t)) l.split h.until in
    ap (value_at t) l.split
    ∙ value_at-split t l.rest l.last (each-last (λ p. p.time ≤ℤ t) l.rest l.last until) order
    ∙ ap (value_then t) (sym l.is)

-- ---- before a time

before-same : (s t u : ℤ) → u <ℤ t → (int_lt s t && int_eq s u) ≡ int_eq s u
before-same s t u h = grind (arith, ints)

points_at-before : (u t : ℤ) (b : List Point) → u <ℤ t → points_at u (filter (λ p. int_lt p.time t) b) ≡ points_at u b
points_at-before u t b h =
    filter-filter (λ p. int_eq p.time u) (λ p. int_lt p.time t) b
    ∙ filter-same (λ p. int_lt p.time t && int_eq p.time u) (λ p. int_eq p.time u) b (λ p. before-same p.time t u h)

lt-times : (s t : ℤ) → int_lt s t ≡ true → s <ℤ t
lt-times s t h = grind (arith, ints)

times-lt : (s t : ℤ) → s <ℤ t → int_lt s t ≡ true
times-lt s t h = grind (arith, ints)

before-is : (t : ℤ) (b before : List Point) → IsInOrder b → before ≡ filter (λ p. int_lt p.time t) b → option_and_then (λ p. value_at p.time b) (last_or None before) ≡ option_map (λ p. p.value) (last_or None before)
before-is t b [] order is = refl
before-is t b (x ∷ xs) order is =
    let l = has_last x xs in
    let p = l.last in
    let split : l.rest ++ p ∷ [] ≡ filter (λ q. int_lt q.time t) b = sym l.split ∙ is in
    let early = lt-times p.time t (each-last (λ q. int_lt q.time t ≡ true) l.rest p (subst (AllByRecursion (λ q. int_lt q.time t ≡ true)) (sym split) (filter-passes (λ q. int_lt q.time t) b))) in
    let in_order = subst IsInOrder (sym split) (filter-in_order (λ q. int_lt q.time t) b order) in
    let value : value_at p.time b ≡ Some p.value =
    ap greatest (sym (points_at-before p.time t b early) ∙ ap (points_at p.time) (sym split))
    ∙ value_at-push p.time l.rest p refl in_order in
    ap (option_and_then (λ q. value_at q.time b)) l.is ∙ value ∙ ap (option_map (λ q. q.value)) (sym l.is)

-- The greatest value at the last time before a time is that of the last point before it.
pub value_before-last : (t : ℤ) (b : List Point) → IsInOrder b → value_before t b ≡ option_map (λ p. p.value) (last_or None (filter (λ p. int_lt p.time t) b))
value_before-last t b order = before-is t b (filter (λ p. int_lt p.time t) b) order refl

-- The greatest value at the last time, if no point is after a time.
pub latest-last : (t : ℤ) (b : List Point) → AreUntil t b → value_before (t +ℤ pos 1) b ≡ option_map (λ p. p.value) (last_or None b)
latest-last t b h =
    value_before-last (t +ℤ pos 1) b h.in_order
    ∙ ap (λ l. option_map (λ p. p.value) (last_or None l)) (filter-all (λ p. int_lt p.time (t +ℤ pos 1)) b (each-weaker (λ p. p.time ≤ℤ t) (λ p. int_lt p.time (t +ℤ pos 1) ≡ true) (λ p le. times-lt p.time (t +ℤ pos 1) (omega (arith, ints))) b h.until))
