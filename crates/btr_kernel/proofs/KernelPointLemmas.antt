-- Lemmas on the anchors of points, and on the points of an output.
use Rattle.std.specs.Prelude.{◌≡◌, ℕ, ◌+◌, ◌<◌, ℤ, pos, ◌+ℤ◌, ◌-ℤ◌, ◌≤ℤ◌, ◌<ℤ◌, Bool, true, false, not, ◌&&◌, ◌||◌, int_le, int_lt, List, [], ◌∷◌, ◌++◌, map, length, cond, Option, Some, None}
use Rattle.std.specs.Int.{int_max}
use Rattle.std.specs.Ordering.{int_eq}
use Rattle.std.specs.List.{filter, AllByRecursion}
use Rattle.std.specs.List.{cons_option}
use Rattle.std.specs.Option.{option_map}
use Rattle.std.proofs.Common.{refl, sym, ap, ◌∙◌, arith, inl, inr, append_assoc, get_or, drop}
use Rattle.std.proofs.lemmas.List.{drop_more}
use Rattle.std.proofs.lemmas.Int.{ints, clamps}
use Rattle.std.proofs.lemmas.Bool.{or_cases}
use Rattle.btr_base.specs.declared.limits.TheConstants.{FIRST}
use Rattle.btr_base.specs.declared.point.Point.{Point}
use Rattle.btr_base.specs.Point.{InDomain, AreInDomain}
use Rattle.btr_base.specs.Range.{RangeValue, contains, covered}
use Rattle.btr_base.specs.Bag.{within, is_within}
use Rattle.btr_base.specs.Changes.{points_at}
use Rattle.btr_base.proofs.ListLemmas.{each-weaker, each-both, each-filter, filter-filter, filter-same, filter-swap, filter-all, filter-passes}
use Rattle.btr_base.proofs.RangeLemmas.{contains-from}
use Rattle.btr_hist.specs.declared.kernel.Spec.{Spec}
use Rattle.btr_hist.specs.Kernel.{anchors, window, value}
use Rattle.btr_hist.specs.Distil.{Inputs, value_of, points_from, kernel_points}
use Rattle.btr_kernel.specs.Window.{HasPointAt}
use Rattle.btr_kernel.specs.Past.{begun_earlier}
use Rattle.btr_kernel.specs.Swept.{IsAnchor}

eq-times : (s t : ℤ) → int_eq s t ≡ true → s ≡ t
eq-times s t h = grind (arith, ints)

times-eq : (s t : ℤ) → s ≡ t → int_eq s t ≡ true
times-eq s t h = grind (arith, ints)

not-eq : (s t : ℤ) → s <ℤ t → not (int_eq s t) ≡ true
not-eq s t h = grind (arith, ints)

-- ---- points from times

-- A point at the time, if there is a value, before other points.
abbrev marked : ℤ → Option ℤ → List Point → List Point
marked t o ps = cons_option (option_map (λ (v : ℤ). let p : Point = record { time = t; value = v } in p) o) ps

marked-filter : (f : ℤ → Bool) (t : ℤ) (o : Option ℤ) (ps : List Point) → filter (λ p. f p.time) (marked t o ps) ≡ cond (f t) (marked t o (filter (λ p. f p.time) ps)) (filter (λ p. f p.time) ps)
marked-filter f t None ps =
    elim (f t) as (λ b. filter (λ (p : Point). f p.time) ps ≡ cond b (filter (λ (p : Point). f p.time) ps) (filter (λ (p : Point). f p.time) ps)) [ true ↦ refl | false ↦ refl ]
marked-filter f t (Some v) ps = refl

from-cond : (v : ℤ → Option ℤ) (t : ℤ) (ts : List ℤ) (b : Bool) → points_from v (cond b (t ∷ ts) ts) ≡ cond b (marked t (v t) (points_from v ts)) (points_from v ts)
from-cond v t ts true = refl
from-cond v t ts false = refl

pub filter-points_from : (f : ℤ → Bool) (v : ℤ → Option ℤ) (ts : List ℤ) → filter (λ p. f p.time) (points_from v ts) ≡ points_from v (filter f ts)
filter-points_from f v [] = refl
filter-points_from f v (t ∷ ts) =
    marked-filter f t (v t) (points_from v ts)
    ∙ ap (λ ps. cond (f t) (marked t (v t) ps) ps) (filter-points_from f v ts)
    ∙ sym (from-cond v t (filter f ts) (f t))

pub points_from-same : (v w : ℤ → Option ℤ) (ts : List ℤ) → AllByRecursion (λ t. v t ≡ w t) ts → points_from v ts ≡ points_from w ts
points_from-same v w [] h = refl
points_from-same v w (t ∷ ts) h =
    ap (λ o. marked t o (points_from v ts)) h.0 ∙ ap (marked t (w t)) (points_from-same v w ts h.1)

-- One time more, with or without a value.
pub points-some : (v : ℤ → Option ℤ) (ts : List ℤ) (i : ℕ) (x : ℤ) (made all : List Point) (p : Point) → i < length ts → v (get_or ts i (pos 0)) ≡ Some x → p ≡ record { time = get_or ts i (pos 0); value = x } → made ++ points_from v (drop i ts) ≡ all → (made ++ p ∷ []) ++ points_from v (drop (i + 1) ts) ≡ all
points-some v ts i x made all p within is same so_far =
    let t = get_or ts i (pos 0) in
    let rest = points_from v (drop (i + 1) ts) in
    append_assoc made (p ∷ []) rest
    ∙ ap (λ q. made ++ q ∷ rest) same
    ∙ ap (λ o. made ++ marked t o rest) (sym is)
    ∙ ap (λ l. made ++ points_from v l) (sym (drop_more ts i (pos 0) within))
    ∙ so_far

pub points-none : (v : ℤ → Option ℤ) (ts : List ℤ) (i : ℕ) (made all : List Point) → i < length ts → v (get_or ts i (pos 0)) ≡ None → made ++ points_from v (drop i ts) ≡ all → made ++ points_from v (drop (i + 1) ts) ≡ all
points-none v ts i made all within is so_far =
    let t = get_or ts i (pos 0) in
    ap (λ o. made ++ marked t o (points_from v (drop (i + 1) ts))) (sym is)
    ∙ ap (λ l. made ++ points_from v l) (sym (drop_more ts i (pos 0) within))
    ∙ so_far

-- ---- anchors

excluded : (f : ℤ → Bool) (s t : ℤ) → f s ≡ false → (not (int_eq s t) && f t) ≡ f t
excluded f s t h =
    elim (int_eq s t) as (λ b. int_eq s t ≡ b → (not b && f t) ≡ f t) [
      | true ↦ λ e. sym (ap f (sym (eq-times s t e)) ∙ h)
      | false ↦ λ e. refl
    ] refl

-- The anchors that pass a test of times are the anchors of the points that pass it.
pub filter-anchors : (f : ℤ → Bool) (b : List Point) → filter f (anchors b) ≡ anchors (filter (λ p. f p.time) b)
filter-anchors f [] = refl
filter-anchors f (p ∷ b) =
    let s = p.time in
    let other = λ (t : ℤ). not (int_eq s t) in
    let kept = filter (λ (q : Point). f q.time) b in
    let rest : filter f (anchors b) ≡ anchors kept = filter-anchors f b in
    elim (f s) as (λ c. f s ≡ c → cond c (s ∷ filter f (filter other (anchors b))) (filter f (filter other (anchors b))) ≡ anchors (cond c (p ∷ kept) kept)) [
      | true ↦ λ e. ap (λ l. s ∷ l) (filter-swap f other (anchors b) ∙ ap (filter other) rest)
      | false ↦ λ e. filter-filter f other (anchors b) ∙ filter-same (λ t. other t && f t) f (anchors b) (λ t. excluded f s t e) ∙ rest
    ] refl

-- The times of the points in ranges are the covered times of all points.
pub anchors-of_covered : (rs : List RangeValue) (b : List Point) → filter (covered rs) (anchors (filter (λ p. covered rs p.time) b)) ≡ filter (covered rs) (anchors b)
anchors-of_covered rs b =
    let inside = λ (p : Point). covered rs p.time in
    filter-anchors (covered rs) (filter inside b)
    ∙ ap anchors (filter-all inside (filter inside b) (filter-passes inside b))
    ∙ sym (filter-anchors (covered rs) b)

pub each-anchors : (P : ℤ → Type 0) (b : List Point) → AllByRecursion (λ p. P p.time) b → AllByRecursion P (anchors b)
each-anchors P [] h = tt
each-anchors P (p ∷ b) h = (h.0, each-filter P (λ t. not (int_eq p.time t)) (anchors b) (each-anchors P b h.1))

-- If the next point has the same time, the first counts for nothing.
twice : (s u : ℤ) (ts : List ℤ) → s ≡ u → filter (λ t. not (int_eq s t)) (u ∷ filter (λ t. not (int_eq u t)) ts) ≡ filter (λ t. not (int_eq u t)) ts
twice s u ts same =
    let other = λ (t : ℤ). not (int_eq u t) in
    ap (λ x. filter (λ t. not (int_eq x t)) (u ∷ filter other ts)) same
    ∙ ap (λ c. cond (not c) (u ∷ filter other (filter other ts)) (filter other (filter other ts))) (times-eq u u refl)
    ∙ filter-all other (filter other ts) (filter-passes other ts)

pub anchors-next : (p q : Point) (b : List Point) → p.time ≡ q.time → anchors (p ∷ q ∷ b) ≡ anchors (q ∷ b)
anchors-next p q b same =
    ap (λ l. p.time ∷ l) (twice p.time q.time (anchors b) same)
    ∙ ap (λ s. s ∷ filter (λ t. not (int_eq q.time t)) (anchors b)) same

-- If all other points are after the first, its time counts once.
pub anchors-last : (p : Point) (b : List Point) → AllByRecursion (λ q. p.time <ℤ q.time) b → anchors (p ∷ b) ≡ p.time ∷ anchors b
anchors-last p b late =
    ap (λ l. p.time ∷ l) (filter-all (λ t. not (int_eq p.time t)) (anchors b) (each-anchors (λ t. not (int_eq p.time t) ≡ true) b (each-weaker (λ q. p.time <ℤ q.time) (λ q. not (int_eq p.time q.time) ≡ true) (λ q h. not-eq p.time q.time h) b late)))

has-more : (t : ℤ) (p : Point) (b : List Point) → HasPointAt t b → HasPointAt t (p ∷ b)
has-more t p b h =
    elim (int_eq p.time t) as (λ c. 0 < length (cond c (p ∷ points_at t b) (points_at t b))) [
      | true ↦ omega arith
      | false ↦ h
    ]

has-first : (p : Point) (b : List Point) → HasPointAt p.time (p ∷ b)
has-first p b =
    let e : length (points_at p.time (p ∷ b)) ≡ length (p ∷ points_at p.time b) = ap (λ c. length (cond c (p ∷ points_at p.time b) (points_at p.time b))) (times-eq p.time p.time refl) in
    omega arith

-- Each anchor is the time of a point.
pub anchors-found : (b : List Point) → AllByRecursion (λ t. HasPointAt t b) (anchors b)
anchors-found [] = tt
anchors-found (p ∷ b) =
    (has-first p b, each-filter (λ t. HasPointAt t (p ∷ b)) (λ t. not (int_eq p.time t)) (anchors b) (each-weaker (λ t. HasPointAt t b) (λ t. HasPointAt t (p ∷ b)) (λ t h. has-more t p b h) (anchors b) (anchors-found b)))

pub anchors-each : (rs : List RangeValue) (b : List Point) → AreInDomain b → AllByRecursion (IsAnchor b) (filter (covered rs) (anchors b))
anchors-each rs b inside =
    each-filter (IsAnchor b) (covered rs) (anchors b) (each-weaker (λ t. InDomain t × HasPointAt t b) (IsAnchor b) (λ t h. record { in_domain = h.0; point = h.1 }) (anchors b) (each-both InDomain (λ t. HasPointAt t b) (anchors b) (each-anchors InDomain b inside) (anchors-found b)))

-- ---- ranges that begin earlier

-- The times of the one list, and all times so much before them in the domain, are times of the other.
pub record IsEnough (lead : ℕ) (rs past : List RangeValue) : Type 0 where
  pub enough : (t u : ℤ) → covered rs t ≡ true → FIRST ≤ℤ u → (t -ℤ pos lead) ≤ℤ u → u ≤ℤ t → covered past u ≡ true

within-times : (from to u : ℤ) → from ≤ℤ u → u <ℤ to → (int_le from u && int_lt u to) ≡ true
within-times from to u h k = grind (arith, ints)

earlier-contains : (lead : ℕ) (r : RangeValue) (t u : ℤ) → contains r t ≡ true → FIRST ≤ℤ u → (t -ℤ pos lead) ≤ℤ u → u ≤ℤ t → contains (begun_earlier lead r) u ≡ true
earlier-contains lead r t u h first low high =
    let inside = contains-from r t h in
    let begin : int_max FIRST (r.from -ℤ pos lead) ≤ℤ u = omega (arith, ints, clamps) in
    let end : u <ℤ r.to = omega (arith, ints) in
    within-times (int_max FIRST (r.from -ℤ pos lead)) r.to u begin end

or-left : (a b : Bool) → a ≡ true → (a || b) ≡ true
or-left a b h = ap (λ c. c || b) h

or-right : (a b : Bool) → b ≡ true → (a || b) ≡ true
or-right true b h = refl
or-right false b h = h

earlier-covered : (lead : ℕ) (rs : List RangeValue) (t u : ℤ) → covered rs t ≡ true → FIRST ≤ℤ u → (t -ℤ pos lead) ≤ℤ u → u ≤ℤ t → covered (map (begun_earlier lead) rs) u ≡ true
earlier-covered lead [] t u h first low high = absurd (cc)
earlier-covered lead (r ∷ rs) t u h first low high =
    elim (or_cases (contains r t) (covered rs t) h) [
      | inl here ↦ or-left (contains (begun_earlier lead r) u) (covered (map (begun_earlier lead) rs) u) (earlier-contains lead r t u here first low high)
      | inr later ↦ or-right (contains (begun_earlier lead r) u) (covered (map (begun_earlier lead) rs) u) (earlier-covered lead rs t u later first low high)
    ]

pub enough-earlier : (lead : ℕ) (rs past : List RangeValue) → ((t : ℤ) → covered past t ≡ covered (map (begun_earlier lead) rs) t) → IsEnough lead rs past
enough-earlier lead rs past same = record { enough = λ t u h first low high. same u ∙ earlier-covered lead rs t u h first low high }

-- ---- the part of an output in some ranges, from a part of the inputs

pub filter-each : {X : Type 0} (f g : X → Bool) (xs : List X) → AllByRecursion (λ x. f x ≡ g x) xs → filter f xs ≡ filter g xs
filter-each f g [] h = refl
filter-each f g (x ∷ xs) h =
    ap (λ t. cond t (x ∷ filter f xs) (filter f xs)) h.0 ∙ ap (λ l. cond (g x) (x ∷ l) l) (filter-each f g xs h.1)

implied : (a b : Bool) → (b ≡ true → a ≡ true) → (a && b) ≡ b
implied a true h = ap (λ c. c && true) (h refl)
implied true false h = refl
implied false false h = refl

is_within-true : (from to t : ℤ) → (int_le from t && int_lt t to) ≡ true → (from ≤ℤ t) × (t <ℤ to)
is_within-true from to t h = (grind (arith, ints), grind (arith, ints))

module _ (lead : ℕ) (rs past : List RangeValue) (enough : IsEnough lead rs past) where
  window-point : (t : ℤ) (p : Point) → covered rs t ≡ true → InDomain p.time → is_within (t -ℤ pos lead) (t +ℤ pos 1) p ≡ true → covered past p.time ≡ true
  window-point t p h inside e =
      let bounds = is_within-true (t -ℤ pos lead) (t +ℤ pos 1) p.time e in
      enough.enough t p.time h inside.0 bounds.0 (omega (arith, ints))

  pub window-part : (t : ℤ) (b : List Point) → covered rs t ≡ true → AreInDomain b → window lead t (filter (λ p. covered past p.time) b) ≡ window lead t b
  window-part t b h inside =
      let f = is_within (t -ℤ pos lead) (t +ℤ pos 1) in
      filter-filter f (λ p. covered past p.time) b
      ∙ filter-each (λ p. covered past p.time && f p) f b (each-weaker (λ p. InDomain p.time) (λ p. (covered past p.time && f p) ≡ f p) (λ p k. implied (covered past p.time) (f p) (window-point t p h k)) b inside)

  covered-itself : (p : Point) → InDomain p.time → covered rs p.time ≡ true → covered past p.time ≡ true
  covered-itself p inside h = enough.enough p.time p.time h inside.0 (omega (arith, ints)) (omega (arith, ints))

  pub anchors-part : (b : List Point) → AreInDomain b → filter (covered rs) (anchors (filter (λ p. covered past p.time) b)) ≡ filter (covered rs) (anchors b)
  anchors-part b inside =
      filter-anchors (covered rs) (filter (λ p. covered past p.time) b)
      ∙ ap anchors (filter-filter (λ p. covered rs p.time) (λ p. covered past p.time) b ∙ filter-each (λ p. covered past p.time && covered rs p.time) (λ p. covered rs p.time) b (each-weaker (λ p. InDomain p.time) (λ p. (covered past p.time && covered rs p.time) ≡ covered rs p.time) (λ p k. implied (covered past p.time) (covered rs p.time) (covered-itself p k)) b inside))
      ∙ sym (filter-anchors (covered rs) b)

-- The points of an output in ranges are those that the points of its inputs in longer ranges give.
pub kernel-part : (spec : Spec) (rs past : List RangeValue) (i j : Inputs) → IsEnough spec.lead rs past → AreInDomain i.first → AreInDomain i.second → j.first ≡ filter (λ p. covered past p.time) i.first → j.second ≡ filter (λ p. covered past p.time) i.second → points_from (value_of spec j) (filter (covered rs) (anchors j.first)) ≡ filter (λ p. covered rs p.time) (kernel_points spec i)
kernel-part spec rs past i j enough first second of_first of_second =
    let times : filter (covered rs) (anchors j.first) ≡ filter (covered rs) (anchors i.first) = ap (λ b. filter (covered rs) (anchors b)) of_first ∙ anchors-part spec.lead rs past enough i.first first in
    let same = λ (t : ℤ) (h : covered rs t ≡ true).
    let a : window spec.lead t j.first ≡ window spec.lead t i.first = ap (window spec.lead t) of_first ∙ window-part spec.lead rs past enough t i.first h first in
    let b : window spec.lead t j.second ≡ window spec.lead t i.second = ap (window spec.lead t) of_second ∙ window-part spec.lead rs past enough t i.second h second in
    let e : value_of spec j t ≡ value_of spec i t = λ k. value spec.kernel t (a k) (b k) in e in
    ap (points_from (value_of spec j)) times
    ∙ points_from-same (value_of spec j) (value_of spec i) (filter (covered rs) (anchors i.first)) (each-weaker (λ t. covered rs t ≡ true) (λ t. value_of spec j t ≡ value_of spec i t) same (filter (covered rs) (anchors i.first)) (filter-passes (covered rs) (anchors i.first)))
    ∙ sym (filter-points_from (covered rs) (value_of spec i) (anchors i.first))
