-- Lemmas on the points of an output: filters by time, their order, number and values, and that a version may hold them.
use Rattle.std.specs.Prelude.{◌≡◌, ℕ, ◌*◌, ◌≤◌, ℤ, pos, ◌+ℤ◌, ◌≤ℤ◌, ◌<ℤ◌, Bool, true, false, not, ◌&&◌}
use Rattle.std.specs.Prelude.{List, [], ◌∷◌, length, map, Option, Some, None, cond, IsTrue}
use Rattle.std.specs.List.{filter, cons_option, AllByRecursion}
use Rattle.std.specs.Option.{option_map}
use Rattle.std.specs.Ordering.{int_eq}
use Rattle.std.proofs.Common.{zero, suc, refl, sym, ap, ◌∙◌, arith}
use Rattle.std.proofs.lemmas.Int.{ints}
use Rattle.std.proofs.lemmas.Bool.{le-ltb}
use Rattle.std.proofs.lemmas.List.{length-map}
use Rattle.btr_base.specs.declared.limits.TheConstants.{FIRST, END, MAX_POINTS}
use Rattle.btr_base.specs.declared.point.Point.{Point}
use Rattle.btr_base.specs.Point.{is_not_after, InDomain, AreInDomain}
use Rattle.btr_base.specs.Bag.{IsInOrder, within, is_within}
use Rattle.btr_base.specs.Span.{width, time_at}
use Rattle.btr_base.specs.Crowded.{crowded}
use Rattle.btr_base.proofs.ListLemmas.{each-weaker, each-both, each-filter, filter-passes, filter-filter, filter-same, filter-swap, length-filter}
use Rattle.btr_base.proofs.PointLemmas.{is_not_after-times}
use Rattle.btr_base.proofs.SpanLemmas.{width-bottom}
use Rattle.btr_base.proofs.CrowdedLemmas.{HasRoom, crowded-none}
use Rattle.btr_hist.specs.declared.kernel.Spec.{Spec}
use Rattle.btr_hist.specs.declared.rejection.Rejection.{Rejection}
use Rattle.btr_hist.specs.declared.rejection.Rejection.TheVariants.{Crowded, TooManyPoints}
use Rattle.btr_hist.specs.Kernel.{distinct, anchors}
use Rattle.btr_hist.specs.Distil.{Inputs, value_of, points_from, kernel_points}
use Rattle.btr_hist.specs.Legal.{first_some, when, points_rejection}

-- ---- the distinct times

pub each-map : {A B : Type 0} (P : B → Type 0) (g : A → B) (xs : List A) → AllByRecursion (λ x. P (g x)) xs → AllByRecursion P (map g xs)
each-map P g [] h = tt
each-map P g (x ∷ xs) h = (h.0, each-map P g xs h.1)

pub each-distinct : (P : ℤ → Type 0) (ts : List ℤ) → AllByRecursion P ts → AllByRecursion P (distinct ts)
each-distinct P [] h = tt
each-distinct P (t ∷ ts) h = (h.0, each-filter P (λ u. not (int_eq t u)) (distinct ts) (each-distinct P ts h.1))

pub each-anchors : (P : ℤ → Type 0) (b : List Point) → AllByRecursion (λ p. P p.time) b → AllByRecursion P (anchors b)
each-anchors P b h = each-distinct P (map (λ p. p.time) b) (each-map P (λ p. p.time) b h)

distinct-length : (ts : List ℤ) → length (distinct ts) ≤ length ts
distinct-length [] = omega arith
distinct-length (t ∷ ts) =
    let fewer = length-filter (λ u. not (int_eq t u)) (distinct ts) in
    let rest = distinct-length ts in
    omega arith

-- There are no more distinct times than elements that they are taken from.
pub distinct_map-length : {A : Type 0} (g : A → ℤ) (xs : List A) → length (distinct (map g xs)) ≤ length xs
distinct_map-length g xs =
    let fewer = distinct-length (map g xs) in
    let same = length-map xs g in
    omega arith

same-time : (t u : ℤ) → int_eq t u ≡ true → t ≡ u
same-time t u h = grind (arith, ints)

-- A test that fails at a time implies that a time at which it holds is another.
other-time : (f : ℤ → Bool) (t u : ℤ) → f t ≡ false → (not (int_eq t u) && f u) ≡ f u
other-time f t u fails =
    elim (int_eq t u) as (λ s. int_eq t u ≡ s → (not s && f u) ≡ f u) [
      | true ↦ λ e. sym (sym (ap f (same-time t u e)) ∙ fails)
      | false ↦ λ _. refl
    ] refl

-- The distinct times that pass a test are the distinct ones of those that pass it.
pub filter-distinct : (f : ℤ → Bool) (ts : List ℤ) → filter f (distinct ts) ≡ distinct (filter f ts)
filter-distinct f [] = refl
filter-distinct f (t ∷ ts) =
    let others = λ (u : ℤ). not (int_eq t u) in
    let rest : filter f (filter others (distinct ts)) ≡ filter others (distinct (filter f ts)) =
    filter-swap f others (distinct ts) ∙ ap (filter others) (filter-distinct f ts) in
    elim (f t) as (λ s. f t ≡ s → cond s (t ∷ filter f (filter others (distinct ts))) (filter f (filter others (distinct ts))) ≡ distinct (cond s (t ∷ filter f ts) (filter f ts))) [
      | true ↦ λ _. ap (λ c. t ∷ c) rest
      | false ↦ λ fails.
          filter-filter f others (distinct ts)
          ∙ filter-same (λ u. others u && f u) f (distinct ts) (λ u. other-time f t u fails)
          ∙ filter-distinct f ts
    ] refl

cond-map : {A B : Type 0} (g : A → B) (s : Bool) (x : A) (xs : List A) → map g (cond s (x ∷ xs) xs) ≡ cond s (g x ∷ map g xs) (map g xs)
cond-map g s x xs = elim s as (λ s. map g (cond s (x ∷ xs) xs) ≡ cond s (g x ∷ map g xs) (map g xs)) [ true ↦ refl | false ↦ refl ]

pub filter-map : {A B : Type 0} (f : B → Bool) (g : A → B) (xs : List A) → filter f (map g xs) ≡ map g (filter (λ x. f (g x)) xs)
filter-map f g [] = refl
filter-map f g (x ∷ xs) =
    ap (λ c. cond (f (g x)) (g x ∷ c) c) (filter-map f g xs) ∙ sym (cond-map g (f (g x)) x (filter (λ x. f (g x)) xs))

-- The distinct times that pass a test are those of the elements of which the time passes it.
pub filter-distinct_map : {A : Type 0} (f : ℤ → Bool) (g : A → ℤ) (xs : List A) → filter f (distinct (map g xs)) ≡ distinct (map g (filter (λ x. f (g x)) xs))
filter-distinct_map f g xs = filter-distinct f (map g xs) ∙ ap distinct (filter-map f g xs)

-- The distinct times that pass a test are those of the points that pass it.
pub filter-anchors : (f : ℤ → Bool) (b : List Point) → filter f (anchors b) ≡ anchors (filter (λ p. f p.time) b)
filter-anchors f b = filter-distinct_map f (λ p. p.time) b

-- Each time is before all times after it.
abbrev pub Rising : List ℤ → Type 0
Rising [] = Unit {0}
Rising (t ∷ ts) = AllByRecursion (λ u. t <ℤ u) ts × Rising ts

pub filter-rising : (f : ℤ → Bool) (ts : List ℤ) → Rising ts → Rising (filter f ts)
filter-rising f [] h = tt
filter-rising f (t ∷ ts) h =
    elim (f t) as (λ s. Rising (cond s (t ∷ filter f ts) (filter f ts))) [
      | true ↦ (each-filter (λ u. t <ℤ u) f ts h.0, filter-rising f ts h.1)
      | false ↦ filter-rising f ts h.1
    ]

-- No time is before one that precedes it in the list.
abbrev pub NotFalling : List ℤ → Type 0
NotFalling [] = Unit {0}
NotFalling (t ∷ ts) = AllByRecursion (λ u. t ≤ℤ u) ts × NotFalling ts

later-other : (t u : ℤ) → t ≤ℤ u → not (int_eq t u) ≡ true → t <ℤ u
later-other t u h k = grind (arith, ints)

pub distinct-rising : (ts : List ℤ) → NotFalling ts → Rising (distinct ts)
distinct-rising [] h = tt
distinct-rising (t ∷ ts) h =
    let others = λ (u : ℤ). not (int_eq t u) in
    let not_before : AllByRecursion (λ u. t ≤ℤ u) (filter others (distinct ts)) = each-filter (λ u. t ≤ℤ u) others (distinct ts) (each-distinct (λ u. t ≤ℤ u) ts h.0) in
    let both = each-both (λ u. t ≤ℤ u) (λ u. others u ≡ true) (filter others (distinct ts)) not_before (filter-passes others (distinct ts)) in
    (each-weaker (λ u. (t ≤ℤ u) × (others u ≡ true)) (λ u. t <ℤ u) (λ u k. later-other t u k.0 k.1) (filter others (distinct ts)) both, filter-rising others (distinct ts) (distinct-rising ts h.1))

times-not_falling : (b : List Point) → IsInOrder b → NotFalling (map (λ p. p.time) b)
times-not_falling [] h = tt
times-not_falling (p ∷ b) h =
    let late : AllByRecursion (λ q. p.time ≤ℤ q.time) b = each-weaker (λ q. IsTrue (is_not_after p q)) (λ q. p.time ≤ℤ q.time) (λ q k. is_not_after-times p q k) b h.0 in
    (each-map (λ u. p.time ≤ℤ u) (λ q. q.time) b late, times-not_falling b h.1)

pub anchors-rising : (b : List Point) → IsInOrder b → Rising (anchors b)
anchors-rising b h = distinct-rising (map (λ p. p.time) b) (times-not_falling b h)

-- ---- the points that a function gives at some times

-- The point at a time with a value, if there is one.
abbrev pub point_from : ℤ → Option ℤ → Option Point
point_from t v = option_map (λ w. record { time = t; value = w }) v

cond-points : (f : ℤ → Option ℤ) (s : Bool) (t : ℤ) (ts : List ℤ) → points_from f (cond s (t ∷ ts) ts) ≡ cond s (cons_option (point_from t (f t)) (points_from f ts)) (points_from f ts)
cond-points f s t ts = elim s as (λ s. points_from f (cond s (t ∷ ts) ts) ≡ cond s (cons_option (point_from t (f t)) (points_from f ts)) (points_from f ts)) [ true ↦ refl | false ↦ refl ]

-- The points of which the times pass a test are those at the times that pass it.
pub filter-points_from : (f : ℤ → Option ℤ) (g : ℤ → Bool) (ts : List ℤ) → filter (λ p. g p.time) (points_from f ts) ≡ points_from f (filter g ts)
filter-points_from f g [] = refl
filter-points_from f g (t ∷ ts) =
    let rest = filter-points_from f g ts in
    elim (f t) as (λ o. filter (λ p. g p.time) (cons_option (point_from t o) (points_from f ts)) ≡ cond (g t) (cons_option (point_from t o) (points_from f (filter g ts))) (points_from f (filter g ts))) [
      | None ↦ rest ∙ elim (g t) as (λ s. points_from f (filter g ts) ≡ cond s (points_from f (filter g ts)) (points_from f (filter g ts))) [ true ↦ refl | false ↦ refl ]
      | Some v ↦ ap (λ c. cond (g t) (record { time = t; value = v } ∷ c) c) rest
    ]
    ∙ sym (cond-points f (g t) t (filter g ts))

-- Functions that agree at each of the times give the same points.
pub points_from-same : (f g : ℤ → Option ℤ) (ts : List ℤ) → AllByRecursion (λ t. f t ≡ g t) ts → points_from f ts ≡ points_from g ts
points_from-same f g [] h = refl
points_from-same f g (t ∷ ts) h =
    ap (λ o. cons_option (point_from t o) (points_from f ts)) h.0 ∙ ap (cons_option (point_from t (g t))) (points_from-same f g ts h.1)

-- What holds of each time holds of the time of each point.
pub each-points_from : (P : ℤ → Type 0) (f : ℤ → Option ℤ) (ts : List ℤ) → AllByRecursion P ts → AllByRecursion (λ p. P p.time) (points_from f ts)
each-points_from P f [] h = tt
each-points_from P f (t ∷ ts) h =
    let rest = each-points_from P f ts h.1 in
    elim (f t) as (λ o. AllByRecursion (λ p. P p.time) (cons_option (point_from t o) (points_from f ts))) [
      | None ↦ rest
      | Some v ↦ (h.0, rest)
    ]

pub points_from-length : (f : ℤ → Option ℤ) (ts : List ℤ) → length (points_from f ts) ≤ length ts
points_from-length f [] = omega arith
points_from-length f (t ∷ ts) =
    let rest = points_from-length f ts in
    elim (f t) as (λ o. length (cons_option (point_from t o) (points_from f ts)) ≤ length (t ∷ ts)) [
      | None ↦ omega arith
      | Some v ↦ omega arith
    ]

-- ---- points of which each is at a later time than those before

-- The time of each point is before the times of all points after it.
abbrev pub TimesRise : List Point → Type 0
TimesRise [] = Unit {0}
TimesRise (p ∷ ps) = AllByRecursion (λ q. p.time <ℤ q.time) ps × TimesRise ps

pub points_from-rise : (f : ℤ → Option ℤ) (ts : List ℤ) → Rising ts → TimesRise (points_from f ts)
points_from-rise f [] h = tt
points_from-rise f (t ∷ ts) h =
    let rest = points_from-rise f ts h.1 in
    elim (f t) as (λ o. TimesRise (cons_option (point_from t o) (points_from f ts))) [
      | None ↦ rest
      | Some v ↦ (each-points_from (λ u. t <ℤ u) f ts h.0, rest)
    ]

not_after-later : (p q : Point) → p.time <ℤ q.time → is_not_after p q ≡ true
not_after-later p q h = grind (arith, ints)

pub rise-in_order : (b : List Point) → TimesRise b → IsInOrder b
rise-in_order [] h = tt
rise-in_order (p ∷ b) h =
    (each-weaker (λ q. p.time <ℤ q.time) (λ q. IsTrue (is_not_after p q)) (λ q k. not_after-later p q k) b h.0, rise-in_order b h.1)

pub filter-rise : (f : Point → Bool) (b : List Point) → TimesRise b → TimesRise (filter f b)
filter-rise f [] h = tt
filter-rise f (p ∷ b) h =
    elim (f p) as (λ s. TimesRise (cond s (p ∷ filter f b) (filter f b))) [
      | true ↦ (each-filter (λ q. p.time <ℤ q.time) f b h.0, filter-rise f b h.1)
      | false ↦ filter-rise f b h.1
    ]

-- At most n points lie in n nanoseconds.
rise-few : (n : ℕ) (from : ℤ) (b : List Point) → TimesRise b → AllByRecursion (λ q. (from ≤ℤ q.time) × (q.time <ℤ (from +ℤ pos n))) b → length b ≤ n
rise-few n from [] h k = omega arith
rise-few zero from (p ∷ b) h k =
    let low = k.0.0 in
    let high = k.0.1 in
    absurd (omega (arith, ints))
rise-few (suc n) from (p ∷ b) h k =
    let low = k.0.0 in
    let both = each-both (λ q. p.time <ℤ q.time) (λ q. (from ≤ℤ q.time) × (q.time <ℤ (from +ℤ pos (suc n)))) b h.0 k.1 in
    let rest = rise-few n (from +ℤ pos 1) b h.1 (each-weaker (λ q. (p.time <ℤ q.time) × ((from ≤ℤ q.time) × (q.time <ℤ (from +ℤ pos (suc n))))) (λ q. ((from +ℤ pos 1) ≤ℤ q.time) × (q.time <ℤ ((from +ℤ pos 1) +ℤ pos n))) (λ q j. let later = j.0 in let ends = j.1.1 in (omega (arith, ints), omega (arith, ints))) b both) in
    omega arith

is_within-times : (from to : ℤ) (p : Point) → is_within from to p ≡ true → (from ≤ℤ p.time) × (p.time <ℤ to)
is_within-times from to p h = (grind (arith, ints), grind (arith, ints))

-- At most four points lie in a bottom span.
pub rise-bottom : (start : ℤ) (b : List Point) → TimesRise b → length (within start (start +ℤ pos (width 0)) b) ≤ 4
rise-bottom start b h =
    let wide = width-bottom in
    let end = start +ℤ pos (width 0) in
    rise-few 4 start (within start end b) (filter-rise (is_within start end) b h) (each-weaker (λ q. is_within start end q ≡ true) (λ q. (start ≤ℤ q.time) × (q.time <ℤ (start +ℤ pos 4))) (λ q k. let at = is_within-times start end q k in let low = at.0 in let high = at.1 in (low, omega (arith, ints))) (within start end b) (filter-passes (is_within start end) b))

pub rise-uncrowded : (b : List Point) → TimesRise b → AreInDomain b → crowded b ≡ None
rise-uncrowded b h inside =
    let room : HasRoom FIRST END b = λ k low high. let few = rise-bottom (time_at (k * width 0)) b h in omega arith in
    crowded-none b inside room

-- ---- the points of an output

pub kernel-times : (spec : Spec) (i : Inputs) → IsInOrder i.first → TimesRise (kernel_points spec i)
kernel-times spec i h = points_from-rise (value_of spec i) (anchors i.first) (anchors-rising i.first h)

pub kernel-in_order : (spec : Spec) (i : Inputs) → IsInOrder i.first → IsInOrder (kernel_points spec i)
kernel-in_order spec i h = rise-in_order (kernel_points spec i) (kernel-times spec i h)

pub kernel-in_domain : (spec : Spec) (i : Inputs) → AreInDomain i.first → AreInDomain (kernel_points spec i)
kernel-in_domain spec i h = each-points_from InDomain (value_of spec i) (anchors i.first) (each-anchors InDomain i.first h)

pub kernel-length : (spec : Spec) (i : Inputs) → length (kernel_points spec i) ≤ length i.first
kernel-length spec i =
    let few = points_from-length (value_of spec i) (anchors i.first) in
    let times = distinct_map-length (λ (p : Point). p.time) i.first in
    omega arith

pub none-first : (a b : Option Rejection) → a ≡ None → b ≡ None → first_some (a ∷ b ∷ []) ≡ None
none-first a b h k = ap (λ o. first_some (o ∷ b ∷ [])) h ∙ ap (λ o. first_some (o ∷ [])) k

-- A version may hold points of which each is at a later time than those before, if they are not too many.
pub rise-accepted : (b : List Point) → TimesRise b → AreInDomain b → length b ≤ MAX_POINTS → points_rejection b ≡ None
rise-accepted b rise inside few =
    none-first _ _ (ap (option_map (λ start. Crowded start)) (rise-uncrowded b rise inside)) (ap (λ s. when s (TooManyPoints (length b))) (le-ltb MAX_POINTS (length b) few))

pub kernel-accepted : (spec : Spec) (i : Inputs) → IsInOrder i.first → AreInDomain i.first → length i.first ≤ MAX_POINTS → points_rejection (kernel_points spec i) ≡ None
kernel-accepted spec i order inside few =
    let fewer = kernel-length spec i in
    rise-accepted (kernel_points spec i) (kernel-times spec i order) (kernel-in_domain spec i inside) (omega arith)
