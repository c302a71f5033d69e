-- Lemmas on the slots in which two bags differ, part by part in order of time.
use Rattle.std.specs.Prelude.{◌≡◌, ℕ, ◌+◌, ◌-◌, ◌*◌, ◌/◌, ◌^◌, ◌<◌, ◌⊎◌, ℤ, pos, ◌+ℤ◌, ◌-ℤ◌, unsigned_abs, Bool, true, false, not, ◌&&◌, ◌||◌, int_le, int_lt, ◌≤ℤ◌, ◌<ℤ◌, List, [], ◌∷◌, ◌++◌, map, cond, length, drop}
use Rattle.std.specs.Int.{int_min}
use Rattle.std.specs.Ordering.{int_eq}
use Rattle.std.specs.List.{filter, list_any, AllByRecursion}
use Rattle.std.proofs.Common.{zero, suc, refl, sym, ap, ◌∙◌, arith, append-nil, subst, ◌≤◌, get_or, inl, inr}
use Rattle.std.proofs.lemmas.Bool.{or_left, or_right}
use Rattle.std.proofs.lemmas.Int.{ints, clamps, by_lt_z}
use Rattle.std.proofs.lemmas.List.{drop_more}
use Rattle.std.proofs.lemmas.Nat.{pow_pos, le-div}
use Rattle.std.proofs.lemmas.List.Folds.{list_any-append}
use Rattle.btr_base.specs.declared.limits.TheConstants.{FIRST, END}
use Rattle.btr_base.specs.declared.point.Point.{Point}
use Rattle.btr_base.specs.Point.{is_not_after, InDomain, AreInDomain}
use Rattle.btr_base.specs.Range.{RangeValue, IsCut, contains, covered}
use Rattle.btr_base.specs.Bag.{IsInOrder, insert, sort, within, is_within}
use Rattle.btr_base.specs.Cut.{lengthened, union}
use Rattle.btr_base.specs.Changes.{points_at, same_points, differ_at, slot_around, changes}
use Rattle.btr_base.specs.Windows.{window_at}
use Rattle.btr_base.proofs.SpanLemmas.{less-times}
use Rattle.btr_base.proofs.ListLemmas.{each-weaker, each-both, filter-append, filter-all, filter-none, filter-passes}
use Rattle.btr_base.proofs.PointLemmas.{same_point-refl, same_point-true, times-rise}
use Rattle.btr_base.proofs.RangeLemmas.{contains-from}
use Rattle.std.proofs.Math.Bool.{or-false}
use Rattle.btr_base.proofs.CutLemmas.{lengthened-each, union-is}
use Rattle.btr_base.proofs.WithinLemmas.{within-split}
use Rattle.btr_base.proofs.ChangesLemmas.{slot-is, slot-follows, slot-contains, changes-cut, changes-lengthened}
use Rattle.btr_diff.specs.declared.comparison.Comparison.{Comparison}
use Rattle.btr_diff.specs.Comparison.{reach, is_changed_at, AddsChangedSlots}

-- ---- Tests on lists.

any-filter : {X : Type 0} (f g : X → Bool) (xs : List X) → list_any f (filter g xs) ≡ list_any (λ x. g x && f x) xs
any-filter f g [] = refl
any-filter f g (x ∷ xs) =
    elim (g x) as (λ t. list_any f (cond t (x ∷ filter g xs) (filter g xs)) ≡ ((t && f x) || list_any (λ y. g y && f y) xs)) [
      | true ↦ ap (λ t. f x || t) (any-filter f g xs)
      | false ↦ any-filter f g xs
    ]

swapped : (a b c d : Bool) → c ≡ (b || d) → (a || c) ≡ (b || (a || d))
swapped a b c d e = grind arith

any-insert : (f : Point → Bool) (p : Point) (b : List Point) → list_any f (insert p b) ≡ (f p || list_any f b)
any-insert f p [] = refl
any-insert f p (q ∷ b) =
    elim (is_not_after p q) as (λ t. list_any f (cond t (p ∷ q ∷ b) (q ∷ insert p b)) ≡ (f p || list_any f (q ∷ b))) [
      | true ↦ refl
      | false ↦ swapped (f q) (f p) (list_any f (insert p b)) (list_any f b) (any-insert f p b)
    ]

any-sort : (f : Point → Bool) (b : List Point) → list_any f (sort b) ≡ list_any f b
any-sort f [] = refl
any-sort f (p ∷ b) = any-insert f p (sort b) ∙ ap (λ t. f p || t) (any-sort f b)

any-same : {X : Type 0} (f g : X → Bool) (xs : List X) → AllByRecursion (λ x. f x ≡ g x) xs → list_any f xs ≡ list_any g xs
any-same f g [] h = refl
any-same f g (x ∷ xs) h = ap (λ t. t || list_any f xs) h.0 ∙ ap (λ t. g x || t) (any-same f g xs h.1)

any-none : {X : Type 0} (f : X → Bool) (xs : List X) → AllByRecursion (λ x. f x ≡ false) xs → list_any f xs ≡ false
any-none f [] h = refl
any-none f (x ∷ xs) h = ap (λ t. t || list_any f xs) h.0 ∙ any-none f xs h.1

-- ---- A point of one of the two.

-- The bags differ at the time of the point, and its slot has the time.
abbrev pub names : Comparison → List Point → List Point → ℤ → Point → Bool
names by a b t q =
    (differ_at a b q.time && (int_le FIRST q.time && int_lt q.time END)) && contains (reach by q.time) t

pub is_changed_at-is : (by : Comparison) (a b : List Point) (t : ℤ) → is_changed_at by a b t ≡ (list_any (names by a b t) a || list_any (names by a b t) b)
unfolding is_changed_at
is_changed_at-is by a b t =
    any-filter (λ q. contains (reach by q.time) t) (λ q. differ_at a b q.time && (int_le FIRST q.time && int_lt q.time END)) (sort (a ++ b))
    ∙ any-sort (names by a b t) (a ++ b)
    ∙ list_any-append (names by a b t) a b

-- ---- Parts in order of time.

abbrev pub Before : ℤ → List Point → Type 0
Before m b = AllByRecursion (λ q. q.time <ℤ m) b

abbrev pub From : ℤ → List Point → Type 0
From m b = AllByRecursion (λ q. m ≤ℤ q.time) b

not_at-early : (u m : ℤ) (b : List Point) → m ≤ℤ u → Before m b → points_at u b ≡ []
not_at-early u m b low h =
    filter-none (λ q. int_eq q.time u) b (each-weaker (λ q. q.time <ℤ m) (λ q. int_eq q.time u ≡ false) (λ q k. grind (arith, ints)) b h)

not_at-late : (u m : ℤ) (b : List Point) → u <ℤ m → From m b → points_at u b ≡ []
not_at-late u m b low h =
    filter-none (λ q. int_eq q.time u) b (each-weaker (λ q. m ≤ℤ q.time) (λ q. int_eq q.time u ≡ false) (λ q k. grind (arith, ints)) b h)

at-early : (u m : ℤ) (a b : List Point) → u <ℤ m → From m b → points_at u (a ++ b) ≡ points_at u a
at-early u m a b low h =
    filter-append (λ q. int_eq q.time u) a b
    ∙ ap (λ c. points_at u a ++ c) (not_at-late u m b low h)
    ∙ append-nil (points_at u a)

at-late : (u m : ℤ) (a b : List Point) → m ≤ℤ u → Before m a → points_at u (a ++ b) ≡ points_at u b
at-late u m a b low h =
    filter-append (λ q. int_eq q.time u) a b ∙ ap (λ c. c ++ points_at u b) (not_at-early u m a low h)

-- Two bags, each in two parts: the points before a time, and the points from it on.
pub record AreParts (m : ℤ) (a b c d : List Point) : Type 0 where
  pub a_before : Before m a
  pub b_before : Before m b
  pub c_from : From m c
  pub d_from : From m d

names-early : (by : Comparison) (t m : ℤ) (a b c d : List Point) (q : Point) → AreParts m a b c d → q.time <ℤ m → names by (a ++ c) (b ++ d) t q ≡ names by a b t q
names-early by t m a b c d q h low =
    ap (λ x. (not (same_points x (points_at q.time (b ++ d))) && (int_le FIRST q.time && int_lt q.time END)) && contains (reach by q.time) t) (at-early q.time m a c low h.c_from)
    ∙ ap (λ x. (not (same_points (points_at q.time a) x) && (int_le FIRST q.time && int_lt q.time END)) && contains (reach by q.time) t) (at-early q.time m b d low h.d_from)

names-late : (by : Comparison) (t m : ℤ) (a b c d : List Point) (q : Point) → AreParts m a b c d → m ≤ℤ q.time → names by (a ++ c) (b ++ d) t q ≡ names by c d t q
names-late by t m a b c d q h low =
    ap (λ x. (not (same_points x (points_at q.time (b ++ d))) && (int_le FIRST q.time && int_lt q.time END)) && contains (reach by q.time) t) (at-late q.time m a c low h.a_before)
    ∙ ap (λ x. (not (same_points (points_at q.time c) x) && (int_le FIRST q.time && int_lt q.time END)) && contains (reach by q.time) t) (at-late q.time m b d low h.b_before)

any-early : (by : Comparison) (t m : ℤ) (a b c d x : List Point) → AreParts m a b c d → Before m x → list_any (names by (a ++ c) (b ++ d) t) x ≡ list_any (names by a b t) x
any-early by t m a b c d x h low =
    any-same (names by (a ++ c) (b ++ d) t) (names by a b t) x (each-weaker (λ q. q.time <ℤ m) (λ q. names by (a ++ c) (b ++ d) t q ≡ names by a b t q) (λ q k. names-early by t m a b c d q h k) x low)

any-late : (by : Comparison) (t m : ℤ) (a b c d x : List Point) → AreParts m a b c d → From m x → list_any (names by (a ++ c) (b ++ d) t) x ≡ list_any (names by c d t) x
any-late by t m a b c d x h low =
    any-same (names by (a ++ c) (b ++ d) t) (names by c d t) x (each-weaker (λ q. m ≤ℤ q.time) (λ q. names by (a ++ c) (b ++ d) t q ≡ names by c d t q) (λ q k. names-late by t m a b c d q h k) x low)

or-assoc : (a b c : Bool) → ((a || b) || c) ≡ (a || (b || c))
or-assoc true b c = refl
or-assoc false b c = refl

crossed : (a b c d : Bool) → ((a || c) || (b || d)) ≡ ((a || b) || (c || d))
crossed a b c d = grind arith

both-same : (a b c d : Bool) → a ≡ c → b ≡ d → (a || b) ≡ (c || d)
both-same a b c d e f = ap (λ x. x || b) e ∙ ap (λ x. c || x) f

-- The changed slots of two bags, part by part.
pub is_changed_at-parts : (by : Comparison) (t m : ℤ) (a b c d : List Point) → AreParts m a b c d → is_changed_at by (a ++ c) (b ++ d) t ≡ (is_changed_at by a b t || is_changed_at by c d t)
is_changed_at-parts by t m a b c d h =
    let whole = names by (a ++ c) (b ++ d) t in
    is_changed_at-is by (a ++ c) (b ++ d) t
    ∙ both-same (list_any whole (a ++ c)) (list_any whole (b ++ d)) (list_any (names by a b t) a || list_any (names by c d t) c) (list_any (names by a b t) b || list_any (names by c d t) d) (list_any-append whole a c ∙ both-same (list_any whole a) (list_any whole c) (list_any (names by a b t) a) (list_any (names by c d t) c) (any-early by t m a b c d a h h.a_before) (any-late by t m a b c d c h h.c_from)) (list_any-append whole b d ∙ both-same (list_any whole b) (list_any whole d) (list_any (names by a b t) b) (list_any (names by c d t) d) (any-early by t m a b c d b h h.b_before) (any-late by t m a b c d d h h.d_from))
    ∙ crossed (list_any (names by a b t) a) (list_any (names by a b t) b) (list_any (names by c d t) c) (list_any (names by c d t) d)
    ∙ sym (both-same (is_changed_at by a b t) (is_changed_at by c d t) (list_any (names by a b t) a || list_any (names by a b t) b) (list_any (names by c d t) c || list_any (names by c d t) d) (is_changed_at-is by a b t) (is_changed_at-is by c d t))

-- ---- The points of one time.

pub same_points-refl : (a : List Point) → same_points a a ≡ true
same_points-refl [] = refl
same_points-refl (q ∷ a) = ap (λ t. t && same_points a a) (same_point-refl q) ∙ same_points-refl a

pub same_points-true : (a b : List Point) → same_points a b ≡ true → a ≡ b
same_points-true [] [] h = refl
same_points-true [] (r ∷ b) h = cc
same_points-true (q ∷ a) [] h = cc
same_points-true (q ∷ a) (r ∷ b) h =
    let first = same_point-true q r (grind arith) in
    let rest = same_points-true a b (grind arith) in
    cc

each-of : {X : Type 0} (P : X → Type 0) (xs : List X) → ((x : X) → P x) → AllByRecursion P xs
each-of P [] h = tt
each-of P (x ∷ xs) h = (h x, each-of P xs h)

-- Equal bags do not differ.
pub is_changed_at-same : (by : Comparison) (a : List Point) (t : ℤ) → is_changed_at by a a t ≡ false
is_changed_at-same by a t =
    let none : (q : Point) → names by a a t q ≡ false = λ q. ap (λ x. (not x && (int_le FIRST q.time && int_lt q.time END)) && contains (reach by q.time) t) (same_points-refl (points_at q.time a)) in
    let each : list_any (names by a a t) a ≡ false = any-none (names by a a t) a (each-of (λ q. names by a a t q ≡ false) a none) in
    is_changed_at-is by a a t
    ∙ both-same (list_any (names by a a t) a) (list_any (names by a a t) a) false false each each

-- If a test has one answer at all elements of a list that is not empty, that is its answer at the list.
any-alike : {X : Type 0} (f : X → Bool) (s : Bool) (x : X) (xs : List X) → AllByRecursion (λ y. f y ≡ s) (x ∷ xs) → list_any f (x ∷ xs) ≡ s
any-alike f true x xs h = ap (λ t. t || list_any f xs) h.0
any-alike f false x xs h = any-none f (x ∷ xs) h

abbrev pub AllAt : ℤ → List Point → Type 0
AllAt u b = AllByRecursion (λ q. q.time ≡ u) b

in_domain : (u : ℤ) → InDomain u → (int_le FIRST u && int_lt u END) ≡ true
in_domain u h =
    let low = h.0 in
    let high = h.1 in
    grind (arith, ints)

at-all : (u : ℤ) (b : List Point) → AllAt u b → points_at u b ≡ b
at-all u b h =
    filter-all (λ q. int_eq q.time u) b (each-weaker (λ q. q.time ≡ u) (λ q. int_eq q.time u ≡ true) (λ q k. grind (arith, ints)) b h)

names-at : (by : Comparison) (a b : List Point) (t u : ℤ) → AllAt u a → AllAt u b → same_points a b ≡ false → InDomain u → (q : Point) → q.time ≡ u → names by a b t q ≡ contains (reach by u) t
names-at by a b t u h k differ inside q e =
    ap (λ v. (differ_at a b v && (int_le FIRST v && int_lt v END)) && contains (reach by v) t) e
    ∙ ap (λ x. (not (same_points x (points_at u b)) && (int_le FIRST u && int_lt u END)) && contains (reach by u) t) (at-all u a h)
    ∙ ap (λ x. (not (same_points a x) && (int_le FIRST u && int_lt u END)) && contains (reach by u) t) (at-all u b k)
    ∙ ap (λ x. (not x && (int_le FIRST u && int_lt u END)) && contains (reach by u) t) differ
    ∙ ap (λ x. x && contains (reach by u) t) (in_domain u inside)

any-times : (by : Comparison) (a b : List Point) (t u : ℤ) → AllAt u a → AllAt u b → same_points a b ≡ false → InDomain u → (x : List Point) → AllAt u x → AllByRecursion (λ q. names by a b t q ≡ contains (reach by u) t) x
any-times by a b t u h k differ inside x at =
    each-weaker (λ q. q.time ≡ u) (λ q. names by a b t q ≡ contains (reach by u) t) (names-at by a b t u h k differ inside) x at

same-both : (s : Bool) → (s || s) ≡ s
same-both true = refl
same-both false = refl

-- Two different bags of one time change the slot around that time.
pub is_changed_at-time : (by : Comparison) (a b : List Point) (t u : ℤ) → AllAt u a → AllAt u b → same_points a b ≡ false → InDomain u → is_changed_at by a b t ≡ contains (reach by u) t
is_changed_at-time by [] [] t u h k differ inside = cc
is_changed_at-time by [] (r ∷ b) t u h k differ inside =
    let all = names by [] (r ∷ b) t in
    is_changed_at-is by [] (r ∷ b) t ∙ any-alike all (contains (reach by u) t) r b (any-times by [] (r ∷ b) t u h k differ inside (r ∷ b) k)
is_changed_at-time by (q ∷ a) [] t u h k differ inside =
    let all = names by (q ∷ a) [] t in
    let s = contains (reach by u) t in
    let first = any-alike all s q a (any-times by (q ∷ a) [] t u h k differ inside (q ∷ a) h) in
    is_changed_at-is by (q ∷ a) [] t ∙ or-false (list_any all (q ∷ a)) ∙ first
is_changed_at-time by (q ∷ a) (r ∷ b) t u h k differ inside =
    let all = names by (q ∷ a) (r ∷ b) t in
    let s = contains (reach by u) t in
    is_changed_at-is by (q ∷ a) (r ∷ b) t
    ∙ both-same (list_any all (q ∷ a)) (list_any all (r ∷ b)) s s (any-alike all s q a (any-times by (q ∷ a) (r ∷ b) t u h k differ inside (q ∷ a) h)) (any-alike all s r b (any-times by (q ∷ a) (r ∷ b) t u h k differ inside (r ∷ b) k))
    ∙ same-both s

-- ---- What is added, part by part.

pub adds-none : (by : Comparison) (was : List RangeValue) (a : List Point) → AddsChangedSlots by was was a a
adds-none by was a = record { times = λ t. sym (ap (λ s. covered was t || s) (is_changed_at-same by a t) ∙ or-false (covered was t)) }

pub adds-parts : (by : Comparison) (was mid now : List RangeValue) (m : ℤ) (a b c d : List Point) → AreParts m a b c d → AddsChangedSlots by was mid a b → AddsChangedSlots by mid now c d → AddsChangedSlots by was now (a ++ c) (b ++ d)
adds-parts by was mid now m a b c d h x y =
    record {
      times = λ t.
          y.times t
          ∙ ap (λ s. s || is_changed_at by c d t) (x.times t)
          ∙ or-assoc (covered was t) (is_changed_at by a b t) (is_changed_at by c d t)
          ∙ ap (λ s. covered was t || s) (sym (is_changed_at-parts by t m a b c d h));
    }

-- ---- The points of a slot that is added already.

offsets-rise : (t u : ℤ) (o v : ℕ) → t ≡ FIRST +ℤ pos o → u ≡ FIRST +ℤ pos v → t ≤ℤ u → o ≤ v
offsets-rise t u o v is next later = omega (arith, ints)

slot-less : (u : ℤ) (v begin end ends : ℕ) (to : ℤ) → u ≡ FIRST +ℤ pos v → to ≡ FIRST +ℤ pos end → u <ℤ to → begin ≤ v → ends ≡ end → begin < ends
slot-less u v begin end ends to time is inside low same = omega (arith, ints)

-- The slot around a later time of a slot is the slot itself.
slot-later : (p : ℕ) (t u : ℤ) → FIRST ≤ℤ t → t ≤ℤ u → u <ℤ (slot_around p t).to → slot_around p u ≡ slot_around p t
slot-later p t u low later inside =
    let o = unsigned_abs (t -ℤ FIRST) in
    let v = unsigned_abs (u -ℤ FIRST) in
    let is = slot-is p t low in
    let next = slot-is p u (omega (arith, ints)) in
    let rise : o ≤ v = offsets-rise t u o v is.time next.time later in
    let begins = is.begins in
    let more : o / 2 ^ p ≤ v / 2 ^ p = le-div (o / 2 ^ p) v (2 ^ p) (pow_pos p) (omega arith) in
    let split : (o / 2 ^ p + 1) * 2 ^ p ≡ o / 2 ^ p * 2 ^ p + 2 ^ p = omega arith in
    let less : v / 2 ^ p < o / 2 ^ p + 1 = less-times (v / 2 ^ p) (o / 2 ^ p + 1) (2 ^ p) (slot-less u v (v / 2 ^ p * 2 ^ p) (o / 2 ^ p * 2 ^ p + 2 ^ p) ((o / 2 ^ p + 1) * 2 ^ p) (slot_around p t).to next.time is.to inside next.begins split) in
    let same : v / 2 ^ p ≡ o / 2 ^ p = omega arith in
    let slot : ℕ → RangeValue = λ k. record { from = window_at FIRST (2 ^ p) k; to = window_at FIRST (2 ^ p) (k + 1) } in
    ap slot same

-- All points have this reach.
abbrev pub AllIn : Comparison → RangeValue → List Point → Type 0
AllIn by s b = AllByRecursion (λ q. reach by q.time ≡ s) b

-- The points from a time to the end of its slot have the reach of the time.
pub all-in : (by : Comparison) (t m : ℤ) (b : List Point) → FIRST ≤ℤ t → m ≡ (slot_around by.p t).to → From t b → Before m b → AllIn by (reach by t) b
all-in by t m b low e h k =
    each-weaker (λ q. (t ≤ℤ q.time) × (q.time <ℤ m)) (λ q. reach by q.time ≡ reach by t) (λ q both. ap (lengthened by.lead) (slot-later by.p t q.time low both.0 (subst (λ u. q.time <ℤ u) e both.1))) b (each-both (λ q. t ≤ℤ q.time) (λ q. q.time <ℤ m) b h k)

and-false : (a : Bool) → (a && false) ≡ false
and-false true = refl
and-false false = refl

none-outside : (by : Comparison) (a b : List Point) (t : ℤ) (s : RangeValue) (x : List Point) → contains s t ≡ false → AllIn by s x → list_any (names by a b t) x ≡ false
none-outside by a b t s x out h =
    any-none (names by a b t) x (each-weaker (λ q. reach by q.time ≡ s) (λ q. names by a b t q ≡ false) (λ q e.
    let differs = differ_at a b q.time && (int_le FIRST q.time && int_lt q.time END) in
    ap (λ r. differs && contains r t) e ∙ ap (λ c. differs && c) out ∙ and-false differs) x h)

or-true : (a b : Bool) → a ≡ true → a ≡ (a || b)
or-true a b h = grind arith

-- Points of a slot that the ranges cover add nothing.
pub adds-covered : (by : Comparison) (was : List RangeValue) (s : RangeValue) (a b : List Point) → ((t : ℤ) → contains s t ≡ true → covered was t ≡ true) → AllIn by s a → AllIn by s b → AddsChangedSlots by was was a b
adds-covered by was s a b has h k =
    record {
      times = λ t. elim (contains s t) as (λ c. contains s t ≡ c → covered was t ≡ (covered was t || is_changed_at by a b t)) [
        | true ↦ λ e. or-true (covered was t) (is_changed_at by a b t) (has t e)
        | false ↦ λ e. sym (ap (λ c. covered was t || c) (is_changed_at-is by a b t ∙ both-same (list_any (names by a b t) a) (list_any (names by a b t) b) false false (none-outside by a b t s a e h) (none-outside by a b t s b e k)) ∙ or-false (covered was t))
      ] refl;
    }

before-within : (x m : ℤ) (b : List Point) → Before m (within x m b)
before-within x m b =
    each-weaker (λ q. is_within x m q ≡ true) (λ q. q.time <ℤ m) (λ q k. grind (arith, ints)) (within x m b) (filter-passes (is_within x m) b)

from-within : (m y : ℤ) (b : List Point) → From m (within m y b)
from-within m y b =
    each-weaker (λ q. is_within m y q ≡ true) (λ q. m ≤ℤ q.time) (λ q k. grind (arith, ints)) (within m y b) (filter-passes (is_within m y) b)

pub within-parts : (x m y : ℤ) (a b : List Point) → AreParts m (within x m a) (within x m b) (within m y a) (within m y b)
within-parts x m y a b =
    record {
      a_before = before-within x m a;
      b_before = before-within x m b;
      c_from = from-within m y a;
      d_from = from-within m y b;
    }

-- What is added up to a time, and from that time on.
pub adds-within : (by : Comparison) (was mid now : List RangeValue) (x m y : ℤ) (a b : List Point) → x ≤ℤ m → m ≤ℤ y → IsInOrder a → IsInOrder b → AddsChangedSlots by was mid (within x m a) (within x m b) → AddsChangedSlots by mid now (within m y a) (within m y b) → AddsChangedSlots by was now (within x y a) (within x y b)
adds-within by was mid now x m y a b low high first second before here =
    let whole = adds-parts by was mid now m (within x m a) (within x m b) (within m y a) (within m y b) (within-parts x m y a b) before here in
    subst (λ c. AddsChangedSlots by was now c (within x y b)) (sym (within-split x m y a low high first)) (subst (λ d. AddsChangedSlots by was now (within x m a ++ within m y a) d) (sym (within-split x m y b low high second)) whole)

-- What is added to no range are the changes, longer.
pub adds-all : (by : Comparison) (now : List RangeValue) (a b : List Point) → by.p ≤ 62 → IsCut now → AddsChangedSlots by [] now a b → now ≡ union (map (lengthened by.lead) (changes by.p a b))
unfolding is_changed_at
adds-all by now a b low cut h =
    union-is now (map (lengthened by.lead) (changes by.p a b)) cut (lengthened-each by.lead (changes by.p a b) (changes-cut by.p a b low).each) (λ t. h.times t ∙ sym (changes-lengthened by.lead by.p a b t low))

-- ---- No older points.

same-time : (u : ℤ) → int_eq u u ≡ true
same-time u = grind (arith, ints)

-- A point is a change where there was none.
differs-first : (r : Point) (b : List Point) → differ_at [] (r ∷ b) r.time ≡ true
differs-first r b =
    ap (λ c. not (same_points [] (cond c (r ∷ points_at r.time b) (points_at r.time b)))) (same-time r.time)

differs-more : (r : Point) (b : List Point) (u : ℤ) → differ_at [] b u ≡ true → differ_at [] (r ∷ b) u ≡ true
differs-more r b u h =
    elim (int_eq r.time u) as (λ c. not (same_points [] (cond c (r ∷ points_at u b) (points_at u b))) ≡ true) [
      | true ↦ refl
      | false ↦ h
    ]

differs-each : (b : List Point) → AllByRecursion (λ q. differ_at [] b q.time ≡ true) b
differs-each [] = tt
differs-each (r ∷ b) = (
  differs-first r b,
  each-weaker (λ q. differ_at [] b q.time ≡ true) (λ q. differ_at [] (r ∷ b) q.time ≡ true) (λ q k. differs-more r b q.time k) b (differs-each b),
)

names-alone : (by : Comparison) (b : List Point) (t : ℤ) (q : Point) → differ_at [] b q.time ≡ true → InDomain q.time → names by [] b t q ≡ contains (reach by q.time) t
names-alone by b t q differ inside =
    ap (λ x. (x && (int_le FIRST q.time && int_lt q.time END)) && contains (reach by q.time) t) differ
    ∙ ap (λ x. x && contains (reach by q.time) t) (in_domain q.time inside)

-- The time is in the reach of one of the points.
abbrev pub is_reached : Comparison → List Point → ℤ → Bool
is_reached by b t = list_any (λ q. contains (reach by q.time) t) b

-- Where there were no points, each point adds its reach.
pub adds-alone : (by : Comparison) (was now : List RangeValue) (b : List Point) → AreInDomain b → ((t : ℤ) → covered now t ≡ (covered was t || is_reached by b t)) → AddsChangedSlots by was now [] b
adds-alone by was now b inside h =
    record {
      times = λ t.
          let each = each-weaker (λ q. (differ_at [] b q.time ≡ true) × InDomain q.time) (λ q. names by [] b t q ≡ contains (reach by q.time) t) (λ q both. names-alone by b t q both.0 both.1) b (each-both (λ q. differ_at [] b q.time ≡ true) (λ q. InDomain q.time) b (differs-each b) inside) in
          h t
          ∙ ap (λ s. covered was t || s) (sym (is_changed_at-is by [] b t ∙ any-same (names by [] b t) (λ q. contains (reach by q.time) t) b each));
    }

passed : (x w rest : Bool) → ((x || w) || rest) ≡ (w || (x || rest))
passed x w rest = grind arith

-- After the reach of one point more, what is done and the rest is what it was.
pub reached-next : (by : Comparison) (was now : List RangeValue) (q : Point) (b : List Point) (r : RangeValue) → r ≡ reach by q.time → ((t : ℤ) → covered now t ≡ (contains r t || covered was t)) → (t : ℤ) → (covered now t || is_reached by b t) ≡ (covered was t || is_reached by (q ∷ b) t)
reached-next by was now q b r reaches more t =
    let rest = is_reached by b t in
    ap (λ c. c || rest) (more t)
    ∙ ap (λ (x : RangeValue). (contains x t || covered was t) || rest) reaches
    ∙ passed (contains (reach by q.time) t) (covered was t) rest

-- ---- Points that are jumped over.

contains-in : (r : RangeValue) (t : ℤ) → r.from ≤ℤ t → t <ℤ r.to → contains r t ≡ true
contains-in r t h k = grind (arith, ints)

later-end : (s x y : ℤ) (lead : ℕ) → x ≤ℤ y → s <ℤ int_min END (x +ℤ pos lead) → s <ℤ int_min END (y +ℤ pos lead)
later-end s x y lead h k = omega (arith, ints, clamps)

-- The reach of a time between two others is in that of the two, if the later one is before the end of that of the earlier one.
reach-between : (by : Comparison) (t u v s : ℤ) → FIRST ≤ℤ t → t ≤ℤ u → u ≤ℤ v → v <ℤ (reach by t).to → contains (reach by u) s ≡ true → (contains (reach by t) s || contains (reach by v) s) ≡ true
reach-between by t u v s low first second near h =
    let begins = (slot-follows by.p t u low first).0 in
    let ends = (slot-follows by.p u v (omega (arith, ints)) second).1 in
    let around = (contains-from (slot_around by.p v) v (slot-contains by.p v (omega (arith, ints)))).0 in
    let has = contains-from (reach by u) s h in
    let from = has.0 in
    by_lt_z s (reach by t).to (λ early. or_left (contains (reach by t) s) (contains (reach by v) s) (contains-in (reach by t) s (omega (arith, ints)) early)) (λ late. or_right (contains (reach by t) s) (contains (reach by v) s) (contains-in (reach by v) s (omega (arith, ints)) (later-end s (slot_around by.p u).to (slot_around by.p v).to by.lead ends has.1)))

over-one : (w c r l : Bool) → (c ≡ true → (w || l) ≡ true) → (w || r) ≡ (w || l) → (w || (c || r)) ≡ (w || l)
over-one w true r l h e = or_right w true refl ∙ sym (h refl)
over-one w false r l h e = e

-- The first points of a list add nothing to the others, if what they reach is covered or reached by the others.
reached-drop : (by : Comparison) (w : Bool) (t : ℤ) (n : ℕ) (b : List Point) → ((j : ℕ) (d : Point) → j < n → j < length b → contains (reach by (get_or b j d).time) t ≡ true → (w || is_reached by (drop n b) t) ≡ true) → (w || is_reached by b t) ≡ (w || is_reached by (drop n b) t)
reached-drop by w t zero b h = refl
reached-drop by w t (suc n) [] h = refl
reached-drop by w t (suc n) (q ∷ b) h =
    over-one w (contains (reach by q.time) t) (is_reached by b t) (is_reached by (drop n b) t) (h 0 q (omega arith) (omega arith)) (reached-drop by w t n b (λ j d lt inside. h (suc j) d (omega arith) (omega arith)))

-- The points before the index are before the end of a slot, or the point at the index is before the longer end of the slot.
pub record IsNext (end longer : ℤ) (b : List Point) (n : ℕ) : Type 0 where
  pub within : n ≤ length b
  pub before : (d : Point) → 0 < n → ((get_or b (n - 1) d).time <ℤ end) ⊎ ((n < length b) × ((get_or b n d).time <ℤ longer))

or-either : (a c w l : Bool) → (a || c) ≡ true → (a ≡ true → w ≡ true) → (w || (c || l)) ≡ true
or-either true c w l h k = or_left w (c || l) (k refl)
or-either false c w l h k = or_right w (c || l) (or_left c l h)

-- After the reach of a point, the later points before such an index add nothing to those from it on.
pub reached-jump : (by : Comparison) (w : Bool) (t : ℤ) (q : Point) (b : List Point) (n : ℕ) → FIRST ≤ℤ q.time → IsInOrder (q ∷ b) → IsNext (slot_around by.p q.time).to (reach by q.time).to b n → (contains (reach by q.time) t ≡ true → w ≡ true) → (w || is_reached by b t) ≡ (w || is_reached by (drop n b) t)
reached-jump by w t q b n low order next has =
    reached-drop by w t n b (λ j d lt inside reaches.
    let u = (get_or b j d).time in
    let first : q.time ≤ℤ u = times-rise (q ∷ b) 0 (suc j) d order (omega arith) (omega arith) in
    elim (next.before d (omega arith)) [
      | inl near ↦
          let within = next.within in
          let second = times-rise b j (n - 1) d order.1 (omega arith) (omega arith) in
          let same : reach by u ≡ reach by q.time = ap (lengthened by.lead) (slot-later by.p q.time u low first (omega (arith, ints))) in
          or_left w (is_reached by (drop n b) t) (has (ap (λ (r : RangeValue). contains r t) (sym same) ∙ reaches))
      | inr far ↦
          let v = (get_or b n d).time in
          let second = times-rise b j n d order.1 (omega arith) far.0 in
          let both = reach-between by q.time u v t low first second far.1 reaches in
          ap (λ x. w || is_reached by x t) (drop_more b n d far.0) ∙ or-either (contains (reach by q.time) t) (contains (reach by v) t) w (is_reached by (drop (n + 1) b) t) both has
    ])
