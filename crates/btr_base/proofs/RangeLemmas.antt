-- Lemmas on ranges and the times that they cover.
use Rattle.std.specs.Prelude.{◌≡◌, ℕ, ◌≤◌, ◌<◌, length, ℤ, true, false, not, ◌||◌, int_le, ◌≤ℤ◌, ◌<ℤ◌, List, [], ◌∷◌, ◌++◌, drop, take, cond, Bool, Option, Some, None, IsTrue, ◌↔◌}
use Rattle.std.specs.List.{AllByRecursion}
use Rattle.std.proofs.Common.{get_or, zero, suc, refl, sym, ap, subst, ◌∙◌, arith}
use Rattle.std.proofs.lemmas.Bool.{both_ways}
use Rattle.std.proofs.Math.Bool.{or-false}
use Rattle.std.proofs.lemmas.Int.{ints, by_lt_z}
use Rattle.std.proofs.lemmas.List.Elements.{All-from_recursion}
use Rattle.btr_base.specs.declared.point.Point.{Point}
use Rattle.btr_base.specs.Range.{RangeValue, IsRange, contains, covered, AreApart, IsCut, IsAfter}
use Rattle.btr_base.specs.Bag.{outside}
use Rattle.btr_base.proofs.ListLemmas.{each-weaker, each-both, each-append, each-take}

-- ---- one range

pub contains-from : (r : RangeValue) (t : ℤ) → contains r t ≡ true → (r.from ≤ℤ t) × (t <ℤ r.to)
contains-from r t h = (grind (arith, ints), grind (arith, ints))

pub contains-before : (r : RangeValue) (t : ℤ) → t <ℤ r.from → contains r t ≡ false
contains-before r t h = grind (arith, ints)

pub contains-after : (r : RangeValue) (t : ℤ) → r.to ≤ℤ t → contains r t ≡ false
contains-after r t h = grind (arith, ints)

pub contains-ahead : (r : RangeValue) (t : ℤ) → t <ℤ r.to → contains r t ≡ int_le r.from t
contains-ahead r t h = grind (arith, ints)

-- ---- a list of ranges

pub covered-append : (a b : List RangeValue) (t : ℤ) → covered (a ++ b) t ≡ (covered a t || covered b t)
covered-append [] b t = refl
covered-append (r ∷ a) b t =
    elim (contains r t) as (λ s. (s || covered (a ++ b) t) ≡ ((s || covered a t) || covered b t)) [
      | true ↦ refl
      | false ↦ covered-append a b t
    ]

pub covered-none : (rs : List RangeValue) (t : ℤ) → AllByRecursion (λ r. contains r t ≡ false) rs → covered rs t ≡ false
covered-none [] t h = refl
covered-none (r ∷ rs) t h = ap (λ s. s || covered rs t) h.0 ∙ covered-none rs t h.1

pub covered-before : (rs : List RangeValue) (t : ℤ) → AllByRecursion (λ r. t <ℤ r.from) rs → covered rs t ≡ false
covered-before rs t h =
    covered-none rs t (each-weaker (λ r. t <ℤ r.from) (λ r. contains r t ≡ false) (λ r k. contains-before r t k) rs h)

pub covered-after : (rs : List RangeValue) (t : ℤ) → AllByRecursion (λ r. r.to ≤ℤ t) rs → covered rs t ≡ false
covered-after rs t h =
    covered-none rs t (each-weaker (λ r. r.to ≤ℤ t) (λ r. contains r t ≡ false) (λ r k. contains-after r t k) rs h)

pub apart-rest : (r : RangeValue) (rs : List RangeValue) → AreApart (r ∷ rs) → AreApart rs
apart-rest r [] h = tt
apart-rest r (s ∷ rs) h = h.1

pub IsCut-rest : (r : RangeValue) (rs : List RangeValue) → IsCut (r ∷ rs) → IsCut rs
IsCut-rest r rs h = record { each = h.each.1; apart = apart-rest r rs h.apart }

pub IsCut-none : IsCut []
IsCut-none = record { each = tt; apart = tt }

pub IsCut-drop : (n : ℕ) (rs : List RangeValue) → IsCut rs → IsCut (drop n rs)
IsCut-drop zero rs h = h
IsCut-drop (suc n) [] h = IsCut-none
IsCut-drop (suc n) (r ∷ rs) h = IsCut-drop n rs (IsCut-rest r rs h)

-- The first of a list of ranges ends before each of the others begins.
pub first_ends : (r : RangeValue) (rs : List RangeValue) → IsCut (r ∷ rs) → AllByRecursion (λ s. r.to <ℤ s.from) rs
first_ends r [] h = tt
first_ends r (s ∷ rs) h =
    let full = h.each.1.0.not_empty in
    let near = h.apart.0 in
    (near, each-weaker (λ u. s.to <ℤ u.from) (λ u. r.to <ℤ u.from) (λ u k. omega (arith, ints)) rs (first_ends s rs (IsCut-rest r (s ∷ rs) h)))

pub covered-ahead : (r : RangeValue) (rs : List RangeValue) (t : ℤ) → IsCut (r ∷ rs) → t <ℤ r.to → covered (r ∷ rs) t ≡ int_le r.from t
covered-ahead r rs t h k =
    let later : covered rs t ≡ false = covered-before rs t (each-weaker (λ s. r.to <ℤ s.from) (λ s. t <ℤ s.from) (λ s j. omega (arith, ints)) rs (first_ends r rs h)) in
    ap (λ s. s || covered rs t) (contains-ahead r t k) ∙ elim (int_le r.from t) as (λ s. (s || covered rs t) ≡ s) [ true ↦ refl | false ↦ later ]

-- ---- points outside ranges

pub outside-same : (b : List Point) (rs us : List RangeValue) → AllByRecursion (λ p. covered rs p.time ≡ covered us p.time) b → outside b rs ≡ outside b us
outside-same [] rs us h = refl
outside-same (p ∷ b) rs us h =
    let rest = outside-same b rs us h.1 in
    ap (λ t. cond (not t) (p ∷ outside b rs) (outside b rs)) h.0 ∙ ap (λ c. cond (not (covered us p.time)) (p ∷ c) c) rest

-- ---- ranges by their indices

-- The ranges before this index end by the time.
pub covered-drop : (n : ℕ) (rs : List RangeValue) (t : ℤ) → ((k : ℕ) (d : RangeValue) → k < n → (get_or rs k d).to ≤ℤ t) → covered (drop n rs) t ≡ covered rs t
covered-drop zero rs t h = refl
covered-drop (suc n) [] t h = refl
covered-drop (suc n) (r ∷ rs) t h =
    covered-drop n rs t (λ k d j. h (suc k) d (omega arith)) ∙ sym (ap (λ s. s || covered rs t) (contains-after r t (h 0 r (omega arith))))

-- Each of the others ends after the first.
pub first_ends_first : (r : RangeValue) (rs : List RangeValue) → IsCut (r ∷ rs) → AllByRecursion (λ s. r.to ≤ℤ s.to) rs
first_ends_first r rs h =
    each-weaker (λ s. (r.to <ℤ s.from) × IsRange s) (λ s. r.to ≤ℤ s.to) (λ s k. let near = k.0 in let full = k.1.not_empty in omega (arith, ints)) rs (each-both (λ s. r.to <ℤ s.from) IsRange rs (first_ends r rs h) h.each.1)

pub ends-rise : (rs : List RangeValue) (i j : ℕ) (d : RangeValue) → IsCut rs → i ≤ j → j < length rs → (get_or rs i d).to ≤ℤ (get_or rs j d).to
ends-rise [] i j d h le lt = absurd (omega arith)
ends-rise (r ∷ rs) zero zero d h le lt = omega (arith, ints)
ends-rise (r ∷ rs) zero (suc j) d h le lt =
    All-from_recursion (λ s. r.to ≤ℤ s.to) rs (first_ends_first r rs h) j d (omega arith)
ends-rise (r ∷ rs) (suc i) zero d h le lt = absurd (omega arith)
ends-rise (r ∷ rs) (suc i) (suc j) d h le lt = ends-rise rs i j d (IsCut-rest r rs h) (omega arith) (omega arith)

pub begins-rise : (rs : List RangeValue) (i j : ℕ) (d : RangeValue) → IsCut rs → i ≤ j → j < length rs → (get_or rs i d).from ≤ℤ (get_or rs j d).from
begins-rise [] i j d h le lt = absurd (omega arith)
begins-rise (r ∷ rs) zero zero d h le lt = omega (arith, ints)
begins-rise (r ∷ rs) zero (suc j) d h le lt =
    let full = h.each.0.not_empty in
    let next : r.to <ℤ (get_or rs j d).from = All-from_recursion (λ s. r.to <ℤ s.from) rs (first_ends r rs h) j d (omega arith) in
    omega (arith, ints)
begins-rise (r ∷ rs) (suc i) zero d h le lt = absurd (omega arith)
begins-rise (r ∷ rs) (suc i) (suc j) d h le lt = begins-rise rs i j d (IsCut-rest r rs h) (omega arith) (omega arith)

apart-take : (n : ℕ) (rs : List RangeValue) → AreApart rs → AreApart (take n rs)
apart-take zero rs h = tt
apart-take (suc n) [] h = tt
apart-take (suc zero) (r ∷ rs) h = tt
apart-take (suc (suc n)) (r ∷ []) h = tt
apart-take (suc (suc n)) (r ∷ s ∷ rs) h = (h.0, apart-take (suc n) (s ∷ rs) h.1)

pub IsCut-take : (n : ℕ) (rs : List RangeValue) → IsCut rs → IsCut (take n rs)
IsCut-take n rs h = record { each = each-take IsRange n rs h.each; apart = apart-take n rs h.apart }

-- The ranges from this index on begin after the time.
pub covered-take : (n : ℕ) (rs : List RangeValue) (t : ℤ) → ((k : ℕ) (d : RangeValue) → n ≤ k → k < length rs → t <ℤ (get_or rs k d).from) → covered (take n rs) t ≡ covered rs t
covered-take zero [] t h = refl
covered-take zero (r ∷ rs) t h =
    covered-take zero rs t (λ k d le lt. h (suc k) d (omega arith) (omega arith))
    ∙ sym (ap (λ s. s || covered rs t) (contains-before r t (h 0 r (omega arith) (omega arith))))
covered-take (suc n) [] t h = refl
covered-take (suc n) (r ∷ rs) t h =
    ap (λ c. contains r t || c) (covered-take n rs t (λ k d le lt. h (suc k) d (omega arith) (omega arith)))

-- ---- one more range after all others

-- Each of the ranges ends before the time.
abbrev pub EndBefore : ℤ → List RangeValue → Type 0
EndBefore t rs = AllByRecursion (λ r. r.to <ℤ t) rs

-- Each of the ranges ends before each of the others begins.
abbrev pub AllBefore : List RangeValue → List RangeValue → Type 0
AllBefore rs us = AllByRecursion (λ u. EndBefore u.from rs) us

pub each-push : {X : Type 0} (P : X → Type 0) (xs : List X) (x : X) → AllByRecursion P xs → P x → AllByRecursion P (xs ++ x ∷ [])
each-push P xs x h k = each-append P xs (x ∷ []) h (k, tt)

pub apart-push : (rs : List RangeValue) (s : RangeValue) → AreApart rs → EndBefore s.from rs → AreApart (rs ++ s ∷ [])
apart-push [] s h k = tt
apart-push (r ∷ []) s h k = (k.0, tt)
apart-push (r ∷ u ∷ rs) s h k = (h.0, apart-push (u ∷ rs) s h.1 k.1)

pub IsCut-push : (rs : List RangeValue) (s : RangeValue) → IsCut rs → IsRange s → EndBefore s.from rs → IsCut (rs ++ s ∷ [])
IsCut-push rs s h k e = record { each = each-push IsRange rs s h.each k; apart = apart-push rs s h.apart e }

pub covered-push : (rs : List RangeValue) (s : RangeValue) (t : ℤ) → covered (rs ++ s ∷ []) t ≡ (covered rs t || contains s t)
covered-push rs s t = covered-append rs (s ∷ []) t ∙ ap (λ u. covered rs t || u) (or-false (contains s t))

pub ends_before-rest : (t u : ℤ) (rs : List RangeValue) → t ≤ℤ u → EndBefore t rs → EndBefore u rs
ends_before-rest t u rs h k = each-weaker (λ r. r.to <ℤ t) (λ r. r.to <ℤ u) (λ r j. omega (arith, ints)) rs k

pub all_before-push : (rs us : List RangeValue) (s : RangeValue) → AllBefore rs us → AllByRecursion (λ u. s.to <ℤ u.from) us → AllBefore (rs ++ s ∷ []) us
all_before-push rs us s h k =
    each-weaker (λ u. EndBefore u.from rs × (s.to <ℤ u.from)) (λ u. EndBefore u.from (rs ++ s ∷ [])) (λ u j. each-push (λ r. r.to <ℤ u.from) rs s j.0 j.1) us (each-both (λ u. EndBefore u.from rs) (λ u. s.to <ℤ u.from) us h k)

pub all_before-none : (us : List RangeValue) → AllBefore [] us
all_before-none [] = tt
all_before-none (u ∷ us) = (tt, all_before-none us)

-- ---- the times fix the list

begins-covered : (r : RangeValue) (rs : List RangeValue) → IsCut (r ∷ rs) → covered (r ∷ rs) r.from ≡ true
begins-covered r rs h =
    let full = h.each.0.not_empty in
    let here : contains r r.from ≡ true = grind (arith, ints) in
    ap (λ s. s || covered rs r.from) here

pub not_before-first : (r : RangeValue) (rs : List RangeValue) (t : ℤ) → IsCut (r ∷ rs) → covered (r ∷ rs) t ≡ true → r.from ≤ℤ t
not_before-first r rs t h k =
    let full = h.each.0.not_empty in
    by_lt_z t r.from (λ lt. absurd (both_ways (covered (r ∷ rs) t) (covered-before (r ∷ rs) t (lt, each-weaker (λ s. r.to <ℤ s.from) (λ s. t <ℤ s.from) (λ s j. omega (arith, ints)) rs (first_ends r rs h))) k)) (λ le. le)

-- Of two lists that cover the same times, the first range of one does not end before that of the other.
not_shorter : (r u : RangeValue) (rs us : List RangeValue) → IsCut (r ∷ rs) → IsCut (u ∷ us) → r.from ≡ u.from → ((t : ℤ) → covered (r ∷ rs) t ≡ covered (u ∷ us) t) → u.to ≤ℤ r.to
not_shorter r u rs us h k e same =
    let full = h.each.0.not_empty in
    by_lt_z r.to u.to (λ lt.
    let here : contains u r.to ≡ true = grind (arith, ints) in
    let gap : covered (r ∷ rs) r.to ≡ false = ap (λ s. s || covered rs r.to) (contains-after r r.to (omega (arith, ints))) ∙ covered-before rs r.to (first_ends r rs h) in
    absurd (both_ways (covered (r ∷ rs) r.to) gap (same r.to ∙ ap (λ s. s || covered us r.to) here))) (λ le. le)

rest-same : (r : RangeValue) (rs us : List RangeValue) → IsCut (r ∷ rs) → IsCut (r ∷ us) → ((t : ℤ) → covered (r ∷ rs) t ≡ covered (r ∷ us) t) → (t : ℤ) → covered rs t ≡ covered us t
rest-same r rs us h k same t =
    by_lt_z t r.to (λ lt.
    covered-before rs t (each-weaker (λ s. r.to <ℤ s.from) (λ s. t <ℤ s.from) (λ s j. omega (arith, ints)) rs (first_ends r rs h))
    ∙ sym (covered-before us t (each-weaker (λ s. r.to <ℤ s.from) (λ s. t <ℤ s.from) (λ s j. omega (arith, ints)) us (first_ends r us k)))) (λ le.
    let out = contains-after r t le in
    sym (ap (λ s. s || covered rs t) out) ∙ same t ∙ ap (λ s. s || covered us t) out)

pub same_from-covered : (rs us : List RangeValue) → IsCut rs → IsCut us → ((t : ℤ) → covered rs t ≡ covered us t) → rs ≡ us
same_from-covered [] [] h k same = refl
same_from-covered [] (u ∷ us) h k same = absurd (both_ways (covered (u ∷ us) u.from) (sym (same u.from)) (begins-covered u us k))
same_from-covered (r ∷ rs) [] h k same = absurd (both_ways (covered (r ∷ rs) r.from) (same r.from) (begins-covered r rs h))
same_from-covered (r ∷ rs) (u ∷ us) h k same =
    let low = not_before-first u us r.from k (sym (same r.from) ∙ begins-covered r rs h) in
    let high = not_before-first r rs u.from h (same u.from ∙ begins-covered u us k) in
    let from : r.from ≡ u.from = omega (arith, ints) in
    let long = not_shorter r u rs us h k from same in
    let short = not_shorter u r us rs k h (sym from) (λ t. sym (same t)) in
    let to : r.to ≡ u.to = omega (arith, ints) in
    let first : r ≡ u = λ i. record { from = from i; to = to i } in
    let cut = subst (λ v. IsCut (v ∷ us)) (sym first) k in
    let times = subst (λ v. (t : ℤ) → covered (r ∷ rs) t ≡ covered (v ∷ us) t) (sym first) same in
    let rest = same_from-covered rs us (IsCut-rest r rs h) (IsCut-rest u us k) (rest-same r rs us h cut times) in
    cc

-- Ranges in order, of which the first begins after this end.
abbrev pub ApartFrom : Option ℤ → List RangeValue → Type 0
ApartFrom end [] = Unit {0}
ApartFrom end (r ∷ rs) = IsAfter end r.from × ApartFrom (Some r.to) rs

pub apart-from : (r : RangeValue) (rs : List RangeValue) → AreApart (r ∷ rs) → ApartFrom (Some r.to) rs
apart-from r [] h = tt
apart-from r (s ∷ rs) h = (h.0, apart-from s rs h.1)

pub from-apart : (r : RangeValue) (rs : List RangeValue) → ApartFrom (Some r.to) rs → AreApart (r ∷ rs)
from-apart r [] h = tt
from-apart r (s ∷ rs) h = (h.0, from-apart s rs h.1)

pub apart-from_none : (rs : List RangeValue) → AreApart rs → ApartFrom None rs
apart-from_none [] h = tt
apart-from_none (r ∷ rs) h = (tt, apart-from r rs h)

pub from_none-apart : (rs : List RangeValue) → ApartFrom None rs → AreApart rs
from_none-apart [] h = tt
from_none-apart (r ∷ rs) h = from-apart r rs h.1

-- One range more.
pub apart-more : (all : List RangeValue) (end : Option ℤ) (r : RangeValue) (rs : List RangeValue) (was now : Bool) → AreApart all ↔ (IsTrue was × ApartFrom end (r ∷ rs)) → IsTrue now ↔ (IsTrue was × IsAfter end r.from) → AreApart all ↔ (IsTrue now × ApartFrom (Some r.to) rs)
apart-more all end r rs was now h n =
    (λ a. let p = h.0 a in (n.1 (p.0, p.1.0), p.1.1), λ p. let q = n.0 p.0 in h.1 (q.0, (q.1, p.1)))
