-- Lemmas on the longest runs of ranges in order, such as aligned slots.
use Rattle.std.specs.Prelude.{◌≡◌, ℕ, ◌+◌, ◌-◌, ◌*◌, ◌/◌, ◌^◌, ◌<◌, ◌≤◌, not, length, ℤ, pos, ◌+ℤ◌, ◌-ℤ◌, unsigned_abs, Bool, true, false, ◌&&◌, ◌||◌, int_le, int_lt, ◌≤ℤ◌, ◌<ℤ◌, List, [], ◌∷◌, ◌++◌, map, cond, IsTrue}
use Rattle.std.specs.List.{list_any, AllByRecursion}
use Rattle.std.proofs.Common.{refl, sym, ap, ◌∙◌, arith, mul-le-mul_right, subst}
use Rattle.std.proofs.lemmas.Bool.{both_ways, and_parts, or_parts}
use Rattle.std.proofs.lemmas.List.{length-append, length-map}
use Rattle.std.specs.Ordering.{int_eq}
use Rattle.std.proofs.lemmas.Int.{ints, clamps}
use Rattle.std.proofs.lemmas.Nat.{pow-add, pow_pos, le-div}
use Rattle.std.proofs.Math.Nat.{div-mul-le_self, lt-div-mul-add}
use Rattle.btr_base.specs.declared.limits.TheConstants.{FIRST, END}
use Rattle.btr_base.specs.declared.point.Point.{Point}
use Rattle.btr_base.specs.Point.{is_not_after, InDomain, AreInDomain, in_domain, same_point}
use Rattle.btr_base.specs.Range.{RangeValue, IsRange, IsCut, AreApart, contains, covered}
use Rattle.btr_base.specs.Bag.{IsInOrder, sort}
use Rattle.btr_base.specs.Cut.{lengthened}
use Rattle.btr_base.specs.Changes.{points_at, same_points, differ_at, changed, slot_around, joined_before, runs, changes}
use Rattle.btr_base.proofs.ListLemmas.{each-weaker, each-both, filter-passes, filter-append, filter-all, filter-none, filter-swap, length-filter}
use Rattle.btr_base.proofs.PointLemmas.{sort-in_order, filter-in_order, is_not_after-times, same_point-true, filter-sort, length-sort}
use Rattle.btr_base.proofs.SpanLemmas.{less-times, times-up_to}

-- ---- ranges in order

-- The other range neither begins nor ends before this one.
abbrev pub Follows : RangeValue → RangeValue → Type 0
Follows r s = (r.from ≤ℤ s.from) × (r.to ≤ℤ s.to)

-- No range begins or ends before one that precedes it in the list.
abbrev pub Rise : List RangeValue → Type 0
Rise [] = Unit {0}
Rise (r ∷ rs) = AllByRecursion (Follows r) rs × Rise rs

-- ---- a range before others

joined-each : (P Q : RangeValue → Type 0) (r : RangeValue) (rs : List RangeValue) → ((s : RangeValue) → Q s → P (record { from = r.from; to = s.to })) → ((s : RangeValue) → Q s → P s) → P r → AllByRecursion Q rs → AllByRecursion P (joined_before r rs)
joined-each P Q r [] join keep h k = (h, tt)
joined-each P Q r (s ∷ rs) join keep h k =
    elim (int_le s.from r.to) as (λ t. AllByRecursion P (cond t (record { from = r.from; to = s.to } ∷ rs) (r ∷ s ∷ rs))) [
      | true ↦ (join s k.0, each-weaker Q P keep rs k.1)
      | false ↦ (h, each-weaker Q P keep (s ∷ rs) k)
    ]

apart-same_end : (a s : RangeValue) (rs : List RangeValue) → a.to ≡ s.to → AreApart (s ∷ rs) → AreApart (a ∷ rs)
apart-same_end a s [] e h = tt
apart-same_end a s (u ∷ rs) e h = let near = h.0 in (omega (arith, ints), h.1)

joined-apart : (r : RangeValue) (rs : List RangeValue) → AreApart rs → AreApart (joined_before r rs)
joined-apart r [] h = tt
joined-apart r (s ∷ rs) h =
    elim (int_le s.from r.to) as (λ t. int_le s.from r.to ≡ t → AreApart (cond t (record { from = r.from; to = s.to } ∷ rs) (r ∷ s ∷ rs))) [
      | true ↦ λ _. apart-same_end (record { from = r.from; to = s.to }) s rs refl h
      | false ↦ λ e. let near : r.to <ℤ s.from = grind (arith, ints) in (near, h)
    ] refl

join-range : (r s : RangeValue) → IsRange r → Follows r s → IsRange s → IsRange (record { from = r.from; to = s.to })
join-range r s h f k =
    let full = h.not_empty in
    let later = f.1 in
    record { begins = h.begins; not_empty = omega (arith, ints); ends = k.ends }

join-contains : (r s : RangeValue) (t : ℤ) → Follows r s → IsRange s → s.from ≤ℤ r.to → contains (record { from = r.from; to = s.to }) t ≡ (contains r t || contains s t)
join-contains r s t f k e =
    let low = f.0 in
    let high = f.1 in
    let full = k.not_empty in
    grind (arith, ints)

either : (a b c : Bool) → ((a || b) || c) ≡ (a || (b || c))
either true b c = refl
either false b c = refl

joined-covered : (r : RangeValue) (rs : List RangeValue) (t : ℤ) → AllByRecursion (λ s. Follows r s × IsRange s) rs → covered (joined_before r rs) t ≡ covered (r ∷ rs) t
joined-covered r [] t h = refl
joined-covered r (s ∷ rs) t h =
    elim (int_le s.from r.to) as (λ u. int_le s.from r.to ≡ u → covered (cond u (record { from = r.from; to = s.to } ∷ rs) (r ∷ s ∷ rs)) t ≡ covered (r ∷ s ∷ rs) t) [
      | true ↦ λ e.
          let near : s.from ≤ℤ r.to = grind (arith, ints) in
          ap (λ b. b || covered rs t) (join-contains r s t h.0.0 h.0.1 near) ∙ either (contains r t) (contains s t) (covered rs t)
      | false ↦ λ _. refl
    ] refl

-- ---- all of them

-- If no range begins or ends before this one, neither does any of their runs.
runs-follow : (r : RangeValue) (rs : List RangeValue) → AllByRecursion (Follows r) rs → AllByRecursion (Follows r) (runs rs)
runs-follow r [] h = tt
runs-follow r (s ∷ rs) h =
    joined-each (Follows r) (Follows r) s (runs rs) (λ u k. (h.0.0, k.1)) (λ u k. k) h.0 (runs-follow r rs h.1)

pub runs-each : (rs : List RangeValue) → AllByRecursion IsRange rs → Rise rs → AllByRecursion IsRange (runs rs)
runs-each [] h rise = tt
runs-each (r ∷ rs) h rise =
    joined-each IsRange (λ s. Follows r s × IsRange s) r (runs rs) (λ s k. join-range r s h.0 k.0 k.1) (λ s k. k.1) h.0 (each-both (Follows r) IsRange (runs rs) (runs-follow r rs rise.0) (runs-each rs h.1 rise.1))

pub runs-apart : (rs : List RangeValue) → AreApart (runs rs)
runs-apart [] = tt
runs-apart (r ∷ rs) = joined-apart r (runs rs) (runs-apart rs)

pub runs-cut : (rs : List RangeValue) → AllByRecursion IsRange rs → Rise rs → IsCut (runs rs)
runs-cut rs h rise = record { each = runs-each rs h rise; apart = runs-apart rs }

pub runs-covered : (rs : List RangeValue) (t : ℤ) → AllByRecursion IsRange rs → Rise rs → covered (runs rs) t ≡ covered rs t
runs-covered [] t h rise = refl
runs-covered (r ∷ rs) t h rise =
    joined-covered r (runs rs) t (each-both (Follows r) IsRange (runs rs) (runs-follow r rs rise.0) (runs-each rs h.1 rise.1))
    ∙ ap (λ b. contains r t || b) (runs-covered rs t h.1 rise.1)

-- ---- all of them, longer

join-lengthened : (lead : ℕ) (r s : RangeValue) (t : ℤ) → Follows r s → IsRange s → s.from ≤ℤ r.to → contains (lengthened lead (record { from = r.from; to = s.to })) t ≡ (contains (lengthened lead r) t || contains (lengthened lead s) t)
join-lengthened lead r s t f k e =
    let low = f.0 in
    let high = f.1 in
    let ends = k.ends in
    grind (arith, ints, clamps)

joined-lengthened : (lead : ℕ) (r : RangeValue) (rs : List RangeValue) (t : ℤ) → AllByRecursion (λ s. Follows r s × IsRange s) rs → covered (map (lengthened lead) (joined_before r rs)) t ≡ covered (map (lengthened lead) (r ∷ rs)) t
joined-lengthened lead r [] t h = refl
joined-lengthened lead r (s ∷ rs) t h =
    elim (int_le s.from r.to) as (λ u. int_le s.from r.to ≡ u → covered (map (lengthened lead) (cond u (record { from = r.from; to = s.to } ∷ rs) (r ∷ s ∷ rs))) t ≡ covered (map (lengthened lead) (r ∷ s ∷ rs)) t) [
      | true ↦ λ e.
          let near : s.from ≤ℤ r.to = grind (arith, ints) in
          let rest = covered (map (lengthened lead) rs) t in
          ap (λ b. b || rest) (join-lengthened lead r s t h.0.0 h.0.1 near) ∙ either (contains (lengthened lead r) t) (contains (lengthened lead s) t) rest
      | false ↦ λ _. refl
    ] refl

-- The runs of ranges, longer, cover the times of the ranges, longer.
pub runs-lengthened : (lead : ℕ) (rs : List RangeValue) (t : ℤ) → AllByRecursion IsRange rs → Rise rs → covered (map (lengthened lead) (runs rs)) t ≡ covered (map (lengthened lead) rs) t
runs-lengthened lead [] t h rise = refl
runs-lengthened lead (r ∷ rs) t h rise =
    joined-lengthened lead r (runs rs) t (each-both (Follows r) IsRange (runs rs) (runs-follow r rs rise.0) (runs-each rs h.1 rise.1))
    ∙ ap (λ b. contains (lengthened lead r) t || b) (runs-lengthened lead rs t h.1 rise.1)

-- ---- aligned slots

-- A slot that begins in the domain ends in it.
pub slot-fits : (p o : ℕ) → p ≤ 62 → o < 2 ^ 62 → (o / 2 ^ p + 1) * 2 ^ p ≤ 2 ^ 62
slot-fits p o low inside =
    let w = 2 ^ p in
    let times = 2 ^ (62 - p) in
    let e : (62 - p) + p ≡ 62 = omega arith in
    let whole : 2 ^ 62 ≡ times * w = ap (λ n. 2 ^ n) (sym e) ∙ pow-add 2 (62 - p) p in
    let at_most : (o / w) * w ≤ o = div-mul-le_self o w in
    let below : o / w < times = less-times (o / w) times w (omega arith) in
    let next = times-up_to (o / w) times w below in
    let split : (o / w + 1) * w ≡ (o / w) * w + w = omega arith in
    omega arith

-- The bounds of a slot, by the offset of a time in it.
pub record IsSlot (p : ℕ) (t : ℤ) (offset : ℕ) (s : RangeValue) : Type 0 where
  pub time : t ≡ FIRST +ℤ pos offset
  pub from : s.from ≡ FIRST +ℤ pos (offset / 2 ^ p * 2 ^ p)
  pub to : s.to ≡ FIRST +ℤ pos (offset / 2 ^ p * 2 ^ p + 2 ^ p)
  pub begins : offset / 2 ^ p * 2 ^ p ≤ offset
  pub ends : offset < offset / 2 ^ p * 2 ^ p + 2 ^ p

pub slot-is : (p : ℕ) (t : ℤ) → FIRST ≤ℤ t → IsSlot p t (unsigned_abs (t -ℤ FIRST)) (slot_around p t)
slot-is p t low =
    let o = unsigned_abs (t -ℤ FIRST) in
    let next = lt-div-mul-add {a = o} (pow_pos p) in
    let split : (o / 2 ^ p + 1) * 2 ^ p ≡ o / 2 ^ p * 2 ^ p + 2 ^ p = omega arith in
    record {
      time = omega (arith, ints);
      from = refl;
      to = ap (λ n. FIRST +ℤ pos n) split;
      begins = div-mul-le_self o (2 ^ p);
      ends = omega arith;
    }

-- The slot around a time of the domain is a range.
pub slot-range : (p : ℕ) (t : ℤ) → p ≤ 62 → InDomain t → IsRange (slot_around p t)
slot-range p t low inside =
    let o = unsigned_abs (t -ℤ FIRST) in
    let is = slot-is p t inside.0 in
    let time = is.time in
    let from = is.from in
    let to = is.to in
    let some = pow_pos p in
    let high = inside.1 in
    let fits = slot-fits p o low (omega (arith, ints)) in
    let split : (o / 2 ^ p + 1) * 2 ^ p ≡ o / 2 ^ p * 2 ^ p + 2 ^ p = omega arith in
    record { begins = omega (arith, ints); not_empty = omega (arith, ints); ends = omega (arith, ints) }

-- The slot around a later time does not begin or end before the slot around an earlier one.
pub slot-follows : (p : ℕ) (t u : ℤ) → FIRST ≤ℤ t → t ≤ℤ u → Follows (slot_around p t) (slot_around p u)
slot-follows p t u low later =
    let o = unsigned_abs (t -ℤ FIRST) in
    let v = unsigned_abs (u -ℤ FIRST) in
    let is = slot-is p t low in
    let next = slot-is p u (omega (arith, ints)) in
    let time = is.time in
    let time_next = next.time in
    let begins = is.begins in
    let from = is.from in
    let from_next = next.from in
    let to = is.to in
    let to_next = next.to in
    let more : o / 2 ^ p ≤ v / 2 ^ p = le-div (o / 2 ^ p) v (2 ^ p) (pow_pos p) (omega (arith, ints)) in
    let apart : o / 2 ^ p * 2 ^ p ≤ v / 2 ^ p * 2 ^ p = mul-le-mul_right (2 ^ p) more in
    (omega (arith, ints), omega (arith, ints))

-- ---- the slots of points in order

slots-each : (p : ℕ) (ps : List Point) → p ≤ 62 → AllByRecursion (λ q. InDomain q.time) ps → AllByRecursion IsRange (map (λ q. slot_around p q.time) ps)
slots-each p [] low h = tt
slots-each p (q ∷ ps) low h = (slot-range p q.time low h.0, slots-each p ps low h.1)

slots-follow : (p : ℕ) (t : ℤ) (ps : List Point) → FIRST ≤ℤ t → AllByRecursion (λ q. t ≤ℤ q.time) ps → AllByRecursion (Follows (slot_around p t)) (map (λ q. slot_around p q.time) ps)
slots-follow p t [] low h = tt
slots-follow p t (q ∷ ps) low h = (slot-follows p t q.time low h.0, slots-follow p t ps low h.1)

slots-rise : (p : ℕ) (ps : List Point) → AllByRecursion (λ q. InDomain q.time) ps → IsInOrder ps → Rise (map (λ q. slot_around p q.time) ps)
slots-rise p [] h order = tt
slots-rise p (q ∷ ps) h order = (
  slots-follow p q.time ps h.0.0 (each-weaker (λ r. IsTrue (is_not_after q r)) (λ r. q.time ≤ℤ r.time) (λ r k. is_not_after-times q r k) ps order.0),
  slots-rise p ps h.1 order.1,
)

covered-map : (p : ℕ) (ps : List Point) (t : ℤ) → covered (map (λ q. slot_around p q.time) ps) t ≡ list_any (λ q. contains (slot_around p q.time) t) ps
covered-map p [] t = refl
covered-map p (q ∷ ps) t = ap (λ b. contains (slot_around p q.time) t || b) (covered-map p ps t)

-- ---- the changed slots

in_domain-test : (d : Bool) (t : ℤ) → (d && (int_le FIRST t && int_lt t END)) ≡ true → InDomain t
in_domain-test d t h = (grind (arith, ints), grind (arith, ints))

pub changed-domain : (a b : List Point) → AllByRecursion (λ q. InDomain q.time) (changed a b)
changed-domain a b =
    each-weaker (λ q. (differ_at a b q.time && (int_le FIRST q.time && int_lt q.time END)) ≡ true) (λ q. InDomain q.time) (λ q k. in_domain-test (differ_at a b q.time) q.time k) (changed a b) (filter-passes (λ q. differ_at a b q.time && (int_le FIRST q.time && int_lt q.time END)) (sort (a ++ b)))

pub changed-in_order : (a b : List Point) → IsInOrder (changed a b)
changed-in_order a b =
    filter-in_order (λ q. differ_at a b q.time && (int_le FIRST q.time && int_lt q.time END)) (sort (a ++ b)) (sort-in_order (a ++ b))

pub changes-cut : (p : ℕ) (a b : List Point) → p ≤ 62 → IsCut (changes p a b)
changes-cut p a b low =
    let in_domain = changed-domain a b in
    runs-cut (map (λ q. slot_around p q.time) (changed a b)) (slots-each p (changed a b) low in_domain) (slots-rise p (changed a b) in_domain (changed-in_order a b))

pub changes-covered : (p : ℕ) (a b : List Point) (t : ℤ) → p ≤ 62 → covered (changes p a b) t ≡ list_any (λ q. contains (slot_around p q.time) t) (changed a b)
changes-covered p a b t low =
    let in_domain = changed-domain a b in
    runs-covered (map (λ q. slot_around p q.time) (changed a b)) t (slots-each p (changed a b) low in_domain) (slots-rise p (changed a b) in_domain (changed-in_order a b))
    ∙ covered-map p (changed a b) t

covered-longer : (lead p : ℕ) (ps : List Point) (t : ℤ) → covered (map (lengthened lead) (map (λ q. slot_around p q.time) ps)) t ≡ list_any (λ q. contains (lengthened lead (slot_around p q.time)) t) ps
covered-longer lead p [] t = refl
covered-longer lead p (q ∷ ps) t =
    ap (λ b. contains (lengthened lead (slot_around p q.time)) t || b) (covered-longer lead p ps t)

-- The changed runs, longer, cover the times of the changed slots, longer.
pub changes-lengthened : (lead p : ℕ) (a b : List Point) (t : ℤ) → p ≤ 62 → covered (map (lengthened lead) (changes p a b)) t ≡ list_any (λ q. contains (lengthened lead (slot_around p q.time)) t) (changed a b)
changes-lengthened lead p a b t low =
    let in_domain = changed-domain a b in
    runs-lengthened lead (map (λ q. slot_around p q.time) (changed a b)) t (slots-each p (changed a b) low in_domain) (slots-rise p (changed a b) in_domain (changed-in_order a b))
    ∙ covered-longer lead p (changed a b) t

-- ---- how many there are

joined-length : (r : RangeValue) (rs : List RangeValue) → length (joined_before r rs) ≤ 1 + length rs
joined-length r [] = omega arith
joined-length r (s ∷ rs) =
    elim (int_le s.from r.to) as (λ t. length (cond t (record { from = r.from; to = s.to } ∷ rs) (r ∷ s ∷ rs)) ≤ 1 + length (s ∷ rs)) [
      | true ↦ omega arith
      | false ↦ omega arith
    ]

pub runs-length : (rs : List RangeValue) → length (runs rs) ≤ length rs
runs-length [] = omega arith
runs-length (r ∷ rs) = let more = joined-length r (runs rs) in let rest = runs-length rs in omega arith

-- There are no more changed runs than points of both bags.
pub changes-length : (p : ℕ) (a b : List Point) → length (changes p a b) ≤ length a + length b
changes-length p a b =
    let few = runs-length (map (λ q. slot_around p q.time) (changed a b)) in
    let slots : length (map (λ q. slot_around p q.time) (changed a b)) ≡ length (changed a b) = length-map (changed a b) (λ q. slot_around p q.time) in
    let kept : length (changed a b) ≤ length (sort (a ++ b)) = length-filter (λ q. differ_at a b q.time && in_domain q.time) (sort (a ++ b)) in
    let sorted : length (sort (a ++ b)) ≡ length (a ++ b) = length-sort (a ++ b) in
    let both : length (a ++ b) ≡ length a + length b = length-append a b in
    omega arith

-- ---- a time that no changed run covers

pub same_points-true : (a b : List Point) → same_points a b ≡ true → a ≡ b
same_points-true [] [] h = refl
same_points-true [] (q ∷ b) h = absurd (both_ways false refl h)
same_points-true (p ∷ a) [] h = absurd (both_ways false refl h)
same_points-true (p ∷ a) (q ∷ b) h =
    let parts = and_parts (same_point p q) (same_points a b) h in
    let first = same_point-true p q parts.0 in
    let rest = same_points-true a b parts.1 in
    λ i. first i ∷ rest i

contains-between : (r : RangeValue) (t : ℤ) → r.from ≤ℤ t → t <ℤ r.to → contains r t ≡ true
contains-between r t h k = grind (arith, ints)

-- The slot around a time contains it.
pub slot-contains : (p : ℕ) (t : ℤ) → FIRST ≤ℤ t → contains (slot_around p t) t ≡ true
slot-contains p t low =
    let is = slot-is p t low in
    let time = is.time in
    let from = is.from in
    let to = is.to in
    let begins = is.begins in
    let ends = is.ends in
    let early : (slot_around p t).from ≤ℤ t = omega (arith, ints) in
    let late : t <ℤ (slot_around p t).to = omega (arith, ints) in
    contains-between (slot_around p t) t early late

time-is : (q : Point) (t : ℤ) → int_eq q.time t ≡ true → q.time ≡ t
time-is q t h = grind (arith, ints)

-- If none of the slots around points contains the time, no point has it.
none-at : (p : ℕ) (t : ℤ) (ps : List Point) → FIRST ≤ℤ t → list_any (λ q. contains (slot_around p q.time) t) ps ≡ false → points_at t ps ≡ []
none-at p t [] low h = refl
none-at p t (q ∷ ps) low h =
    let parts = or_parts (contains (slot_around p q.time) t) (list_any (λ r. contains (slot_around p r.time) t) ps) h in
    elim (int_eq q.time t) as (λ s. int_eq q.time t ≡ s → cond s (q ∷ points_at t ps) (points_at t ps) ≡ []) [
      | true ↦ λ e. absurd (both_ways (contains (slot_around p t) t) (subst (λ u. contains (slot_around p u) t ≡ false) (time-is q t e) parts.0) (slot-contains p t low))
      | false ↦ λ _. none-at p t ps low parts.1
    ] refl

no_points : (a : List Point) → length a ≡ 0 → a ≡ []
no_points [] h = refl
no_points (p ∷ a) h = absurd (omega arith)

domain-test : (t : ℤ) → InDomain t → in_domain t ≡ true
domain-test t h = let low = h.0 in let high = h.1 in grind (arith, ints)

-- The points at a time of the domain at which the bags differ are changed points.
at-changed : (a b : List Point) (t : ℤ) → InDomain t → differ_at a b t ≡ true → points_at t (changed a b) ≡ points_at t (sort (a ++ b))
at-changed a b t inside differs =
    let test : Point → Bool = λ q. differ_at a b q.time && in_domain q.time in
    let here : Point → Bool = λ q. int_eq q.time t in
    let domain = domain-test t inside in
    let passes : AllByRecursion (λ q. test q ≡ true) (points_at t (sort (a ++ b))) =
    each-weaker (λ q. here q ≡ true) (λ q. test q ≡ true) (λ q e. ap (λ u. differ_at a b u && in_domain u) (time-is q t e) ∙ (λ i. differs i && domain i)) (points_at t (sort (a ++ b))) (filter-passes here (sort (a ++ b))) in
    filter-swap here test (sort (a ++ b)) ∙ filter-all test (points_at t (sort (a ++ b))) passes

same-if_none : (a b : List Point) (t : ℤ) → points_at t (sort (a ++ b)) ≡ [] → points_at t a ≡ points_at t b
same-if_none a b t h =
    let here : Point → Bool = λ q. int_eq q.time t in
    let both : sort (points_at t a ++ points_at t b) ≡ [] = ap sort (sym (filter-append here a b)) ∙ sym (filter-sort here (a ++ b)) ∙ h in
    let size : length (sort (points_at t a ++ points_at t b)) ≡ 0 = ap (λ ps. length ps) both in
    let sorted = length-sort (points_at t a ++ points_at t b) in
    let parts = length-append (points_at t a) (points_at t b) in
    no_points (points_at t a) (omega arith) ∙ sym (no_points (points_at t b) (omega arith))

-- At a time of the domain that no changed run covers both bags have the same points.
pub changes-covered-unchanged : (p : ℕ) (a b : List Point) (t : ℤ) → p ≤ 62 → InDomain t → covered (changes p a b) t ≡ false → points_at t a ≡ points_at t b
changes-covered-unchanged p a b t low inside h =
    elim (same_points (points_at t a) (points_at t b)) as (λ s. same_points (points_at t a) (points_at t b) ≡ s → points_at t a ≡ points_at t b) [
      | true ↦ λ e. same_points-true (points_at t a) (points_at t b) e
      | false ↦ λ e. same-if_none a b t (sym (at-changed a b t inside (ap not e)) ∙ none-at p t (changed a b) inside.0 (sym (changes-covered p a b t low) ∙ h))
    ] refl

other-time : (q : Point) (t : ℤ) → InDomain q.time → in_domain t ≡ false → int_eq q.time t ≡ false
other-time q t h out =
    let low = h.0 in
    let high = h.1 in
    grind (arith, ints)

none-outside : (b : List Point) (t : ℤ) → AreInDomain b → in_domain t ≡ false → points_at t b ≡ []
none-outside b t h out =
    filter-none (λ q. int_eq q.time t) b (each-weaker (λ q. InDomain q.time) (λ q. int_eq q.time t ≡ false) (λ q k. other-time q t k out) b h)

-- In bags of the domain this holds of each time.
pub changes-unchanged : (p : ℕ) (a b : List Point) (t : ℤ) → p ≤ 62 → AreInDomain a → AreInDomain b → covered (changes p a b) t ≡ false → points_at t a ≡ points_at t b
changes-unchanged p a b t low h k e =
    elim (in_domain t) as (λ s. in_domain t ≡ s → points_at t a ≡ points_at t b) [
      | true ↦ λ inside. changes-covered-unchanged p a b t low (in_domain-test true t inside) e
      | false ↦ λ out. none-outside a t h out ∙ sym (none-outside b t k out)
    ] refl
