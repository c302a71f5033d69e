-- Lemmas on the parts of a cut, and on the points in them.
use Rattle.std.specs.Prelude.{◌≡◌, ℤ, ◌≤ℤ◌, ◌<ℤ◌, Bool, true, false, ◌&&◌, ◌||◌, int_le, int_lt, List, [], ◌∷◌, ◌++◌, Ok, map}
use Rattle.std.specs.declared.result.Result.{Result}
use Rattle.std.specs.List.{filter, flat_map, AllZip, AllByRecursion}
use Rattle.std.specs.Int.{int_max, int_min}
use Rattle.std.specs.Prelude.{IfOk}
use Rattle.std.proofs.Common.{refl, sym, ap, ◌∙◌, arith, inl, inr, append_assoc, append-nil}
use Rattle.std.proofs.lemmas.Bool.{or_cases}
use Rattle.std.proofs.lemmas.Int.{ints, clamps}
use Rattle.std.proofs.lemmas.List.Concat.{flat_map-append}
use Rattle.btr_base.specs.declared.point.Point.{Point}
use Rattle.btr_base.specs.declared.limits.TheConstants.{FIRST, END}
use Rattle.btr_base.specs.Point.{InDomain}
use Rattle.btr_base.specs.Range.{RangeValue, IsRange, IsCut, contains, covered}
use Rattle.btr_base.specs.Bag.{IsInOrder}
use Rattle.btr_base.proofs.ListLemmas.{filter-same}
use Rattle.btr_base.proofs.RangeLemmas.{contains-from, covered-push}
use Rattle.btr_kernel.proofs.GatherLemmas.{filter-two}
use Rattle.btr_distil.specs.Parts.{ArePartsOf}

-- The points that ranges cover.
abbrev pub points_in : List Point → List RangeValue → List Point
points_in b rs = filter (λ p. covered rs p.time) b

-- The points in the parts so far, and then those in the rest, are those in the cut.
abbrev pub AreSoFar : List RangeValue → List (List RangeValue) → List RangeValue → Type 0
AreSoFar cut parts rest = (b : List Point) → IsInOrder b → flat_map (points_in b) parts ++ points_in b rest ≡ points_in b cut

-- ---- the times of ranges between two times

and-or : (a b c : Bool) → ((a && c) || (b && c)) ≡ ((a || b) && c)
and-or true true c = grind (arith)
and-or true false c = grind (arith)
and-or false b c = refl

-- The times of one more range between the two times.
pub between-more : (rs : List RangeValue) (r : RangeValue) (kept more : List RangeValue) (from to : ℤ) → ((t : ℤ) → covered kept t ≡ (covered rs t && (int_le from t && int_lt t to))) → ((t : ℤ) → covered more t ≡ (covered kept t || (contains r t && (int_le from t && int_lt t to)))) → (t : ℤ) → covered more t ≡ (covered (rs ++ r ∷ []) t && (int_le from t && int_lt t to))
between-more rs r kept more from to so_far h t =
    let inside = int_le from t && int_lt t to in
    h t
    ∙ ap (λ c. c || (contains r t && inside)) (so_far t)
    ∙ and-or (covered rs t) (contains r t) inside
    ∙ ap (λ c. c && inside) (sym (covered-push rs r t))

or-swap : (a b : Bool) → (a || b) ≡ (b || a)
or-swap true true = refl
or-swap true false = refl
or-swap false true = refl
or-swap false false = refl

both-ranges : (r : RangeValue) (from to t : ℤ) → contains (record { from = int_max r.from from; to = int_min r.to to }) t ≡ (contains r t && (int_le from t && int_lt t to))
both-ranges r from to t = grind (arith, ints, clamps)

-- The times of a range between two times are those of a range.
pub range-between : (r part : RangeValue) (from to : ℤ) (kept more : List RangeValue) → part ≡ record { from = int_max r.from from; to = int_min r.to to } → ((t : ℤ) → covered more t ≡ (contains part t || covered kept t)) → (t : ℤ) → covered more t ≡ (covered kept t || (contains r t && (int_le from t && int_lt t to)))
range-between r part from to kept more is h t =
    h t
    ∙ or-swap (contains part t) (covered kept t)
    ∙ ap (λ c. covered kept t || c) (ap (λ p. contains p t) is ∙ both-ranges r from to t)

part-is_range : (r : RangeValue) (from to t : ℤ) → IsRange r → contains (record { from = int_max r.from from; to = int_min r.to to }) t ≡ true → IsRange (record { from = int_max r.from from; to = int_min r.to to })
part-is_range r from to t is h =
    let inside = contains-from (record { from = int_max r.from from; to = int_min r.to to }) t h in
    let low = is.begins in
    let high = is.ends in
    record { begins = omega (arith, ints, clamps); not_empty = omega (arith, ints, clamps); ends = omega (arith, ints, clamps) }

false-unless : (b : Bool) → (b ≡ true → ⊥) → b ≡ false
false-unless true h = absurd (h refl)
false-unless false h = refl

or-none : (a b : Bool) → b ≡ false → a ≡ (a || b)
or-none true b h = refl
or-none false b h = sym h

-- If it is not a range, there is no such time.
pub none-between : (r : RangeValue) (from to : ℤ) (kept : List RangeValue) → IsRange r → (IsRange (record { from = int_max r.from from; to = int_min r.to to }) → ⊥) → (t : ℤ) → covered kept t ≡ (covered kept t || (contains r t && (int_le from t && int_lt t to)))
none-between r from to kept is none t =
    or-none (covered kept t) (contains r t && (int_le from t && int_lt t to)) (sym (both-ranges r from to t) ∙ false-unless (contains (record { from = int_max r.from from; to = int_min r.to to }) t) (λ h. none (part-is_range r from to t is h)))

-- ---- the points in the parts

covered-domain : (rs : List RangeValue) (t : ℤ) → AllByRecursion IsRange rs → covered rs t ≡ true → InDomain t
covered-domain [] t each h = absurd (cc)
covered-domain (r ∷ rs) t each h =
    elim (or_cases (contains r t) (covered rs t) h) [
      | inl here ↦
          let inside = contains-from r t here in
          let low = each.0.begins in
          let high = each.0.ends in
          (omega (arith, ints), omega (arith, ints))
      | inr later ↦ covered-domain rs t each.1 later
    ]

two-sides : (a : Bool) (m t : ℤ) → (a ≡ true → InDomain t) → a ≡ ((a && (int_le FIRST t && int_lt t m)) || (a && (int_le m t && int_lt t END)))
two-sides true m t h =
    let low = (h refl).0 in
    let high = (h refl).1 in
    grind (arith, ints)
two-sides false m t h = refl

not-early : (a : Bool) (m t : ℤ) → m ≤ℤ t → (a && (int_le FIRST t && int_lt t m)) ≡ false
not-early true m t h = grind (arith, ints)
not-early false m t h = refl

not-late : (a : Bool) (m t : ℤ) → t <ℤ m → (a && (int_le m t && int_lt t END)) ≡ false
not-late true m t h = grind (arith, ints)
not-late false m t h = refl

-- The times of `part` are those of `rest` between the two times.
abbrev pub IsBetween : List RangeValue → ℤ → ℤ → List RangeValue → Type 0
IsBetween rest from to part = (t : ℤ) → covered part t ≡ (covered rest t && (int_le from t && int_lt t to))

-- Of points in order, those in the ranges are those before a time, and then those from it on.
points-two : (rest low high : List RangeValue) (m : ℤ) (b : List Point) → IsCut rest → IsBetween rest FIRST m low → IsBetween rest m END high → IsInOrder b → points_in b rest ≡ points_in b low ++ points_in b high
points-two rest low high m b cut h k order =
    filter-same (λ p. covered rest p.time) (λ p. covered low p.time || covered high p.time) b (λ p. two-sides (covered rest p.time) m p.time (covered-domain rest p.time cut.each) ∙ sym (λ i. h p.time i || k p.time i))
    ∙ filter-two (λ p. covered low p.time) (λ p. covered high p.time) m b order (λ p late. h p.time ∙ not-early (covered rest p.time) m p.time late) (λ p early. k p.time ∙ not-late (covered rest p.time) m p.time early)

points-one : (b : List Point) (parts : List (List RangeValue)) (r : List RangeValue) → flat_map (points_in b) (parts ++ r ∷ []) ≡ flat_map (points_in b) parts ++ points_in b r
points-one b parts r =
    flat_map-append (points_in b) parts (r ∷ []) ∙ ap (λ l. flat_map (points_in b) parts ++ l) (append-nil (points_in b r))

-- The rest is parted at one time more.
pub parts-more : (cut rest low high : List RangeValue) (m : ℤ) (parts : List (List RangeValue)) → IsCut rest → AreSoFar cut parts rest → IsBetween rest FIRST m low → IsBetween rest m END high → AreSoFar cut (parts ++ low ∷ []) high
parts-more cut rest low high m parts is_cut so_far h k b order =
    ap (λ l. l ++ points_in b high) (points-one b parts low)
    ∙ append_assoc (flat_map (points_in b) parts) (points_in b low) (points_in b high)
    ∙ ap (λ l. flat_map (points_in b) parts ++ l) (sym (points-two rest low high m b is_cut h k order))
    ∙ so_far b order

-- If each of the bags has the points in its part, together they have those in all parts.
bags-points : (b : List Point) (parts : List (List RangeValue)) (bags : List (List Point)) → AllZip (λ r l. l ≡ points_in b r) parts bags → flat_map (λ l. l) bags ≡ flat_map (points_in b) parts
bags-points b [] [] h = refl
bags-points b [] (l ∷ bags) h = absurd h
bags-points b (r ∷ parts) [] h = absurd h
bags-points b (r ∷ parts) (l ∷ bags) h = λ i. h.0 i ++ bags-points b parts bags h.1 i

pub joined-points : (cut : List RangeValue) (b : List Point) (parts : List (List RangeValue)) (bags : List (List Point)) → ArePartsOf cut parts → IsInOrder b → AllZip (λ r l. l ≡ points_in b r) parts bags → flat_map (λ l. l) bags ≡ points_in b cut
joined-points cut b parts bags are order h = bags-points b parts bags h ∙ are b order

-- What holds at each part of an answer that is Ok, if all of them are Ok.
pub all-ok : {X Y : Type 0} (E : Type 0) (P : X → Y → Type 0) (xs : List X) (ys : List Y) → AllZip (λ x (r : Result Y E). IfOk r (P x)) xs (map Ok ys) → AllZip P xs ys
all-ok E P [] [] h = tt
all-ok E P [] (y ∷ ys) h = absurd h
all-ok E P (x ∷ xs) [] h = absurd h
all-ok E P (x ∷ xs) (y ∷ ys) h = (h.0, all-ok E P xs ys h.1)
