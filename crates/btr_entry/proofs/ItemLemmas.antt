-- Lemmas on lists of items of sixteen bytes each: their length, reading, writing, and that no other list has the same bytes.
use Rattle.std.proofs.Common.{◌≡◌, ℕ, ◌+◌, ◌*◌, ◌%◌, ◌<◌, ◌≤◌, ◌==◌, false, ℤ, List, [], ◌∷◌, ◌++◌, length, refl, sym, ap, ◌∙◌, subst, arith, length-append, append_assoc, take}
use Rattle.std.specs.List.{flat_map, AllByRecursion}
use Rattle.std.specs.Int.{w64}
use Rattle.std.specs.Int.RustNames.{FitsSigned}
use Rattle.std.proofs.lemmas.List.{append-nil, flat_map_more}
use Rattle.std.proofs.lemmas.List.Concat.{flat_map-cons}
use Rattle.std.proofs.lemmas.Grind.{flat_map-append}
use Rattle.std.proofs.lemmas.Bool.Decides.{nat_tests}
use Rattle.std.proofs.lemmas.Int.{ints}
use Rattle.btr_base.specs.declared.point.Point.{Point}
use Rattle.btr_base.specs.Point.{InDomain, AreInDomain}
use Rattle.btr_base.specs.Range.{RangeValue, IsRange}
use Rattle.btr_entry.specs.Grammar.{number, signed, range, point, listed, ValuesFit}
use Rattle.btr_entry.specs.Fields.{PointFits}
use Rattle.btr_entry.proofs.NumberLemmas.{same_parts, signed_once, length-signed, wide64}

-- Each item takes sixteen bytes, and no two good items have the same bytes.
pub record IsItem {X : Type 0} (item : X → List ℕ) (Good : X → Type 0) : Type 0 where
  pub len : (x : X) → length (item x) ≡ 16
  pub once : (x y : X) → Good x → Good y → item x ≡ item y → x ≡ y

-- ---- ranges and points

pub length-range : (r : RangeValue) → length (range r) ≡ 16
length-range r = omega (arith, length-append (signed r.from) (signed r.to), length-signed r.from, length-signed r.to)

pub length-point : (p : Point) → length (point p) ≡ 16
length-point p = omega (arith, length-append (signed p.time) (signed p.value), length-signed p.time, length-signed p.value)

-- Sixteen bytes determine their two numbers.
pub pair_once : (a b c d : ℤ) (x y : List ℕ) → FitsSigned w64 a → FitsSigned w64 b → FitsSigned w64 c → FitsSigned w64 d → signed a ++ (signed b ++ x) ≡ signed c ++ (signed d ++ y) → (a ≡ c) × (b ≡ d)
pair_once a b c d x y a_fits b_fits c_fits d_fits same =
    let first = signed_once a c (signed b ++ x) (signed d ++ y) a_fits c_fits same in
    (first.0, (signed_once b d x y b_fits d_fits first.1).0)

pair_alone : (a b c d : ℤ) → FitsSigned w64 a → FitsSigned w64 b → FitsSigned w64 c → FitsSigned w64 d → signed a ++ signed b ≡ signed c ++ signed d → (a ≡ c) × (b ≡ d)
pair_alone a b c d a_fits b_fits c_fits d_fits same =
    pair_once a b c d [] [] a_fits b_fits c_fits d_fits (ap (λ (l : List ℕ). signed a ++ l) (append-nil (signed b)) ∙ same ∙ ap (λ (l : List ℕ). signed c ++ l) (sym (append-nil (signed d))))

pub from_fits : (r : RangeValue) → IsRange r → FitsSigned w64 r.from
from_fits r h =
    let begins = h.begins in
    let some = h.not_empty in
    let ends = h.ends in
    grind (arith, ints)

pub to_fits : (r : RangeValue) → IsRange r → FitsSigned w64 r.to
to_fits r h =
    let begins = h.begins in
    let some = h.not_empty in
    let ends = h.ends in
    grind (arith, ints)

pub time_fits : (t : ℤ) → InDomain t → FitsSigned w64 t
time_fits t h =
    let begins = h.0 in
    let ends = h.1 in
    grind (arith, ints)

pub range_item : IsItem range IsRange
range_item = record {
  len = length-range;
  once = λ r s h k same.
      let both = pair_alone r.from r.to s.from s.to (from_fits r h) (to_fits r h) (from_fits s k) (to_fits s k) same in
      λ i. record { from = both.0 i; to = both.1 i };
}

pub each_room : (ps : List Point) → AreInDomain ps → ValuesFit ps → AllByRecursion PointFits ps
each_room [] h k = tt
each_room (p ∷ ps) h k = (record { time = time_fits p.time h.0; value = k.0 }, each_room ps h.1 k.1)

pub room-values : (ps : List Point) → AllByRecursion PointFits ps → ValuesFit ps
room-values [] h = tt
room-values (p ∷ ps) h = (h.0.value, room-values ps h.1)

pub point_item : IsItem point PointFits
point_item = record {
  len = length-point;
  once = λ p q h k same.
      let both = pair_alone p.time p.value q.time q.value h.time h.value k.time k.value same in
      λ i. record { time = both.0 i; value = both.1 i };
}

-- ---- lists of items

pub length-items : {X : Type 0} (item : X → List ℕ) → ((x : X) → length (item x) ≡ 16) → (xs : List X) → length (flat_map item xs) ≡ 16 * length xs
length-items item len [] = refl
length-items item len (x ∷ xs) =
    let long = ap (length {A = ℕ}) (flat_map-cons item x xs) in
    omega (arith, long, length-append (item x) (flat_map item xs), len x, length-items item len xs)

pub length-listed : {X : Type 0} (item : X → List ℕ) (xs : List X) → ((x : X) → length (item x) ≡ 16) → length (listed item xs) ≡ 8 + 16 * length xs
length-listed item xs len = omega (arith, length-append (number w64 (length xs)) (flat_map item xs), wide64.len (length xs), length-items item len xs)

pub items_once : {X : Type 0} (item : X → List ℕ) (Good : X → Type 0) → IsItem item Good → (xs ys : List X) → AllByRecursion Good xs → AllByRecursion Good ys → flat_map item xs ≡ flat_map item ys → xs ≡ ys
items_once item Good is [] [] h k same = refl
items_once item Good is [] (y ∷ ys) h k same =
    let long = ap (length {A = ℕ}) same in
    absurd (omega (arith, long, length-items item is.len (y ∷ ys)))
items_once item Good is (x ∷ xs) [] h k same =
    let long = ap (length {A = ℕ}) same in
    absurd (omega (arith, long, length-items item is.len (x ∷ xs)))
items_once item Good is (x ∷ xs) (y ∷ ys) h k same =
    let parts = same_parts (item x) (item y) (flat_map item xs) (flat_map item ys) (is.len x ∙ sym (is.len y)) (sym (flat_map-cons item x xs) ∙ same ∙ flat_map-cons item y ys) in
    let first = is.once x y h.0 k.0 parts.0 in
    let rest = items_once item Good is xs ys h.1 k.1 parts.1 in
    cc

-- ---- reading items one after another

-- The items that were read, and the bytes that are left.
pub record Taken {X : Type 0} (item : X → List ℕ) (bytes : List ℕ) (xs : List X) (rest : List ℕ) : Type 0 where
  pub parts : flat_map item xs ++ rest ≡ bytes
  pub whole : length rest % 16 ≡ 0

pub Taken-next : {X : Type 0} (item : X → List ℕ) (bytes : List ℕ) (xs : List X) (rest : List ℕ) (x : X) (after : List ℕ) → length (item x) ≡ 16 → rest ≡ item x ++ after → Taken item bytes xs rest → Taken item bytes (xs ++ x ∷ []) after
Taken-next item bytes xs rest x after len is h =
    let long = ap (length {A = ℕ}) is in
    let one : flat_map item (x ∷ []) ≡ item x = flat_map-cons item x [] ∙ append-nil (item x) in
    let more : flat_map item (xs ++ x ∷ []) ≡ flat_map item xs ++ item x = flat_map-append item xs (x ∷ []) ∙ ap (λ (l : List ℕ). flat_map item xs ++ l) one in
    record {
      parts = ap (λ (l : List ℕ). l ++ after) more ∙ append_assoc (flat_map item xs) (item x) after ∙ ap (λ (l : List ℕ). flat_map item xs ++ l) (sym is) ∙ h.parts;
      whole = omega (arith, h.whole, long, len, length-append (item x) after);
    }

-- If bytes are left, an item is left, and its second number after its first.
pub some_left : (n : ℕ) → false ≡ (n == 0) → n % 16 ≡ 0 → 16 ≤ n
some_left n some whole = let h : 0 < n = grind (arith, nat_tests) in omega arith

pub second_left : (rest after : List ℕ) (z : ℤ) → false ≡ (length rest == 0) → length rest % 16 ≡ 0 → rest ≡ signed z ++ after → 8 ≤ length after
second_left rest after z some whole is =
    let long = ap (length {A = ℕ}) is in
    omega (arith, some_left (length rest) some whole, long, length-append (signed z) after, length-signed z)

pub shorter : (rest middle after : List ℕ) (a b : ℤ) → rest ≡ signed a ++ middle → middle ≡ signed b ++ after → length after < length rest
shorter rest middle after a b first second =
    let long = ap (length {A = ℕ}) first in
    let short = ap (length {A = ℕ}) second in
    omega (arith, long, short, length-append (signed a) middle, length-append (signed b) after, length-signed a, length-signed b)

pub both_parts : (rest middle after : List ℕ) (a b : ℤ) → rest ≡ signed a ++ middle → middle ≡ signed b ++ after → rest ≡ (signed a ++ signed b) ++ after
both_parts rest middle after a b first second =
    first ∙ ap (λ (l : List ℕ). signed a ++ l) second ∙ sym (append_assoc (signed a) (signed b) after)

-- If the bytes are those of ranges, what follows the first of them is a range.
pub next_is_range : (prefix : List RangeValue) (r : RangeValue) (rest : List ℕ) (rs : List RangeValue) → FitsSigned w64 r.from → FitsSigned w64 r.to → AllByRecursion IsRange rs → flat_map range prefix ++ (signed r.from ++ (signed r.to ++ rest)) ≡ flat_map range rs → IsRange r
next_is_range [] r rest [] fits_from fits_to h same =
    let long = ap (length {A = ℕ}) same in
    absurd (omega (arith, long, length-append (signed r.from) (signed r.to ++ rest), length-signed r.from))
next_is_range [] r rest (s ∷ rs) fits_from fits_to h same =
    let both = pair_once r.from r.to s.from s.to rest (flat_map range rs) fits_from fits_to (from_fits s h.0) (to_fits s h.0) (same ∙ flat_map-cons range s rs ∙ append_assoc (signed s.from) (signed s.to) (flat_map range rs)) in
    let is : r ≡ s = λ i. record { from = both.0 i; to = both.1 i } in
    subst IsRange (sym is) h.0
next_is_range (f ∷ prefix) r rest [] fits_from fits_to h same =
    let long = ap (length {A = ℕ}) same in
    absurd (omega (arith, long, length-append (flat_map range (f ∷ prefix)) (signed r.from ++ (signed r.to ++ rest)), length-items range length-range (f ∷ prefix)))
next_is_range (f ∷ prefix) r rest (s ∷ rs) fits_from fits_to h same =
    let after = signed r.from ++ (signed r.to ++ rest) in
    let apart : range f ++ (flat_map range prefix ++ after) ≡ range s ++ flat_map range rs = sym (ap (λ (l : List ℕ). l ++ after) (flat_map-cons range f prefix) ∙ append_assoc (range f) (flat_map range prefix) after) ∙ same ∙ flat_map-cons range s rs in
    let parts = same_parts (range f) (range s) (flat_map range prefix ++ after) (flat_map range rs) (length-range f ∙ sym (length-range s)) apart in
    next_is_range prefix r rest rs fits_from fits_to h.1 parts.1

-- ---- writing items one after another

pub Taken-wrote : {X : Type 0} (item : X → List ℕ) (init out middle new a b : List ℕ) (xs : List X) (i : ℕ) (x : X) → take (i + 1) xs ≡ take i xs ++ x ∷ [] → item x ≡ a ++ b → out ≡ init ++ flat_map item (take i xs) → middle ≡ out ++ a → new ≡ middle ++ b → new ≡ init ++ flat_map item (take (i + 1) xs)
Taken-wrote {X = X} item init out middle new a b xs i x more is so_far first second =
    let both : new ≡ out ++ item x = second ∙ ap (λ (l : List ℕ). l ++ b) first ∙ append_assoc out a b ∙ ap (λ (l : List ℕ). out ++ l) (sym is) in
    both ∙ ap (λ (l : List ℕ). l ++ item x) so_far ∙ flat_map_more item init (take i xs) x ∙ ap (λ (l : List X). init ++ flat_map item l) (sym more)
