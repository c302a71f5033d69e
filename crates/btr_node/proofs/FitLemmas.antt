-- What is read at the places of any bytes fits: it is a page, though it may break the table.
use Rattle.std.specs.Prelude.{◌≡◌, ℕ, zero, suc, ◌+◌, ◌^◌, ◌<◌, ℤ, pos, ◌*ℤ◌, ◌≤ℤ◌, Bool, true, false, ◌==◌, ◌&&◌, nat_lt, int_le}
use Rattle.std.specs.Prelude.{List, length, take, drop, slice_index, if◌then◌else◌, Some}
use Rattle.std.proofs.Common.{inl, inr, refl, ap, get_or, arith}
use Rattle.std.specs.Int.{w32, w64, w128, from_be_bytes, cast_signed}
use Rattle.std.specs.Int.RustNames.{FitsSigned}
use Rattle.std.specs.List.{AllByRecursion}
use Rattle.std.proofs.Math.Facts.{sfits_to_z}
use Rattle.std.proofs.lemmas.Bool.{cases_lt}
use Rattle.std.proofs.lemmas.Bool.Decides.{nat_tests}
use Rattle.std.proofs.lemmas.Int.{ints}
use Rattle.std.proofs.lemmas.List.{length-take, get_or-take, get_or-drop, get_or_past}
use Rattle.btr_base.specs.Agg.{AggValue, IsSummary, no_points}
use Rattle.btr_node.specs.declared.page.NodePage.{NodePage}
use Rattle.btr_node.specs.declared.page.NodePage.TheVariants.{Leaf, Inner}
use Rattle.btr_node.specs.Page.{Fits, FitsHeader, FitsPoint, FitsSlot}
use Rattle.btr_node.specs.Reading.{u32_in, u64_in, u128_in, header_in, point_in, agg_from, agg_in, slot_in, items_in}

abbrev pub IsBytes : List ℕ → Type 0
IsBytes bytes = (i : ℕ) → get_or bytes i 0 < 256

-- ---- numbers

pub IsBytes-take : (n : ℕ) (bytes : List ℕ) → IsBytes bytes → IsBytes (take n bytes)
IsBytes-take n bytes h i =
    elim (cases_lt i n) [
      | inl lt ↦ rw (get_or-take n bytes i 0 lt) (h i)
      | inr le ↦ rw (get_or_past (take n bytes) i 0 (omega (arith, length-take n bytes))) (omega arith)
    ]

pub IsBytes-drop : (n : ℕ) (bytes : List ℕ) → IsBytes bytes → IsBytes (drop n bytes)
IsBytes-drop n bytes h i = rw get_or-drop (h (n + i))

below32 : (bytes : List ℕ) → IsBytes bytes → from_be_bytes w32 bytes < 2 ^ 32
below32 bytes h = omega (arith, h 0, h 1, h 2, h 3)

pub below64 : (bytes : List ℕ) → IsBytes bytes → from_be_bytes w64 bytes < 2 ^ 64
below64 bytes h = omega (arith, h 0, h 1, h 2, h 3, h 4, h 5, h 6, h 7)

below128 : (bytes : List ℕ) → IsBytes bytes → from_be_bytes w128 bytes < 2 ^ 128
below128 bytes h =
    omega (arith, h 0, h 1, h 2, h 3, h 4, h 5, h 6, h 7, h 8, h 9, h 10, h 11, h 12, h 13, h 14, h 15)

module _ (bytes : List ℕ) (h : IsBytes bytes) where
  u32-fits : (at : ℕ) → u32_in at bytes < 2 ^ 32
  u32-fits at = below32 (take 4 (drop at bytes)) (IsBytes-take 4 (drop at bytes) (IsBytes-drop at bytes h))

  pub u64-fits : (at : ℕ) → u64_in at bytes < 2 ^ 64
  u64-fits at = below64 (take 8 (drop at bytes)) (IsBytes-take 8 (drop at bytes) (IsBytes-drop at bytes h))

  pub u128-fits : (at : ℕ) → u128_in at bytes < 2 ^ 128
  u128-fits at = below128 (take 16 (drop at bytes)) (IsBytes-take 16 (drop at bytes) (IsBytes-drop at bytes h))

  i64-fits : (at : ℕ) → FitsSigned w64 (cast_signed w64 (u64_in at bytes))
  i64-fits at = sfits_to_z {w = w64} {n = u64_in at bytes} (record { fits = u64-fits at })

  i128-fits : (at : ℕ) → FitsSigned w128 (cast_signed w128 (u128_in at bytes))
  i128-fits at = sfits_to_z {w = w128} {n = u128_in at bytes} (record { fits = u128-fits at })

  pub header-fits : FitsHeader (header_in bytes)
  unfolding header_in
  header-fits = record {
    start = i64-fits 8;
    height = u32-fits 16;
    stream = u32-fits 20;
    version = u64-fits 24;
    count = u64-fits 32;
  }

  point-fits : (at : ℕ) → FitsPoint (point_in at bytes)
  unfolding point_in
  point-fits at = record { time = i64-fits at; value = i64-fits (at + 8) }

-- ---- an aggregate

either : {A : Type 0} (P : A → Type 0) (b : Bool) (x y : A) → (b ≡ true → P x) → P y → P (if b then x else y)
either P true x y f q = f refl
either P false x y f q = q

all-three : (a b c : Bool) → (a && b && c) ≡ true → (a ≡ true) × (b ≡ true) × (c ≡ true)
all-three true true true h = (refl, refl, refl)
all-three true true false h = absurd (cc)
all-three true false c h = absurd (cc)
all-three false b c h = absurd (cc)

lt-from : (n : ℕ) → nat_lt 0 n ≡ true → 0 < n
lt-from n h = grind (arith, nat_tests)

le-from : (a b : ℤ) → int_le a b ≡ true → a ≤ℤ b
le-from a b h = grind (arith, ints)

pub record FitsAgg (a : AggValue) : Type 0 where
  pub summary : IsSummary a
  pub count : a.count < 2 ^ 64
  pub total : FitsSigned w128 a.total

agg-fits : (n : ℕ) (total least greatest : ℤ) → n < 2 ^ 64 → FitsSigned w128 total → FitsSigned w64 least → FitsSigned w64 greatest → FitsAgg (agg_from n total least greatest)
unfolding agg_from
agg-fits n total least greatest small sum low high =
    either FitsAgg (nat_lt 0 n && int_le (pos n *ℤ least) total && int_le total (pos n *ℤ greatest)) (record { count = n; total = total; ends = Some (least, greatest) }) no_points
    (λ yes.
    let three = all-three (nat_lt 0 n) (int_le (pos n *ℤ least) total) (int_le total (pos n *ℤ greatest)) yes in
    record {
      summary = (
        lt-from n three.0,
        le-from (pos n *ℤ least) total three.1,
        le-from total (pos n *ℤ greatest) three.2,
        (omega (arith, ints), omega (arith, ints)),
        (omega (arith, ints), omega (arith, ints)),
      );
      count = small;
      total = sum;
    })
    (record { summary = (refl, refl); count = omega arith; total = omega (arith, ints) })

slot-fits : (bytes : List ℕ) → IsBytes bytes → (at : ℕ) → FitsSlot (slot_in at bytes)
unfolding slot_in agg_in
slot-fits bytes h at =
    let a = agg-fits (u64_in at bytes) (cast_signed w128 (u128_in (at + 8) bytes)) (cast_signed w64 (u64_in (at + 24) bytes)) (cast_signed w64 (u64_in (at + 32) bytes)) (u64-fits bytes h at) (i128-fits bytes h (at + 8)) (i64-fits bytes h (at + 24)) (i64-fits bytes h (at + 32)) in
    record {
      summary = a.summary;
      count = a.count;
      total = a.total;
      version = u64-fits bytes h (at + 40);
      child = u64-fits bytes h (at + 48);
    }

-- ---- a page

-- What the bytes would be, if they are those of a page. The fifth byte tells the kind: `L` of `BTR-LEAF`.
unfoldable pub page_in : List ℕ → NodePage
page_in bytes =
    let f = header_in bytes in
    if slice_index bytes 4 == 76
    then Leaf f.start f.height f.stream f.version f.count (items_in point_in 16 252 64 bytes)
    else Inner f.start f.height f.stream f.version f.count (items_in slot_in 56 64 64 bytes)

items-fit : {X : Type 0} (item : ℕ → List ℕ → X) (Fit : X → Type 0) (w : ℕ) (bytes : List ℕ) → ((at : ℕ) → Fit (item at bytes)) → (n at : ℕ) → AllByRecursion Fit (items_in item w n at bytes)
unfolding items_in
items-fit item Fit w bytes each zero at = tt
items-fit item Fit w bytes each (suc n) at = (each at, items-fit item Fit w bytes each n (at + w))

pub length-items : {X : Type 0} (item : ℕ → List ℕ → X) (w : ℕ) (bytes : List ℕ) (n at : ℕ) → length (items_in item w n at bytes) ≡ n
unfolding items_in
length-items item w bytes zero at = refl
length-items item w bytes (suc n) at = ap suc (length-items item w bytes n (at + w))

pub page-fits : (bytes : List ℕ) → IsBytes bytes → Fits (page_in bytes)
unfolding page_in
page-fits bytes h =
    let f = header_in bytes in
    let fields = header-fits bytes h in
    let points = items_in point_in 16 252 64 bytes in
    let slots = items_in slot_in 56 64 64 bytes in
    let leaf : Fits (Leaf f.start f.height f.stream f.version f.count points) = (fields, length-items point_in 16 bytes 252 64, items-fit point_in FitsPoint 16 bytes (point-fits bytes h) 252 64) in
    let inner : Fits (Inner f.start f.height f.stream f.version f.count slots) = (fields, length-items slot_in 56 bytes 64 64, items-fit slot_in FitsSlot 56 bytes (slot-fits bytes h) 64 64) in
    either Fits (slice_index bytes 4 == 76) (Leaf f.start f.height f.stream f.version f.count points) (Inner f.start f.height f.stream f.version f.count slots) (λ yes. leaf) inner
