-- What is read at the places of bytes that were spelled.
use Rattle.std.specs.Prelude.{◌≡◌, ℕ, zero, suc, ◌+◌, ◌*◌, ◌^◌, ◌<◌, ℤ, pos, ◌*ℤ◌, ◌≤ℤ◌, int_le, nat_lt, true}
use Rattle.std.specs.Prelude.{List, [], ◌∷◌, ◌++◌, length, take, drop, slice_set, Option, Some, None}
use Rattle.std.proofs.Common.{inl, inr, refl, sym, subst, ap, ◌∙◌, arith, rules, append_assoc}
use Rattle.std.specs.Int.{w32, w64, w128, from_be_bytes, cast_unsigned, cast_signed}
use Rattle.std.specs.Int.RustNames.{FitsSigned}
use Rattle.std.specs.List.{flat_map, AllByRecursion}
use Rattle.std.proofs.lemmas.Bool.{cases_lt}
use Rattle.std.proofs.lemmas.Bool.Decides.{nat_tests}
use Rattle.std.proofs.lemmas.Int.{ints, to_z-of_z}
use Rattle.std.proofs.lemmas.List.{drop_at, drop-drop, take_all, take_more_set, length-set}
use Rattle.std.proofs.lemmas.List.Concat.{flat_map-cons}
use Rattle.std.proofs.lemmas.Nat.{from_be_bytes-to_be_bytes_4, from_be_bytes-to_be_bytes_8}
use Rattle.btr_base.specs.declared.point.Point.{Point}
use Rattle.btr_base.specs.Agg.{EndsFit}
use Rattle.btr_node.specs.declared.page.PageHeader.{PageHeader}
use Rattle.btr_node.specs.declared.page.PageSlot.{PageSlot}
use Rattle.btr_node.specs.Page.{number, signed, zeros, header_bytes, point_bytes, slot_bytes, ends_or, FitsHeader, FitsPoint, FitsSlot}
use Rattle.btr_node.specs.Reading.{header_in, point_in, agg_from, agg_in, slot_in, items_in, IsExact, IsExactAt, AreExact}

-- ---- numbers

again32 : (n : ℕ) → n < 2 ^ 32 → from_be_bytes w32 (number w32 n) ≡ n
unfolding number
again32 n lt = from_be_bytes-to_be_bytes_4 n lt

again64 : (n : ℕ) → n < 2 ^ 64 → from_be_bytes w64 (number w64 n) ≡ n
unfolding number
again64 n lt = from_be_bytes-to_be_bytes_8 n lt

again128 : (n : ℕ) → n < 2 ^ 128 → from_be_bytes w128 (number w128 n) ≡ n
unfolding number
again128 n lt = omega arith

signed-again : (z : ℤ) → FitsSigned w64 z → cast_signed w64 (from_be_bytes w64 (signed z)) ≡ z
signed-again z fits =
    let small : cast_unsigned w64 z < 2 ^ 64 = omega (arith, ints) in
    ap (cast_signed w64) (again64 (cast_unsigned w64 z) small) ∙ to_z-of_z w64 z fits

sum-again : (z : ℤ) → FitsSigned w128 z → cast_signed w128 (from_be_bytes w128 (number w128 (cast_unsigned w128 z))) ≡ z
sum-again z fits =
    let small : cast_unsigned w128 z < 2 ^ 128 = omega (arith, ints) in
    ap (cast_signed w128) (again128 (cast_unsigned w128 z) small) ∙ to_z-of_z w128 z fits

-- ---- places

pub drop-more : (m n : ℕ) (xs : List ℕ) → drop (m + n) xs ≡ drop n (drop m xs)
drop-more m n xs = sym (drop-drop n m xs)

-- ---- the fields of both kinds

pub header-again : (b0 b1 b2 b3 b4 b5 b6 b7 : ℕ) (f : PageHeader) (rest : List ℕ) → FitsHeader f → header_in ((b0 ∷ b1 ∷ b2 ∷ b3 ∷ b4 ∷ b5 ∷ b6 ∷ b7 ∷ []) ++ header_bytes f ++ rest) ≡ f
unfolding header_in header_bytes number zeros
header-again b0 b1 b2 b3 b4 b5 b6 b7 f rest fits =
    let start = signed-again f.start fits.start in
    let height = again32 f.height fits.height in
    let stream = again32 f.stream fits.stream in
    let version = again64 f.version fits.version in
    let count = again64 f.count fits.count in
    λ i. record { start = start i; height = height i; stream = stream i; version = version i; count = count i }

pub length-header : (f : PageHeader) → length (header_bytes f) ≡ 56
unfolding header_bytes number zeros
length-header f = refl

-- ---- a point

pub point-again : (p : Point) (rest : List ℕ) → FitsPoint p → point_in 0 (point_bytes p ++ rest) ≡ p
unfolding point_in point_bytes number
point-again p rest fits =
    let time = signed-again p.time fits.time in
    let value = signed-again p.value fits.value in
    λ i. record { time = time i; value = value i }

pub point-moved : (at : ℕ) (bytes : List ℕ) → point_in at bytes ≡ point_in 0 (drop at bytes)
unfolding point_in
point-moved at bytes =
    let e = drop-more at 8 bytes in
    λ i. record { time = cast_signed w64 (from_be_bytes w64 (take 8 (drop at bytes))); value = cast_signed w64 (from_be_bytes w64 (take 8 (e i))) }

pub length-point : (p : Point) → length (point_bytes p) ≡ 16
unfolding point_bytes number
length-point p = refl

-- ---- a slot

le-true : (a b : ℤ) → a ≤ℤ b → int_le a b ≡ true
le-true a b h = grind (arith, ints)

lt-true : (n : ℕ) → 0 < n → nat_lt 0 n ≡ true
lt-true n h = grind (arith, nat_tests)

pub agg-again : (n : ℕ) (total : ℤ) (ends : Option (ℤ × ℤ)) → EndsFit n total ends → agg_from n total (ends_or ends).0 (ends_or ends).1 ≡ record { count = n; total = total; ends = ends }
unfolding agg_from
agg-again n total None fit =
    let a = sym fit.0 in
    let b = sym fit.1 in
    ap (λ m. agg_from m total (pos 0) (pos 0)) fit.0
    ∙ ap (λ t. agg_from 0 t (pos 0) (pos 0)) fit.1
    ∙ (λ i. record { count = a i; total = b i; ends = None })
agg-again n total (Some e) fit =
    let a = lt-true n fit.0 in
    let b = le-true (pos n *ℤ e.0) total fit.1 in
    let c = le-true total (pos n *ℤ e.1) fit.2 in
    rw (a, b, c) refl

-- The numbers of points are those of their aggregate.
pub agg-exact : (n : ℕ) (total least greatest : ℤ) → 0 < n → (pos n *ℤ least) ≤ℤ total → total ≤ℤ (pos n *ℤ greatest) → IsExact n total least greatest
unfolding agg_from
agg-exact n total least greatest some low high =
    let a = lt-true n some in
    let b = le-true (pos n *ℤ least) total low in
    let c = le-true total (pos n *ℤ greatest) high in
    rw (a, b, c) (refl, refl, refl, refl)

ends-fit : (n : ℕ) (total : ℤ) (ends : Option (ℤ × ℤ)) → EndsFit n total ends → FitsSigned w64 (ends_or ends).0 × FitsSigned w64 (ends_or ends).1
ends-fit n total None fit = (search rules, search rules)
ends-fit n total (Some e) fit =
    let least = fit.3 in
    let greatest = fit.4 in
    (omega (arith, ints, least.0, least.1), omega (arith, ints, greatest.0, greatest.1))

pub slot-again : (s : PageSlot) (rest : List ℕ) → FitsSlot s → slot_in 0 (slot_bytes s ++ rest) ≡ s
unfolding slot_in agg_in slot_bytes number
slot-again s rest fits =
    let count = again64 s.agg.count fits.count in
    let total = sum-again s.agg.total fits.total in
    let least = signed-again (ends_or s.agg.ends).0 (ends-fit s.agg.count s.agg.total s.agg.ends fits.summary).0 in
    let greatest = signed-again (ends_or s.agg.ends).1 (ends-fit s.agg.count s.agg.total s.agg.ends fits.summary).1 in
    let same = agg-again s.agg.count s.agg.total s.agg.ends fits.summary in
    let agg = (λ i. agg_from (count i) (total i) (least i) (greatest i)) ∙ same in
    let version = again64 s.version fits.version in
    let child = again64 s.child fits.child in
    λ i. record { agg = agg i; version = version i; child = child i }

pub slot-moved : (at : ℕ) (bytes : List ℕ) → slot_in at bytes ≡ slot_in 0 (drop at bytes)
unfolding slot_in agg_in
slot-moved at bytes =
    let e8 = drop-more at 8 bytes in
    let e24 = drop-more at 24 bytes in
    let e32 = drop-more at 32 bytes in
    let e40 = drop-more at 40 bytes in
    let e48 = drop-more at 48 bytes in
    λ i. record {
      agg = agg_from (from_be_bytes w64 (take 8 (drop at bytes))) (cast_signed w128 (from_be_bytes w128 (take 16 (e8 i)))) (cast_signed w64 (from_be_bytes w64 (take 8 (e24 i)))) (cast_signed w64 (from_be_bytes w64 (take 8 (e32 i))));
      version = from_be_bytes w64 (take 8 (e40 i));
      child = from_be_bytes w64 (take 8 (e48 i));
    }

pub length-slot : (s : PageSlot) → length (slot_bytes s) ≡ 56
unfolding slot_bytes number
length-slot s = refl

-- ---- items of one width

pub items-again : {X : Type 0} (item : ℕ → List ℕ → X) (bytes_of : X → List ℕ) (Fit : X → Type 0) (w : ℕ) → ((x : X) (rest : List ℕ) → Fit x → item 0 (bytes_of x ++ rest) ≡ x) → ((at : ℕ) (bytes : List ℕ) → item at bytes ≡ item 0 (drop at bytes)) → ((x : X) → length (bytes_of x) ≡ w) → (xs : List X) (at : ℕ) (bytes rest : List ℕ) → AllByRecursion Fit xs → drop at bytes ≡ flat_map bytes_of xs ++ rest → items_in item w (length xs) at bytes ≡ xs
unfolding items_in
items-again item bytes_of Fit w again moved len [] at bytes rest fits is = refl
items-again item bytes_of Fit w again moved len (x ∷ xs) at bytes rest fits is =
    let here : drop at bytes ≡ bytes_of x ++ (flat_map bytes_of xs ++ rest) = is ∙ ap (λ l. l ++ rest) (flat_map-cons bytes_of x xs) ∙ append_assoc (bytes_of x) (flat_map bytes_of xs) rest in
    let first : item at bytes ≡ x = moved at bytes ∙ ap (item 0) here ∙ again x (flat_map bytes_of xs ++ rest) fits.0 in
    let next : drop (at + w) bytes ≡ flat_map bytes_of xs ++ rest = drop-more at w bytes ∙ ap (drop w) here ∙ drop_at (bytes_of x) (flat_map bytes_of xs ++ rest) w (len x) in
    let others = items-again item bytes_of Fit w again moved len xs (at + w) bytes rest fits.1 next in
    λ i. first i ∷ others i

pub items-more : {X : Type 0} (item : ℕ → List ℕ → X) (w n at : ℕ) (bytes : List ℕ) → items_in item w (suc n) at bytes ≡ items_in item w n at bytes ++ item (at + w * n) bytes ∷ []
unfolding items_in
items-more item w zero at bytes =
    let e : at ≡ at + w * 0 = omega arith in ap (λ k. item k bytes ∷ []) e
items-more item w (suc n) at bytes =
    let e : at + w + w * n ≡ at + w * suc n = omega arith in
    ap (λ l. item at bytes ∷ l) (items-more item w n (at + w) bytes ∙ ap (λ k. items_in item w n (at + w) bytes ++ item k bytes ∷ []) e)

-- The items that a list has so far are those that stand at the places from 64 on.
abbrev pub AreRead : {X : Type 0} → (ℕ → List ℕ → X) → ℕ → ℕ → List ℕ → ℕ → List X → Type 0
AreRead item w n bytes i xs = (take i xs ≡ items_in item w i 64 bytes) × (length xs ≡ n)

pub one-read : {X : Type 0} (item : ℕ → List ℕ → X) (w n : ℕ) (bytes : List ℕ) (i : ℕ) (xs : List X) (x : X) → i < n → x ≡ item (64 + w * i) bytes → AreRead item w n bytes i xs → AreRead item w n bytes (i + 1) (slice_set xs i x)
one-read item w n bytes i xs x lt is so_far =
    let len = so_far.1 in
    let e : suc i ≡ i + 1 = omega arith in (
      take_more_set xs i x (omega arith)
          ∙ ap (λ l. l ++ x ∷ []) so_far.0
          ∙ ap (λ y. items_in item w i 64 bytes ++ y ∷ []) is
          ∙ sym (items-more item w i 64 bytes)
          ∙ ap (λ k. items_in item w k 64 bytes) e,
      length-set xs i x ∙ so_far.1,
    )

pub all-read : {X : Type 0} (item : ℕ → List ℕ → X) (w n : ℕ) (bytes : List ℕ) (i : ℕ) (xs : List X) → i ≡ n → AreRead item w n bytes i xs → xs ≡ items_in item w n 64 bytes
all-read item w n bytes i xs done read =
    let len = read.1 in
    sym (take_all i xs (omega arith)) ∙ read.0 ∙ ap (λ k. items_in item w k 64 bytes) done

-- ---- the numbers of slots

pub exact-more : (i : ℕ) (bytes : List ℕ) → AreExact i bytes → IsExactAt (64 + 56 * i) bytes → AreExact (i + 1) bytes
exact-more i bytes so_far here k lt =
    elim (cases_lt k i) [
      | inl before ↦ so_far k before
      | inr last ↦ let e : i ≡ k = omega arith in subst (λ m. IsExactAt (64 + 56 * m) bytes) e here
    ]

pub exact-again : (s : PageSlot) (rest : List ℕ) → FitsSlot s → IsExactAt 0 (slot_bytes s ++ rest)
unfolding IsExactAt slot_bytes number
exact-again s rest fits =
    let ends = ends-fit s.agg.count s.agg.total s.agg.ends fits.summary in
    let count = again64 s.agg.count fits.count in
    let total = sum-again s.agg.total fits.total in
    let least = signed-again (ends_or s.agg.ends).0 ends.0 in
    let greatest = signed-again (ends_or s.agg.ends).1 ends.1 in
    let agg = (λ i. agg_from (count i) (total i) (least i) (greatest i)) ∙ agg-again s.agg.count s.agg.total s.agg.ends fits.summary in (
      ap (λ a. a.count) agg ∙ sym count,
      ap (λ a. a.total) agg ∙ sym total,
      ap (λ a. (ends_or a.ends).0) agg ∙ sym least,
      ap (λ a. (ends_or a.ends).1) agg ∙ sym greatest,
    )

abbrev IsExactOf : List ℕ → List ℕ → List ℕ → List ℕ → Type 0
IsExactOf count total least greatest =
    IsExact (from_be_bytes w64 (take 8 count)) (cast_signed w128 (from_be_bytes w128 (take 16 total))) (cast_signed w64 (from_be_bytes w64 (take 8 least))) (cast_signed w64 (from_be_bytes w64 (take 8 greatest)))

exact-moved : (at : ℕ) (bytes : List ℕ) → IsExactAt 0 (drop at bytes) → IsExactAt at bytes
unfolding IsExactAt
exact-moved at bytes h =
    let here = drop at bytes in
    let e8 = drop-more at 8 bytes in
    let e24 = drop-more at 24 bytes in
    let e32 = drop-more at 32 bytes in
    subst (λ l. IsExactOf here l (drop (at + 24) bytes) (drop (at + 32) bytes)) (sym e8)
    (subst (λ l. IsExactOf here (drop 8 here) l (drop (at + 32) bytes)) (sym e24)
    (subst (λ l. IsExactOf here (drop 8 here) (drop 24 here) l) (sym e32) h))

pub exact-places : (xs : List PageSlot) (at : ℕ) (bytes rest : List ℕ) → AllByRecursion FitsSlot xs → drop at bytes ≡ flat_map slot_bytes xs ++ rest → (k : ℕ) → k < length xs → IsExactAt (at + 56 * k) bytes
exact-places [] at bytes rest fits is k lt = absurd (omega arith)
exact-places (x ∷ xs) at bytes rest fits is zero lt =
    let here : drop at bytes ≡ slot_bytes x ++ (flat_map slot_bytes xs ++ rest) = is ∙ ap (λ l. l ++ rest) (flat_map-cons slot_bytes x xs) ∙ append_assoc (slot_bytes x) (flat_map slot_bytes xs) rest in
    let e : at ≡ at + 56 * 0 = omega arith in
    subst (λ m. IsExactAt m bytes) e (exact-moved at bytes (subst (λ l. IsExactAt 0 l) (sym here) (exact-again x (flat_map slot_bytes xs ++ rest) fits.0)))
exact-places (x ∷ xs) at bytes rest fits is (suc k) lt =
    let here : drop at bytes ≡ slot_bytes x ++ (flat_map slot_bytes xs ++ rest) = is ∙ ap (λ l. l ++ rest) (flat_map-cons slot_bytes x xs) ∙ append_assoc (slot_bytes x) (flat_map slot_bytes xs) rest in
    let next : drop (at + 56) bytes ≡ flat_map slot_bytes xs ++ rest = drop-more at 56 bytes ∙ ap (drop 56) here ∙ drop_at (slot_bytes x) (flat_map slot_bytes xs ++ rest) 56 (length-slot x) in
    let e : at + 56 + 56 * k ≡ at + 56 * suc k = omega arith in
    subst (λ m. IsExactAt m bytes) e (exact-places xs (at + 56) bytes rest fits.1 next k (omega arith))
