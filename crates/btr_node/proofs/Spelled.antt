-- The bytes at the places of a page are those of what is read there.
use Rattle.std.specs.Prelude.{◌≡◌, ℕ, zero, suc, ◌+◌, ◌*◌, ◌/◌, ◌%◌, ◌^◌, ◌<◌, ◌≤◌}
use Rattle.std.specs.Prelude.{List, [], ◌∷◌, ◌++◌, length, take, drop, codes}
use Rattle.std.proofs.Common.{refl, sym, ap, ◌∙◌, subst, arith}
use Rattle.std.proofs.Math.Nat.{div-div-eq-div-mul}
use Rattle.std.proofs.Math.Seq.{take-add}
use Rattle.std.specs.Int.{w32, w64, w128, from_be_bytes, cast_unsigned, cast_signed}
use Rattle.std.specs.List.{flat_map}
use Rattle.std.proofs.lemmas.Int.{of_z-to_z}
use Rattle.std.proofs.lemmas.List.{take-append-drop, length-take, length-drop, take_all, get_or-take, get_or-drop}
use Rattle.std.proofs.lemmas.List.Concat.{flat_map-cons}
use Rattle.std.proofs.lemmas.Nat.{be_bytes_4, be_bytes_8}
use Rattle.btr_node.specs.Page.{number, signed, zeros, header_bytes, point_bytes, slot_bytes}
use Rattle.btr_node.specs.Reading.{u32_in, u64_in, u128_in, header_in, point_in, agg_in, slot_in, items_in, IsExactAt, AreExact}
use Rattle.btr_node.proofs.FitLemmas.{IsBytes, IsBytes-take, IsBytes-drop, u64-fits, u128-fits, below64}
use Rattle.btr_node.proofs.Places.{drop-more}

-- ---- numbers

halves : (n : ℕ) → number w128 n ≡ number w64 (n / 2 ^ 64) ++ number w64 (n % 2 ^ 64)
unfolding number
halves n =
    let high : (p : ℕ) → n / (2 ^ 64 * p) % 256 ≡ n / 2 ^ 64 / p % 256 = λ p. ap (λ m. m % 256) (sym (div-div-eq-div-mul n (2 ^ 64) p)) in
    let h0 = high 1 in
    let h1 = high 256 in
    let h2 = high (256 ^ 2) in
    let h3 = high (256 ^ 3) in
    let h4 = high (256 ^ 4) in
    let h5 = high (256 ^ 5) in
    let h6 = high (256 ^ 6) in
    let h7 = high (256 ^ 7) in
    let l0 : n % 256 ≡ n % 2 ^ 64 % 256 = omega arith in
    let l1 : n / 256 % 256 ≡ n % 2 ^ 64 / 256 % 256 = omega arith in
    let l2 : n / 256 ^ 2 % 256 ≡ n % 2 ^ 64 / 256 ^ 2 % 256 = omega arith in
    let l3 : n / 256 ^ 3 % 256 ≡ n % 2 ^ 64 / 256 ^ 3 % 256 = omega arith in
    let l4 : n / 256 ^ 4 % 256 ≡ n % 2 ^ 64 / 256 ^ 4 % 256 = omega arith in
    let l5 : n / 256 ^ 5 % 256 ≡ n % 2 ^ 64 / 256 ^ 5 % 256 = omega arith in
    let l6 : n / 256 ^ 6 % 256 ≡ n % 2 ^ 64 / 256 ^ 6 % 256 = omega arith in
    let l7 : n / 256 ^ 7 % 256 ≡ n % 2 ^ 64 / 256 ^ 7 % 256 = omega arith in
    λ i. h7 i ∷ h6 i ∷ h5 i ∷ h4 i ∷ h3 i ∷ h2 i ∷ h1 i ∷ (n / 2 ^ 64 % 256) ∷ l7 i ∷ l6 i ∷ l5 i ∷ l4 i ∷ l3 i ∷ l2 i ∷ l1 i ∷ l0 i ∷ []

joined : (bytes : List ℕ) → from_be_bytes w128 bytes ≡ from_be_bytes w64 (take 8 bytes) * 2 ^ 64 + from_be_bytes w64 (drop 8 bytes)
joined bytes =
    omega (arith, get_or-take 8 bytes 0 0 (omega arith), get_or-take 8 bytes 1 0 (omega arith), get_or-take 8 bytes 2 0 (omega arith), get_or-take 8 bytes 3 0 (omega arith), get_or-take 8 bytes 4 0 (omega arith), get_or-take 8 bytes 5 0 (omega arith), get_or-take 8 bytes 6 0 (omega arith), get_or-take 8 bytes 7 0 (omega arith), get_or-drop 8 bytes 0 0, get_or-drop 8 bytes 1 0, get_or-drop 8 bytes 2 0, get_or-drop 8 bytes 3 0, get_or-drop 8 bytes 4 0, get_or-drop 8 bytes 5 0, get_or-drop 8 bytes 6 0, get_or-drop 8 bytes 7 0)

module _ (bytes : List ℕ) (h : IsBytes bytes) where
  length-place : (n at : ℕ) → at + n ≤ length bytes → length (take n (drop at bytes)) ≡ n
  length-place n at long =
      omega (arith, length-take n (drop at bytes), length-drop at bytes)

  place-is_bytes : (n at : ℕ) → IsBytes (take n (drop at bytes))
  place-is_bytes n at = IsBytes-take n (drop at bytes) (IsBytes-drop at bytes h)

  number32 : (at : ℕ) → at + 4 ≤ length bytes → number w32 (u32_in at bytes) ≡ take 4 (drop at bytes)
  unfolding number
  number32 at long = be_bytes_4 (take 4 (drop at bytes)) (u32_in at bytes) (length-place 4 at long) (place-is_bytes 4 at) refl

  number64 : (at : ℕ) → at + 8 ≤ length bytes → number w64 (u64_in at bytes) ≡ take 8 (drop at bytes)
  unfolding number
  number64 at long = be_bytes_8 (take 8 (drop at bytes)) (u64_in at bytes) (length-place 8 at long) (place-is_bytes 8 at) refl

  signed64 : (at : ℕ) → at + 8 ≤ length bytes → signed (cast_signed w64 (u64_in at bytes)) ≡ take 8 (drop at bytes)
  signed64 at long = ap (number w64) (of_z-to_z w64 (u64_in at bytes) (u64-fits bytes h at)) ∙ number64 at long

  sum128 : (at : ℕ) → at + 16 ≤ length bytes → number w128 (cast_unsigned w128 (cast_signed w128 (u128_in at bytes))) ≡ take 16 (drop at bytes)
  unfolding number
  sum128 at long =
      let here = take 16 (drop at bytes) in
      let n = u128_in at bytes in
      let is_here = place-is_bytes 16 at in
      let len = length-place 16 at long in
      let low_is = IsBytes-drop 8 here is_here in
      let low = below64 (drop 8 here) low_is in
      let is = joined here in
      let first : n / 2 ^ 64 ≡ from_be_bytes w64 (take 8 here) = omega arith in
      let second : n % 2 ^ 64 ≡ from_be_bytes w64 (drop 8 here) = omega arith in
      let left = be_bytes_8 (take 8 here) (n / 2 ^ 64) (omega (arith, length-take 8 here)) (IsBytes-take 8 here is_here) first in
      let right = be_bytes_8 (drop 8 here) (n % 2 ^ 64) (omega (arith, length-drop 8 here)) low_is second in
      ap (number w128) (of_z-to_z w128 n (u128-fits bytes h at))
      ∙ halves n
      ∙ (λ i. left i ++ right i)
      ∙ take-append-drop 8 here

-- ---- places

next-place : (n m at : ℕ) (bytes : List ℕ) → take (n + m) (drop at bytes) ≡ take n (drop at bytes) ++ take m (drop (at + n) bytes)
next-place n m at bytes =
    take-add n m (drop at bytes) ∙ ap (λ l. take n (drop at bytes) ++ take m l) (sym (drop-more at n bytes))

six-places : (at : ℕ) (bytes : List ℕ) → take 56 (drop at bytes) ≡ take 8 (drop at bytes) ++ take 16 (drop (at + 8) bytes) ++ take 8 (drop (at + 24) bytes) ++ take 8 (drop (at + 32) bytes) ++ take 8 (drop (at + 40) bytes) ++ take 8 (drop (at + 48) bytes)
six-places at bytes =
    next-place 48 8 at bytes
    ∙ ap (λ l. l ++ take 8 (drop (at + 48) bytes)) (next-place 40 8 at bytes
    ∙ ap (λ l. l ++ take 8 (drop (at + 40) bytes)) (next-place 32 8 at bytes
    ∙ ap (λ l. l ++ take 8 (drop (at + 32) bytes)) (next-place 24 8 at bytes
    ∙ ap (λ l. l ++ take 8 (drop (at + 24) bytes)) (next-place 8 16 at bytes))))

header-places : (bytes : List ℕ) → take 56 (drop 8 bytes) ≡ take 8 (drop 8 bytes) ++ take 4 (drop 16 bytes) ++ take 4 (drop 20 bytes) ++ take 8 (drop 24 bytes) ++ take 8 (drop 32 bytes) ++ take 24 (drop 40 bytes)
header-places bytes =
    next-place 32 24 8 bytes
    ∙ ap (λ l. l ++ take 24 (drop 40 bytes)) (next-place 24 8 8 bytes
    ∙ ap (λ l. l ++ take 8 (drop 32 bytes)) (next-place 16 8 8 bytes
    ∙ ap (λ l. l ++ take 8 (drop 24 bytes)) (next-place 12 4 8 bytes
    ∙ ap (λ l. l ++ take 4 (drop 20 bytes)) (next-place 8 4 8 bytes))))

-- ---- what is read at a place

module _ (bytes : List ℕ) (h : IsBytes bytes) where
  point-spelled : (at : ℕ) → at + 16 ≤ length bytes → point_bytes (point_in at bytes) ≡ take 16 (drop at bytes)
  unfolding point_bytes point_in
  point-spelled at long =
      let time = signed64 bytes h at (omega arith) in
      let value = signed64 bytes h (at + 8) (omega arith) in
      (λ i. time i ++ value i) ∙ sym (next-place 8 8 at bytes)

  slot-spelled : (at : ℕ) → at + 56 ≤ length bytes → IsExactAt at bytes → slot_bytes (slot_in at bytes) ≡ take 56 (drop at bytes)
  unfolding slot_bytes slot_in agg_in IsExactAt
  slot-spelled at long exact =
      let count = ap (number w64) exact.0 ∙ number64 bytes h at (omega arith) in
      let total = ap (λ t. number w128 (cast_unsigned w128 t)) exact.1 ∙ sum128 bytes h (at + 8) (omega arith) in
      let least = ap signed exact.2 ∙ signed64 bytes h (at + 24) (omega arith) in
      let greatest = ap signed exact.3 ∙ signed64 bytes h (at + 32) (omega arith) in
      let version = number64 bytes h (at + 40) (omega arith) in
      let child = number64 bytes h (at + 48) (omega arith) in
      (λ i. count i ++ total i ++ least i ++ greatest i ++ version i ++ child i) ∙ sym (six-places at bytes)

  header-spelled : 64 ≤ length bytes → take 24 (drop 40 bytes) ≡ zeros 24 → header_bytes (header_in bytes) ≡ take 56 (drop 8 bytes)
  unfolding header_bytes header_in
  header-spelled long gap =
      let start = signed64 bytes h 8 (omega arith) in
      let height = number32 bytes h 16 (omega arith) in
      let stream = number32 bytes h 20 (omega arith) in
      let version = number64 bytes h 24 (omega arith) in
      let count = number64 bytes h 32 (omega arith) in
      let rest = sym gap in
      (λ i. start i ++ height i ++ stream i ++ version i ++ count i ++ rest i) ∙ sym (header-places bytes)

-- ---- items of one width

items-spelled : {X : Type 0} (item : ℕ → List ℕ → X) (f : X → List ℕ) (w : ℕ) (bytes : List ℕ) (n at : ℕ) → ((k : ℕ) → k < n → f (item (at + w * k) bytes) ≡ take w (drop (at + w * k) bytes)) → flat_map f (items_in item w n at bytes) ≡ take (w * n) (drop at bytes)
unfolding items_in
items-spelled item f w bytes zero at each =
    let none : 0 ≡ w * 0 = omega arith in ap (λ k. take k (drop at bytes)) none
items-spelled item f w bytes (suc n) at each =
    let here : at + w * 0 ≡ at = omega arith in
    let first : f (item at bytes) ≡ take w (drop at bytes) = subst (λ k. f (item k bytes) ≡ take w (drop k bytes)) here (each 0 (omega arith)) in
    let next : (k : ℕ) → at + w * suc k ≡ at + w + w * k = λ k. omega arith in
    let others = items-spelled item f w bytes n (at + w) (λ k lt. subst (λ m. f (item m bytes) ≡ take w (drop m bytes)) (next k) (each (suc k) (omega arith))) in
    let whole : w + w * n ≡ w * suc n = omega arith in
    flat_map-cons f (item at bytes) (items_in item w n (at + w) bytes)
    ∙ (λ i. first i ++ others i)
    ∙ sym (next-place w (w * n) at bytes)
    ∙ ap (λ k. take k (drop at bytes)) whole

-- ---- a page

module _ (bytes : List ℕ) (h : IsBytes bytes) (long : length bytes ≡ 4096) where
  points-spelled : flat_map point_bytes (items_in point_in 16 252 64 bytes) ≡ take 4032 (drop 64 bytes)
  points-spelled =
      items-spelled point_in point_bytes 16 bytes 252 64 (λ k lt. point-spelled bytes h (64 + 16 * k) (omega arith))

  slots-spelled : AreExact 64 bytes → flat_map slot_bytes (items_in slot_in 56 64 64 bytes) ≡ take 3584 (drop 64 bytes)
  slots-spelled exact =
      items-spelled slot_in slot_bytes 56 bytes 64 64 (λ k lt. slot-spelled bytes h (64 + 56 * k) (omega arith) (exact k lt))

  pub leaf-spelled : take 8 bytes ≡ codes "BTR-LEAF" → take 24 (drop 40 bytes) ≡ zeros 24 → bytes ≡ codes "BTR-LEAF" ++ header_bytes (header_in bytes) ++ flat_map point_bytes (items_in point_in 16 252 64 bytes)
  leaf-spelled mark gap =
      let fields = header-spelled bytes h (omega arith) gap in
      let body = points-spelled in
      let start = sym mark in
      sym (take_all 4096 bytes (omega arith))
      ∙ take-add 64 4032 bytes
      ∙ ap (λ l. l ++ take 4032 (drop 64 bytes)) (take-add 8 56 bytes)
      ∙ sym (λ i. start i ++ fields i ++ body i)

  pub inner-spelled : take 8 bytes ≡ codes "BTR-NODE" → take 24 (drop 40 bytes) ≡ zeros 24 → drop 3648 bytes ≡ zeros 448 → AreExact 64 bytes → bytes ≡ codes "BTR-NODE" ++ header_bytes (header_in bytes) ++ flat_map slot_bytes (items_in slot_in 56 64 64 bytes) ++ zeros 448
  inner-spelled mark gap tail exact =
      let fields = header-spelled bytes h (omega arith) gap in
      let body = slots-spelled exact in
      let start = sym mark in
      let end = sym tail in
      sym (take-append-drop 3648 bytes)
      ∙ ap (λ l. l ++ drop 3648 bytes) (take-add 64 3584 bytes ∙ ap (λ l. l ++ take 3584 (drop 64 bytes)) (take-add 8 56 bytes))
      ∙ sym (λ i. start i ++ fields i ++ body i ++ end i)
