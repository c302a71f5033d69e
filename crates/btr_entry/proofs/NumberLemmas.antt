-- Lemmas on numbers as bytes: what is read is what was written.
use Rattle.std.proofs.Common.{◌≡◌, ℕ, ◌+◌, ◌*◌, ◌/◌, ◌%◌, ◌^◌, ◌<◌, ◌≤◌, List, [], ◌∷◌, ◌++◌, length, get_or, take, drop, lit<, ℤ, refl, sym, ap, ◌∙◌, arith, inl, inr, length-drop}
use Rattle.std.specs.Int.{Width, w32, w64, w128, byte_len, from_be_bytes, to_be_bytes, cast_unsigned, cast_signed}
use Rattle.std.specs.Int.RustNames.{FitsSigned}
use Rattle.std.proofs.Math.Nat.{div-div-eq-div-mul}
use Rattle.std.proofs.lemmas.Bool.{cases_lt}
use Rattle.std.proofs.lemmas.List.{take-append-drop, length-take, get_or-take, get_or-drop, get_or_past}
use Rattle.std.proofs.lemmas.Nat.{be_bytes_4, be_bytes_8, from_be_bytes-to_be_bytes_4, from_be_bytes-to_be_bytes_8}
use Rattle.std.proofs.lemmas.Int.{ints, to_z-of_z}
use Rattle.btr_entry.specs.Grammar.{number, signed}

abbrev pub IsBytes : List ℕ → Type 0
IsBytes bytes = (i : ℕ) → get_or bytes i 0 < 256

-- ---- two lists in one

-- Two lists that are equal, with prefixes of equal length, are equal in both parts.
pub same_parts : {A : Type 0} (a b x y : List A) → length a ≡ length b → a ++ x ≡ b ++ y → (a ≡ b) × (x ≡ y)
same_parts [] [] x y len same = (refl, same)
same_parts [] (c ∷ b) x y len same = absurd (omega arith)
same_parts (c ∷ a) [] x y len same = absurd (omega arith)
same_parts (c ∷ a) (d ∷ b) x y len same =
    let tails : a ++ x ≡ b ++ y = cc in
    let rest = same_parts a b x y (omega arith) tails in
    let heads : c ≡ d = cc in
    let prefixes : a ≡ b = rest.0 in
    (cc, rest.1)

-- ---- unsigned numbers

-- Numbers below the limit and lists of as many bytes as the width has correspond one to one.
pub record IsWide (w : Width) (limit : ℕ) : Type 0 where
  pub len : (n : ℕ) → length (number w n) ≡ byte_len w
  pub back : (bytes : List ℕ) → length bytes ≡ byte_len w → IsBytes bytes → number w (from_be_bytes w bytes) ≡ bytes
  pub again : (n : ℕ) → n < limit → from_be_bytes w (number w n) ≡ n

pub wide32 : IsWide w32 (2 ^ 32)
unfolding number
wide32 = record {
  len = λ n. refl;
  back = λ bytes len fits. be_bytes_4 bytes _ len fits refl;
  again = λ n lt. from_be_bytes-to_be_bytes_4 n lt;
}

pub wide64 : IsWide w64 (2 ^ 64)
unfolding number
wide64 = record {
  len = λ n. refl;
  back = λ bytes len fits. be_bytes_8 bytes _ len fits refl;
  again = λ n lt. from_be_bytes-to_be_bytes_8 n lt;
}

-- Sixteen bytes are those of the high half, then those of the low half.
high_bits : (high low n : ℕ) → low < 2 ^ 64 → n ≡ high * 2 ^ 64 + low → n / 2 ^ 64 ≡ high
high_bits high low n lt is = omega arith

-- A byte of the high half.
high_byte : (high n k p : ℕ) → n / 2 ^ 64 ≡ high → p ≡ 2 ^ 64 * k → n / p % 256 ≡ high / k % 256
high_byte high n k p is prod = ap (λ (m : ℕ). m % 256) (ap (λ (q : ℕ). n / q) prod ∙ sym (div-div-eq-div-mul n (2 ^ 64) k) ∙ ap (λ (m : ℕ). m / k) is)

halves : (high low n : ℕ) → low < 2 ^ 64 → n ≡ high * 2 ^ 64 + low → to_be_bytes w128 n ≡ to_be_bytes w64 high ++ to_be_bytes w64 low
halves high low n lt is =
    let top = high_bits high low n lt is in
    let h7 = high_byte high n 72057594037927936 1329227995784915872903807060280344576 top refl in
    let h6 = high_byte high n 281474976710656 5192296858534827628530496329220096 top refl in
    let h5 = high_byte high n 1099511627776 20282409603651670423947251286016 top refl in
    let h4 = high_byte high n 4294967296 79228162514264337593543950336 top refl in
    let h3 = high_byte high n 16777216 309485009821345068724781056 top refl in
    let h2 = high_byte high n 65536 1208925819614629174706176 top refl in
    let h1 = high_byte high n 256 4722366482869645213696 top refl in
    let h0 : n / 18446744073709551616 % 256 ≡ high % 256 = ap (λ (m : ℕ). m % 256) top in
    let l7 : n / 72057594037927936 % 256 ≡ low / 72057594037927936 % 256 = omega arith in
    let l6 : n / 281474976710656 % 256 ≡ low / 281474976710656 % 256 = omega arith in
    let l5 : n / 1099511627776 % 256 ≡ low / 1099511627776 % 256 = omega arith in
    let l4 : n / 4294967296 % 256 ≡ low / 4294967296 % 256 = omega arith in
    let l3 : n / 16777216 % 256 ≡ low / 16777216 % 256 = omega arith in
    let l2 : n / 65536 % 256 ≡ low / 65536 % 256 = omega arith in
    let l1 : n / 256 % 256 ≡ low / 256 % 256 = omega arith in
    let l0 : n % 256 ≡ low % 256 = omega arith in
    λ i. h7 i ∷ h6 i ∷ h5 i ∷ h4 i ∷ h3 i ∷ h2 i ∷ h1 i ∷ h0 i ∷ l7 i ∷ l6 i ∷ l5 i ∷ l4 i ∷ l3 i ∷ l2 i ∷ l1 i ∷ l0 i ∷ []

-- The number of sixteen bytes, from those of its halves.
whole : (bytes : List ℕ) → length bytes ≡ 16 → from_be_bytes w128 bytes ≡ from_be_bytes w64 (take 8 bytes) * 2 ^ 64 + from_be_bytes w64 (drop 8 bytes)
whole bytes len =
    omega (arith, get_or-take 8 bytes 0 0 (lit< tt), get_or-take 8 bytes 1 0 (lit< tt), get_or-take 8 bytes 2 0 (lit< tt), get_or-take 8 bytes 3 0 (lit< tt), get_or-take 8 bytes 4 0 (lit< tt), get_or-take 8 bytes 5 0 (lit< tt), get_or-take 8 bytes 6 0 (lit< tt), get_or-take 8 bytes 7 0 (lit< tt), get_or-drop 8 bytes 0 0, get_or-drop 8 bytes 1 0, get_or-drop 8 bytes 2 0, get_or-drop 8 bytes 3 0, get_or-drop 8 bytes 4 0, get_or-drop 8 bytes 5 0, get_or-drop 8 bytes 6 0, get_or-drop 8 bytes 7 0)

below64 : (bytes : List ℕ) → IsBytes bytes → from_be_bytes w64 bytes < 2 ^ 64
below64 bytes fits = omega (arith, fits 0, fits 1, fits 2, fits 3, fits 4, fits 5, fits 6, fits 7)

IsBytes-take : (n : ℕ) (bytes : List ℕ) → IsBytes bytes → IsBytes (take n bytes)
IsBytes-take n bytes h i =
    elim (cases_lt i n) [
      | inl lt ↦ rw (get_or-take n bytes i 0 lt) (h i)
      | inr le ↦ rw (get_or_past (take n bytes) i 0 (omega (arith, length-take n bytes))) (omega arith)
    ]

IsBytes-drop : (n : ℕ) (bytes : List ℕ) → IsBytes bytes → IsBytes (drop n bytes)
IsBytes-drop n bytes h i = rw get_or-drop (h (n + i))

back128 : (bytes : List ℕ) → length bytes ≡ 16 → IsBytes bytes → to_be_bytes w128 (from_be_bytes w128 bytes) ≡ bytes
back128 bytes len fits =
    let prefix = take 8 bytes in
    let rest = drop 8 bytes in
    let parts = halves (from_be_bytes w64 prefix) (from_be_bytes w64 rest) (from_be_bytes w128 bytes) (below64 rest (IsBytes-drop 8 bytes fits)) (whole bytes len) in
    let high : to_be_bytes w64 (from_be_bytes w64 prefix) ≡ prefix = be_bytes_8 prefix _ (omega (arith, length-take 8 bytes)) (IsBytes-take 8 bytes fits) refl in
    let low : to_be_bytes w64 (from_be_bytes w64 rest) ≡ rest = be_bytes_8 rest _ (omega (arith, length-drop 8 bytes)) (IsBytes-drop 8 bytes fits) refl in
    parts ∙ ap (λ (l : List ℕ). l ++ to_be_bytes w64 (from_be_bytes w64 rest)) high ∙ ap (λ (l : List ℕ). prefix ++ l) low ∙ take-append-drop 8 bytes

again128 : (n : ℕ) → n < 2 ^ 128 → from_be_bytes w128 (to_be_bytes w128 n) ≡ n
again128 n lt =
    let high = n / 2 ^ 64 in
    let low = n % 2 ^ 64 in
    let parts = halves high low n (omega arith) (omega arith) in
    let prefixes : from_be_bytes w64 (to_be_bytes w64 high) ≡ high = from_be_bytes-to_be_bytes_8 high (omega arith) in
    let rests : from_be_bytes w64 (to_be_bytes w64 low) ≡ low = from_be_bytes-to_be_bytes_8 low (omega arith) in
    let both = whole (to_be_bytes w64 high ++ to_be_bytes w64 low) refl in
    ap (from_be_bytes w128) parts ∙ both ∙ omega (arith, prefixes, rests)

pub wide128 : IsWide w128 (2 ^ 128)
unfolding number
wide128 = record { len = λ n. refl; back = back128; again = again128 }

-- A number is read from the start of the bytes.
pub number_read : (w : Width) (limit : ℕ) → IsWide w limit → (bytes prefix rest : List ℕ) (n : ℕ) → IsBytes bytes → byte_len w ≤ length bytes → prefix ≡ take (byte_len w) bytes → rest ≡ drop (byte_len w) bytes → n ≡ from_be_bytes w prefix → bytes ≡ number w n ++ rest
number_read w limit wide bytes prefix rest n fits long prefix_is rest_is n_is =
    let small = IsBytes-take (byte_len w) bytes fits in
    let back = wide.back (take (byte_len w) bytes) (omega (arith, length-take (byte_len w) bytes)) small in
    let value : n ≡ from_be_bytes w (take (byte_len w) bytes) = n_is ∙ ap (from_be_bytes w) prefix_is in
    sym (take-append-drop (byte_len w) bytes) ∙ ap (λ (l : List ℕ). l ++ drop (byte_len w) bytes) (sym (ap (number w) value ∙ back)) ∙ ap (λ (l : List ℕ). number w n ++ l) (sym rest_is)

-- The bytes determine the number.
pub number_once : (w : Width) (limit : ℕ) → IsWide w limit → (m n : ℕ) (x y : List ℕ) → m < limit → n < limit → number w m ++ x ≡ number w n ++ y → (m ≡ n) × (x ≡ y)
number_once w limit wide m n x y m_fits n_fits same =
    let parts = same_parts (number w m) (number w n) x y (wide.len m ∙ sym (wide.len n)) same in
    (sym (wide.again m m_fits) ∙ ap (from_be_bytes w) parts.0 ∙ wide.again n n_fits, parts.1)

-- ---- signed numbers

pub length-signed : (z : ℤ) → length (signed z) ≡ 8
unfolding signed
length-signed z = wide64.len (cast_unsigned w64 z)

unsigned_fits : (z : ℤ) → FitsSigned w64 z → cast_unsigned w64 z < 2 ^ 64
unsigned_fits z fits = omega (arith, ints)

-- The bytes determine the signed number.
pub signed_once : (a b : ℤ) (x y : List ℕ) → FitsSigned w64 a → FitsSigned w64 b → signed a ++ x ≡ signed b ++ y → (a ≡ b) × (x ≡ y)
unfolding signed
signed_once a b x y a_fits b_fits same =
    let parts = number_once w64 (2 ^ 64) wide64 (cast_unsigned w64 a) (cast_unsigned w64 b) x y (unsigned_fits a a_fits) (unsigned_fits b b_fits) same in
    (sym (to_z-of_z w64 a a_fits) ∙ ap (cast_signed w64) parts.0 ∙ to_z-of_z w64 b b_fits, parts.1)
