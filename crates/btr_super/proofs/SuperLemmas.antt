-- Lemmas on superblocks: the number of their bytes, that these spell no other, and where the log is read from.
use Rattle.std.specs.Prelude.{◌≡◌, ℕ, nat_eq, nat_le, nat_lt, true, ◌&&◌, List, ◌++◌, length, take, drop, codes}
use Rattle.std.proofs.Common.{refl, sym, ◌∙◌, ap, arith, inl, inr, append_assoc, length-append}
use Rattle.std.proofs.lemmas.Bool.{and_from, and_parts, or_left, or_right, or_cases, eqb-true, leb-true, ltb-true, eq-eqb, le-leb, lt-ltb}
use Rattle.std.proofs.lemmas.List.{take_at, drop_at}
use Rattle.std.proofs.lemmas.Nat.{from_be_bytes-to_be_bytes_4, from_be_bytes-to_be_bytes_8}
use Rattle.std.specs.Int.{w32, w64, to_be_bytes, from_be_bytes}
use Rattle.btr_disk.specs.Gate.{zeros}
use Rattle.btr_disk.proofs.GateLemmas.{length-zeros}
use Rattle.btr_super.specs.declared.superblock.Super.{Super}
use Rattle.btr_super.specs.Super.{super_bytes, seal_word, IsLogStart, is_log_start, IsSuper, FitsFields}

-- a field after a prefix
field_at : (prefix x rest : List ℕ) (at n : ℕ) → length prefix ≡ at → length x ≡ n → take n (drop at (prefix ++ (x ++ rest))) ≡ x
field_at prefix x rest at n at_prefix size = ap (take n) (drop_at prefix (x ++ rest) at at_prefix) ∙ take_at x rest n size

module _ (m f z q b t k e : List ℕ) (lm : length m ≡ 8) (lf : length f ≡ 4) (lz : length z ≡ 4) (lq : length q ≡ 8) (lb : length b ≡ 8) (lt : length t ≡ 8) (lk : length k ≡ 8) where
  l3 : length (m ++ f ++ z) ≡ 16
  l3 = omega (arith, length-append (m ++ f) z, length-append m f)

  l4 : length (m ++ f ++ z ++ q) ≡ 24
  l4 = omega (arith, l3, length-append (m ++ f ++ z) q)

  l5 : length (m ++ f ++ z ++ q ++ b) ≡ 32
  l5 = omega (arith, l4, length-append (m ++ f ++ z ++ q) b)

  l6 : length (m ++ f ++ z ++ q ++ b ++ t) ≡ 40
  l6 = omega (arith, l5, length-append (m ++ f ++ z ++ q ++ b) t)

  format_at : take 4 (drop 8 (m ++ f ++ z ++ q ++ b ++ t ++ k ++ e)) ≡ f
  format_at =
      let g : m ++ f ++ z ++ q ++ b ++ t ++ k ++ e ≡ m ++ (f ++ (z ++ q ++ b ++ t ++ k ++ e)) = simp append_assoc in
      ap (λ x. take 4 (drop 8 x)) g ∙ field_at m f _ 8 4 lm lf

  seq_at : take 8 (drop 16 (m ++ f ++ z ++ q ++ b ++ t ++ k ++ e)) ≡ q
  seq_at =
      let g : m ++ f ++ z ++ q ++ b ++ t ++ k ++ e ≡ m ++ f ++ z ++ (q ++ (b ++ t ++ k ++ e)) = simp append_assoc in
      ap (λ x. take 8 (drop 16 x)) g ∙ field_at (m ++ f ++ z) q _ 16 8 l3 lq

  blocks_at : take 8 (drop 24 (m ++ f ++ z ++ q ++ b ++ t ++ k ++ e)) ≡ b
  blocks_at =
      let g : m ++ f ++ z ++ q ++ b ++ t ++ k ++ e ≡ m ++ f ++ z ++ q ++ (b ++ (t ++ k ++ e)) = simp append_assoc in
      ap (λ x. take 8 (drop 24 x)) g ∙ field_at (m ++ f ++ z ++ q) b _ 24 8 l4 lb

  tail_at : take 8 (drop 32 (m ++ f ++ z ++ q ++ b ++ t ++ k ++ e)) ≡ t
  tail_at =
      let g : m ++ f ++ z ++ q ++ b ++ t ++ k ++ e ≡ m ++ f ++ z ++ q ++ b ++ (t ++ (k ++ e)) = simp append_assoc in
      ap (λ x. take 8 (drop 32 x)) g ∙ field_at (m ++ f ++ z ++ q ++ b) t _ 32 8 l5 lt

  checkpoint_at : take 8 (drop 40 (m ++ f ++ z ++ q ++ b ++ t ++ k ++ e)) ≡ k
  checkpoint_at =
      let g : m ++ f ++ z ++ q ++ b ++ t ++ k ++ e ≡ m ++ f ++ z ++ q ++ b ++ t ++ (k ++ e) = simp append_assoc in
      ap (λ x. take 8 (drop 40 x)) g ∙ field_at (m ++ f ++ z ++ q ++ b ++ t) k _ 40 8 l6 lk

  length_of : length e ≡ 4048 → length (m ++ f ++ z ++ q ++ b ++ t ++ k ++ e) ≡ 4096
  length_of le = omega (arith, l6, length-append (m ++ f ++ z ++ q ++ b ++ t) k, length-append (m ++ f ++ z ++ q ++ b ++ t ++ k) e)

-- what is read of the bytes of a superblock is that superblock
pub read-super_bytes : (s : Super) (side f q b t k : ℕ) (block : List ℕ) → FitsFields s → block ≡ super_bytes s → s.side ≡ side → f ≡ from_be_bytes w32 (take 4 (drop 8 block)) → q ≡ from_be_bytes w64 (take 8 (drop 16 block)) → b ≡ from_be_bytes w64 (take 8 (drop 24 block)) → t ≡ from_be_bytes w64 (take 8 (drop 32 block)) → k ≡ from_be_bytes w64 (take 8 (drop 40 block)) → record { seq = q; side = side; blocks = b; tail = t; checkpoint = k; format = f } ≡ s
unfolding super_bytes
read-super_bytes s side f q b t k block fits spelled on_side ef eq eb et ek =
    let M : List ℕ = codes "BTR-SUPR" in
    let F : List ℕ = to_be_bytes w32 s.format in
    let Q : List ℕ = to_be_bytes w64 s.seq in
    let B : List ℕ = to_be_bytes w64 s.blocks in
    let T : List ℕ = to_be_bytes w64 s.tail in
    let K : List ℕ = to_be_bytes w64 s.checkpoint in
    let W : List ℕ = to_be_bytes w64 (seal_word s) in
    let E : List ℕ = W ++ zeros 4040 in
    let spelled : block ≡ M ++ F ++ zeros 4 ++ Q ++ B ++ T ++ K ++ E = spelled ∙ append_assoc (M ++ F ++ zeros 4 ++ Q ++ B ++ T ++ K) W (zeros 4040) in
    let lz : length (zeros 4) ≡ 4 = length-zeros 4 in
    let pf : f ≡ s.format = ef ∙ ap (λ x. from_be_bytes w32 (take 4 (drop 8 x))) spelled ∙ ap (from_be_bytes w32) (format_at M F (zeros 4) Q B T K E refl refl lz refl refl refl refl) ∙ from_be_bytes-to_be_bytes_4 s.format fits.format in
    let pq : q ≡ s.seq = eq ∙ ap (λ x. from_be_bytes w64 (take 8 (drop 16 x))) spelled ∙ ap (from_be_bytes w64) (seq_at M F (zeros 4) Q B T K E refl refl lz refl refl refl refl) ∙ from_be_bytes-to_be_bytes_8 s.seq fits.seq in
    let pb : b ≡ s.blocks = eb ∙ ap (λ x. from_be_bytes w64 (take 8 (drop 24 x))) spelled ∙ ap (from_be_bytes w64) (blocks_at M F (zeros 4) Q B T K E refl refl lz refl refl refl refl) ∙ from_be_bytes-to_be_bytes_8 s.blocks fits.blocks in
    let pt : t ≡ s.tail = et ∙ ap (λ x. from_be_bytes w64 (take 8 (drop 32 x))) spelled ∙ ap (from_be_bytes w64) (tail_at M F (zeros 4) Q B T K E refl refl lz refl refl refl refl) ∙ from_be_bytes-to_be_bytes_8 s.tail fits.tail in
    let pk : k ≡ s.checkpoint = ek ∙ ap (λ x. from_be_bytes w64 (take 8 (drop 40 x))) spelled ∙ ap (from_be_bytes w64) (checkpoint_at M F (zeros 4) Q B T K E refl refl lz refl refl refl refl) ∙ from_be_bytes-to_be_bytes_8 s.checkpoint fits.checkpoint in
    let ps : side ≡ s.side = sym on_side in
    λ i. record { seq = pq i; side = ps i; blocks = pb i; tail = pt i; checkpoint = pk i; format = pf i }

-- fields that fit are spelled apart
pub super_bytes-injective : (a b : Super) → FitsFields a → FitsFields b → a.side ≡ b.side → super_bytes a ≡ super_bytes b → a ≡ b
super_bytes-injective a b fits_a fits_b sides same =
    let block : List ℕ = super_bytes b in
    sym (read-super_bytes a b.side _ _ _ _ _ block fits_a (sym same) sides refl refl refl refl refl) ∙ read-super_bytes b b.side _ _ _ _ _ block fits_b refl refl refl refl refl refl refl

pub length-super_bytes : (s : Super) → length (super_bytes s) ≡ 4096
unfolding super_bytes
length-super_bytes s =
    let W : List ℕ = to_be_bytes w64 (seal_word s) in
    let rest : length (W ++ zeros 4040) ≡ 4048 = omega (arith, length-append W (zeros 4040), length-zeros 4040) in
    ap length (append_assoc (codes "BTR-SUPR" ++ to_be_bytes w32 s.format ++ zeros 4 ++ to_be_bytes w64 s.seq ++ to_be_bytes w64 s.blocks ++ to_be_bytes w64 s.tail ++ to_be_bytes w64 s.checkpoint) W (zeros 4040))
    ∙ length_of (codes "BTR-SUPR") (to_be_bytes w32 s.format) (zeros 4) (to_be_bytes w64 s.seq) (to_be_bytes w64 s.blocks) (to_be_bytes w64 s.tail) (to_be_bytes w64 s.checkpoint) (W ++ zeros 4040) refl refl (length-zeros 4) refl refl refl refl rest

-- the table keeps each field small enough
pub FitsFields-from_table : (size : ℕ) (s : Super) → IsSuper size s → FitsFields s
FitsFields-from_table size s keeps = record { format = omega (arith, keeps.known_format.1); seq = omega (arith, keeps.known_format.1); blocks = omega arith; tail = omega arith; checkpoint = omega arith }

-- ---- where the log is read from

module _ (checkpoint tail : ℕ) where
  pub is_log_start-is : IsLogStart checkpoint tail → is_log_start checkpoint tail ≡ true
  is_log_start-is starts = elim starts [
    | inl first ↦ or_left (nat_eq checkpoint 0 && nat_eq tail 4) (nat_le 4 checkpoint && nat_lt checkpoint tail)
        (and_from (nat_eq checkpoint 0) (nat_eq tail 4) (eq-eqb checkpoint 0 first.0) (eq-eqb tail 4 first.1))
    | inr later ↦ or_right (nat_eq checkpoint 0 && nat_eq tail 4) (nat_le 4 checkpoint && nat_lt checkpoint tail)
        (and_from (nat_le 4 checkpoint) (nat_lt checkpoint tail) (le-leb 4 checkpoint later.0) (lt-ltb checkpoint tail later.1))
  ]

  pub IsLogStart-from : is_log_start checkpoint tail ≡ true → IsLogStart checkpoint tail
  IsLogStart-from is = elim (or_cases (nat_eq checkpoint 0 && nat_eq tail 4) (nat_le 4 checkpoint && nat_lt checkpoint tail) is) [
    | inl first ↦ let parts = and_parts (nat_eq checkpoint 0) (nat_eq tail 4) first in inl (eqb-true checkpoint 0 parts.0, eqb-true tail 4 parts.1)
    | inr later ↦ let parts = and_parts (nat_le 4 checkpoint) (nat_lt checkpoint tail) later in inr (leb-true 4 checkpoint parts.0, ltb-true checkpoint tail parts.1)
  ]
