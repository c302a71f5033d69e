-- The bytes of a superblock are written field by field into a block of zeros.
use Rattle.std.specs.Prelude.{◌≡◌, ℕ, ◌+◌, List, [], ◌++◌, length, take, drop, codes}
use Rattle.std.proofs.Common.{refl, sym, ◌∙◌, ap, arith, append_assoc, length-append}
use Rattle.std.proofs.lemmas.List.{replicate-append-replicate, take_at, drop_at, take-append-drop}
use Rattle.std.specs.Int.{w32, w64, to_be_bytes}
use Rattle.btr_disk.specs.Gate.{zeros}
use Rattle.btr_disk.proofs.GateLemmas.{length-zeros}
use Rattle.btr_super.specs.declared.superblock.Super.{Super}
use Rattle.btr_super.specs.Super.{super_bytes, seal_word}

zeros-add : (m n : ℕ) → zeros (m + n) ≡ zeros m ++ zeros n
unfolding zeros
zeros-add m n = sym (replicate-append-replicate m n 0)

-- zeros after a prefix, of which some are now another prefix
zeros_after : (prefix : List ℕ) (m n : ℕ) → prefix ++ zeros (m + n) ≡ prefix ++ zeros m ++ zeros n
zeros_after prefix m n = ap (λ z. prefix ++ z) (zeros-add m n) ∙ sym (append_assoc prefix (zeros m) (zeros n))

-- if zeros follow a prefix, these bytes take the place of the first of them
abbrev pub Puts : ℕ → List ℕ → List ℕ → List ℕ → Type 0
Puts at bytes old new =
    (prefix : List ℕ) (rest : ℕ) → length prefix ≡ at → old ≡ prefix ++ zeros (length bytes + rest) → new ≡ prefix ++ bytes ++ zeros rest

-- a piece that is put
pub put-grown : (at : ℕ) (old new bytes : List ℕ) → take (at + length bytes) new ≡ take at old ++ bytes → drop (at + length bytes) new ≡ drop (at + length bytes) old → Puts at bytes old new
put-grown at old new bytes begins same prefix rest at_prefix shape =
    let n : ℕ = length bytes in
    let left : take at old ≡ prefix = ap (take at) shape ∙ take_at prefix (zeros (n + rest)) at at_prefix in
    let there : length (prefix ++ zeros n) ≡ at + n = omega (arith, length-append prefix (zeros n), length-zeros n) in
    let right : drop (at + n) old ≡ zeros rest = ap (drop (at + n)) (shape ∙ zeros_after prefix n rest) ∙ drop_at (prefix ++ zeros n) (zeros rest) (at + n) there in
    sym (take-append-drop (at + n) new) ∙ ap (λ x. x ++ drop (at + n) new) (begins ∙ ap (λ x. x ++ bytes) left) ∙ ap (λ x. prefix ++ bytes ++ x) (same ∙ right)

-- all fields in a block of zeros
fields_put : (m f q b t k w : List ℕ) (b0 b1 b2 b3 b4 b5 b6 b7 : List ℕ) → length m ≡ 8 → length f ≡ 4 → length q ≡ 8 → length b ≡ 8 → length t ≡ 8 → length k ≡ 8 → length w ≡ 8 → b0 ≡ zeros 4096 → Puts 0 m b0 b1 → Puts 8 f b1 b2 → Puts 16 q b2 b3 → Puts 24 b b3 b4 → Puts 32 t b4 b5 → Puts 40 k b5 b6 → Puts 48 w b6 b7 → b7 ≡ m ++ f ++ zeros 4 ++ q ++ b ++ t ++ k ++ w ++ zeros 4040
fields_put m f q b t k w b0 b1 b2 b3 b4 b5 b6 b7 lm lf lq lb lt lk lw e0 p1 p2 p3 p4 p5 p6 p7 =
    let word : List ℕ = m ++ f ++ zeros 4 in
    let l2 : length (m ++ f) ≡ 12 = omega (arith, length-append m f) in
    let l3 : length word ≡ 16 = omega (arith, l2, length-append (m ++ f) (zeros 4), length-zeros 4) in
    let l4 : length (word ++ q) ≡ 24 = omega (arith, l3, length-append word q) in
    let l5 : length (word ++ q ++ b) ≡ 32 = omega (arith, l4, length-append (word ++ q) b) in
    let l6 : length (word ++ q ++ b ++ t) ≡ 40 = omega (arith, l5, length-append (word ++ q ++ b) t) in
    let l7 : length (word ++ q ++ b ++ t ++ k) ≡ 48 = omega (arith, l6, length-append (word ++ q ++ b ++ t) k) in
    let n1 : 4096 ≡ length m + 4088 = omega arith in
    let n2 : 4088 ≡ length f + 4084 = omega arith in
    let n3 : 4084 ≡ 4 + (length q + 4072) = omega arith in
    let n4 : 4072 ≡ length b + 4064 = omega arith in
    let n5 : 4064 ≡ length t + 4056 = omega arith in
    let n6 : 4056 ≡ length k + 4048 = omega arith in
    let n7 : 4048 ≡ length w + 4040 = omega arith in
    let e1 : b1 ≡ m ++ zeros 4088 = p1 [] 4088 refl (e0 ∙ ap zeros n1) in
    let e2 : b2 ≡ m ++ f ++ zeros 4084 = p2 m 4084 lm (e1 ∙ ap (λ n. m ++ zeros n) n2) in
    let e3 : b3 ≡ word ++ q ++ zeros 4072 = p3 word 4072 l3 (e2 ∙ ap (λ n. m ++ f ++ zeros n) n3 ∙ zeros_after (m ++ f) 4 (length q + 4072)) in
    let e4 : b4 ≡ word ++ q ++ b ++ zeros 4064 = p4 (word ++ q) 4064 l4 (e3 ∙ ap (λ n. word ++ q ++ zeros n) n4) in
    let e5 : b5 ≡ word ++ q ++ b ++ t ++ zeros 4056 = p5 (word ++ q ++ b) 4056 l5 (e4 ∙ ap (λ n. word ++ q ++ b ++ zeros n) n5) in
    let e6 : b6 ≡ word ++ q ++ b ++ t ++ k ++ zeros 4048 = p6 (word ++ q ++ b ++ t) 4048 l6 (e5 ∙ ap (λ n. word ++ q ++ b ++ t ++ zeros n) n6) in
    p7 (word ++ q ++ b ++ t ++ k) 4040 l7 (e6 ∙ ap (λ n. word ++ q ++ b ++ t ++ k ++ zeros n) n7)

pub super_bytes_put : (s : Super) (b0 b1 b2 b3 b4 b5 b6 b7 : List ℕ) → b0 ≡ zeros 4096 → Puts 0 (codes "BTR-SUPR") b0 b1 → Puts 8 (to_be_bytes w32 s.format) b1 b2 → Puts 16 (to_be_bytes w64 s.seq) b2 b3 → Puts 24 (to_be_bytes w64 s.blocks) b3 b4 → Puts 32 (to_be_bytes w64 s.tail) b4 b5 → Puts 40 (to_be_bytes w64 s.checkpoint) b5 b6 → Puts 48 (to_be_bytes w64 (seal_word s)) b6 b7 → b7 ≡ super_bytes s
unfolding super_bytes
super_bytes_put s b0 b1 b2 b3 b4 b5 b6 b7 e0 p1 p2 p3 p4 p5 p6 p7 =
    fields_put (codes "BTR-SUPR") (to_be_bytes w32 s.format) (to_be_bytes w64 s.seq) (to_be_bytes w64 s.blocks) (to_be_bytes w64 s.tail) (to_be_bytes w64 s.checkpoint) (to_be_bytes w64 (seal_word s)) b0 b1 b2 b3 b4 b5 b6 b7 refl refl refl refl refl refl refl e0 p1 p2 p3 p4 p5 p6 p7
