use Rattle.std.proofs.Common.{◌≡◌, ◌+◌, ◌++◌, ◌∷◌, List, ℕ, ℤ, length, ap, sym, ◌∙◌, w64, to_z, of_z, FitsSigned, arith, rules, length-append, append_assoc}
use Rattle.std.proofs.lemmas.Int.{to_z-of_z}
use Rattle.btr_entry.specs.Grammar.{signed}
use Rattle.btr_entry.proofs.NumberLemmas.{length-signed}
use Rattle.btr_entry.proofs.spec_bytes.read_affine.Goals as goal

-- After a signed number there are eight bytes fewer.
left : (bytes rest : List ℕ) (z : ℤ) → bytes ≡ signed z ++ rest → length bytes ≡ 8 + length rest
left bytes rest z is = omega (arith, ap (length {A = ℕ}) is, length-append (signed z) rest, length-signed z)

-- Three signed numbers, one after another.
three : (bytes r0 r1 r2 : List ℕ) (a b d : ℤ) → bytes ≡ signed a ++ r0 → r0 ≡ signed b ++ r1 → r1 ≡ signed d ++ r2 → 1 ∷ bytes ≡ 1 ∷ ((signed a ++ (signed b ++ signed d)) ++ r2)
three bytes r0 r1 r2 a b d first second third =
    ap (λ (l : List ℕ). 1 ∷ l) (first ∙ ap (λ (l : List ℕ). signed a ++ l) (second ∙ ap (λ (l : List ℕ). signed b ++ l) third ∙ sym (append_assoc (signed b) (signed d) r2)) ∙ sym (append_assoc (signed a) (signed b ++ signed d) r2))

pub read_i64-b-requires : goal.read_i64-b-requires
read_i64-b-requires c =
    let first = left c.args.bytes.now c.read_i64-a.result.1.now c.read_i64-a.result.0 c.read_i64-a.ensures in
    omega (arith, first, c.if-bytes-lt24.false)

pub read_i64-d-requires : goal.read_i64-d-requires
read_i64-d-requires c =
    let first = left c.args.bytes.now c.read_i64-a.result.1.now c.read_i64-a.result.0 c.read_i64-a.ensures in
    let second = left c.read_i64-a.result.1.now c.read_i64-b.result.1.now c.read_i64-b.result.0 c.read_i64-b.ensures in
    omega (arith, first, second, c.if-bytes-lt24.false)

pub returns-clause-some : goal.returns-clause-some
returns-clause-some c =
    let a = c.read_i64-a.result.0 in
    let b = c.read_i64-b.result.0 in
    let d = c.read_i64-d.result.0 in
    let a_fits : FitsSigned w64 a = search rules in
    let b_fits : FitsSigned w64 b = search rules in
    let d_fits : FitsSigned w64 d = search rules in
    let same_a : to_z w64 (of_z w64 a) ≡ a = to_z-of_z w64 a a_fits in
    let same_b : to_z w64 (of_z w64 b) ≡ b = to_z-of_z w64 b b_fits in
    let same_d : to_z w64 (of_z w64 d) ≡ d = to_z-of_z w64 d d_fits in
    rw (same_a, same_b, same_d) (three c.args.bytes.now c.read_i64-a.result.1.now c.read_i64-b.result.1.now c.read_i64-d.result.1.now a b d c.read_i64-a.ensures c.read_i64-b.ensures c.read_i64-d.ensures)
