use Rattle.std.proofs.Common.{arith, ◌≡◌, ℕ, List, length, Result, Ok, Err, Some, sym, ap, ◌∙◌}
use Rattle.std.specs.Prelude.{MatchResult}
use Rattle.std.specs.Result.{result_ok}
use Rattle.std.specs.Array.{IsWholeChunk}
use Rattle.std.specs.Int.{w128, from_be_bytes}
use Rattle.btr_entry.specs.Grammar.{number}
use Rattle.btr_entry.proofs.NumberLemmas.{IsBytes, wide128}
use Rattle.btr_entry.proofs.fields.read_u128.Goals as goal

converted : {E : Type 0} (r : Result (List ℕ) E) (bytes array : List ℕ) (Q : E → Type 0) → MatchResult r (λ y. IsWholeChunk bytes y 16) Q → Some array ≡ result_ok r → (length bytes ≡ 16) × (array ≡ bytes)
converted (Ok y) bytes array Q h is = let same : array ≡ y = cc in (h.long, same ∙ h.same)
converted (Err e) bytes array Q h is = absurd cc

read : (bytes array : List ℕ) (n : ℕ) → IsBytes bytes → length bytes ≡ 16 → array ≡ bytes → n ≡ from_be_bytes w128 array → bytes ≡ number w128 n
read bytes array n fits len same is =
    sym (ap (number w128) (is ∙ ap (from_be_bytes w128) same) ∙ wide128.back bytes len fits)

pub returns-clause-some : goal.returns-clause-some
returns-clause-some c =
    let whole = converted c.try_from.result c.args.bytes.now c.in_ok-array.array _ c.try_from.ensures.1 c.in_ok-array.ensures.value in
    read c.args.bytes.now c.in_ok-array.array c.from_be_bytes.result (λ i. omega (arith, c.type_inv.bytes i)) whole.0 whole.1 c.from_be_bytes.ensures
