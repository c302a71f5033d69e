use Rattle.std.proofs.Common.{◌≡◌, ℕ, ◌==◌, false, length, ap, arith}
use Rattle.std.proofs.lemmas.Bool.Decides.{nat_tests}
use Rattle.btr_entry.proofs.NumberLemmas.{wide128}
use Rattle.btr_entry.proofs.SpellingLemmas.{id_from_entry, after_id}
use Rattle.btr_entry.proofs.decoding.read_create.Goals as goal

pub returns-in_err-id-clause-none : goal.returns-in_err-id-clause-none
returns-in_err-id-clause-none c =
    rw c.from_residual.ensures (λ e h. let id = id_from_entry c.args.bytes.now e h in omega (arith, c.in_err-id.ensures.none, ap (length {A = ℕ}) id.2, wide128.len id.0))

not_none : (n : ℕ) → false ≡ (n == 0) → n ≡ 0 → ⊥
not_none n h k = grind (arith, nat_tests)

pub returns-then-not-is_empty-clause-none : goal.returns-then-not-is_empty-clause-none
returns-then-not-is_empty-clause-none c e h =
    not_none _ c.if-not-is_empty.ensures (ap (length {A = ℕ}) (after_id c.args.bytes.now e h c.in_ok-id.id c.in_ok-id.rest.now c.in_ok-id.ensures.fits c.in_ok-id.ensures.some))
