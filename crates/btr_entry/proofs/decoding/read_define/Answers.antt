use Rattle.std.proofs.Common.{◌≡◌, ℕ, ◌==◌, false, [], length, sym, ap, ◌∙◌, arith, length-append}
use Rattle.std.proofs.lemmas.List.{append-nil}
use Rattle.std.proofs.lemmas.Bool.Decides.{nat_tests}
use Rattle.std.specs.Int.{w128}
use Rattle.btr_entry.specs.Grammar.{number, spec_bytes}
use Rattle.btr_entry.proofs.NumberLemmas.{wide128}
use Rattle.btr_entry.proofs.SpecLemmas.{spec_once}
use Rattle.btr_entry.proofs.SpellingLemmas.{output_from_entry, after_output_id}
use Rattle.btr_entry.proofs.decoding.read_define.Goals as goal

pub returns-in_err-id-clause-none : goal.returns-in_err-id-clause-none
returns-in_err-id-clause-none c =
    rw c.from_residual.ensures (λ e h.
    let k = output_from_entry c.args.bytes.now e h in
    omega (arith, c.in_err-id.ensures.none, ap (length {A = ℕ}) k.parts, length-append (number w128 k.id) (spec_bytes k.spec), wide128.len k.id))

pub returns-in_err-spec-clause-none : goal.returns-in_err-spec-clause-none
returns-in_err-spec-clause-none c =
    rw c.from_residual-in_err-spec.ensures (λ e h.
    let k = output_from_entry c.args.bytes.now e h in
    let after = after_output_id c.args.bytes.now k c.in_ok-id.id c.in_ok-id.rest.now c.in_ok-id.ensures.fits c.in_ok-id.ensures.some in
    c.in_err-spec.ensures.none k.spec [] k.is_output.is_spec (after ∙ sym (append-nil (spec_bytes k.spec))))

not_none : (n : ℕ) → false ≡ (n == 0) → n ≡ 0 → ⊥
not_none n h k = grind (arith, nat_tests)

pub returns-then-not-is_empty-clause-none : goal.returns-then-not-is_empty-clause-none
returns-then-not-is_empty-clause-none c e h =
    let k = output_from_entry c.args.bytes.now e h in
    let after = after_output_id c.args.bytes.now k c.in_ok-id.id c.in_ok-id.rest.now c.in_ok-id.ensures.fits c.in_ok-id.ensures.some in
    let once = spec_once c.in_ok-spec.spec k.spec c.in_ok-spec.rest.now [] c.in_ok-spec.ensures.fits k.is_output.is_spec (sym c.in_ok-spec.ensures.some ∙ after ∙ sym (append-nil (spec_bytes k.spec))) in
    not_none _ c.if-not-is_empty.ensures (ap (length {A = ℕ}) once.1)
