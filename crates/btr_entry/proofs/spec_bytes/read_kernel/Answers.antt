use Rattle.std.proofs.Common.{◌≡◌, ◌∷◌, ℕ, Option, Some, None, ap, sym, ◌∙◌}
use Rattle.std.specs.Prelude.{IfNone}
use Rattle.btr_entry.proofs.SpecLemmas.{short_affine, short_cell}
use Rattle.btr_entry.proofs.spec_bytes.read_kernel.Goals as goal

-- What follows from a fact on no result is a fact on no result.
if_none : {T P Q : Type 0} (o : Option T) → (P → Q) → IfNone o P → IfNone o Q
if_none None f h = f h
if_none (Some x) f h = tt

pub returns-in-1-clause-none : goal.returns-in-1-clause-none
returns-in-1-clause-none c =
    let after = c.in_ok-number.rest.now in
    let is : 1 ∷ after ≡ c.args.bytes.now = ap (λ (n : ℕ). n ∷ after) (sym c.in-1.is) ∙ sym c.in_ok-number.ensures.cases.0 in
    if_none c.read_affine.result (λ short k rest same. short_affine after short k rest (is ∙ same)) c.read_affine.ensures.none

pub returns-in-11-clause-none : goal.returns-in-11-clause-none
returns-in-11-clause-none c =
    let after = c.in_ok-number.rest.now in
    let is : 11 ∷ after ≡ c.args.bytes.now = ap (λ (n : ℕ). n ∷ after) (sym c.in-11.is) ∙ sym c.in_ok-number.ensures.cases.0 in
    if_none c.read_cell.result (λ short k rest same. short_cell after short k rest (is ∙ same)) c.read_cell.ensures.none
