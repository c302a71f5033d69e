use Rattle.std.proofs.Common.{◌≡◌, ℕ, ◌==◌, false, [], length, sym, ap, ◌∙◌, arith, length-append}
use Rattle.std.proofs.lemmas.List.{append-nil}
use Rattle.std.proofs.lemmas.Bool.Decides.{nat_tests}
use Rattle.std.specs.Int.{w32, w64}
use Rattle.btr_entry.specs.Grammar.{number}
use Rattle.btr_entry.proofs.NumberLemmas.{wide32}
use Rattle.btr_entry.proofs.SpellingLemmas.{retirement_from_entry, after_retired_stream, after_first}
use Rattle.btr_entry.proofs.decoding.read_retirement.Goals as goal

pub returns-in_err-stream-clause-none : goal.returns-in_err-stream-clause-none
returns-in_err-stream-clause-none c =
    rw c.from_residual.ensures (λ e h.
    let k = retirement_from_entry c.args.bytes.now e h in
    omega (arith, c.in_err-stream.ensures.none, ap (length {A = ℕ}) k.parts, length-append (number w32 k.stream) (number w64 k.first), wide32.len k.stream))

pub returns-in_err-first-clause-none : goal.returns-in_err-first-clause-none
returns-in_err-first-clause-none c =
    rw c.from_residual-in_err-first.ensures (λ e h.
    let k = retirement_from_entry c.args.bytes.now e h in
    let after = after_retired_stream c.args.bytes.now k c.in_ok-stream.stream c.in_ok-stream.rest.now c.in_ok-stream.ensures.fits c.in_ok-stream.ensures.some in
    c.in_err-first.ensures.none k.first [] k.is_retirement.bounded.few (after ∙ sym (append-nil (number w64 k.first))))

pub returns-then-first-eq0-clause-none : goal.returns-then-first-eq0-clause-none
returns-then-first-eq0-clause-none c e h =
    let k = retirement_from_entry c.args.bytes.now e h in
    let once = after_first c.args.bytes.now k c.in_ok-stream.stream c.in_ok-stream.rest.now c.in_ok-first.first c.in_ok-first.rest.now c.in_ok-stream.ensures.fits c.in_ok-stream.ensures.some c.in_ok-first.ensures.fits c.in_ok-first.ensures.some in
    omega (arith, once.0, k.is_retirement.bounded.some, c.if-first-eq0.true)

not_none : (n : ℕ) → false ≡ (n == 0) → n ≡ 0 → ⊥
not_none n h k = grind (arith, nat_tests)

pub returns-then-not-is_empty-clause-none : goal.returns-then-not-is_empty-clause-none
returns-then-not-is_empty-clause-none c e h =
    let k = retirement_from_entry c.args.bytes.now e h in
    let once = after_first c.args.bytes.now k c.in_ok-stream.stream c.in_ok-stream.rest.now c.in_ok-first.first c.in_ok-first.rest.now c.in_ok-stream.ensures.fits c.in_ok-stream.ensures.some c.in_ok-first.ensures.fits c.in_ok-first.ensures.some in
    not_none _ c.if-not-is_empty.ensures (ap (length {A = ℕ}) once.1)
