use Rattle.std.proofs.Common.{ℕ, ◌^◌, length, sym, ap, ◌∙◌, arith, length-append}
use Rattle.std.specs.Int.{w64}
use Rattle.btr_entry.specs.Grammar.{number}
use Rattle.btr_entry.proofs.NumberLemmas.{wide64, number_once}
use Rattle.btr_entry.proofs.reads_bytes.read_version.Goals as goal

pub returns-in_err-version-clause-none : goal.returns-in_err-version-clause-none
returns-in_err-version-clause-none c =
    rw c.from_residual.ensures (λ n rest fits same. omega (arith, c.in_err-version.ensures.none, ap (length {A = ℕ}) same, length-append (number w64 n) rest, wide64.len n))

pub returns-then-version-clause-none : goal.returns-then-version-clause-none
returns-then-version-clause-none c n rest fits same =
    let once = number_once w64 (2 ^ 64) wide64 n c.in_ok-version.version rest c.in_ok-version.rest.now (omega arith) c.in_ok-version.ensures.fits (sym same ∙ c.in_ok-version.ensures.some) in
    omega (arith, once.0, fits, c.if-version.true)
