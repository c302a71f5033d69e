use Rattle.std.proofs.Common.{ℕ, ◌++◌, length, ap, ◌∙◌, arith, length-append}
use Rattle.std.specs.Int.{w64}
use Rattle.btr_entry.specs.Grammar.{number}
use Rattle.btr_roll.specs.Roll.{some_reads_bytes}
use Rattle.btr_entry.proofs.NumberLemmas.{wide64}
use Rattle.btr_roll.proofs.RollLemmas.{version_parts, entry_read, root_read}
use Rattle.btr_roll.proofs.reading.read_version.Goals as goal

pub returns-in_err-entry-clause-none : goal.returns-in_err-entry-clause-none
returns-in_err-entry-clause-none c =
    rw c.from_residual.ensures (λ v rest h same.
    omega (arith, c.in_err-entry.ensures.none, ap (length {A = ℕ}) (same ∙ version_parts v rest), length-append (number w64 v.entry) (number w64 v.root ++ (some_reads_bytes v.reads ++ rest)), wide64.len v.entry))

pub returns-in_err-root-clause-none : goal.returns-in_err-root-clause-none
returns-in_err-root-clause-none c =
    rw c.from_residual-in_err-root.ensures (λ v rest h same.
    let after = entry_read c.args.output c.args.bytes.now c.in_ok-entry.rest.now c.in_ok-entry.entry v rest c.in_ok-entry.ensures.fits c.in_ok-entry.ensures.some h same in
    omega (arith, c.in_err-root.ensures.none, ap (length {A = ℕ}) after.1, length-append (number w64 v.root) (some_reads_bytes v.reads ++ rest), wide64.len v.root))

pub returns-in_err-reads-clause-none : goal.returns-in_err-reads-clause-none
returns-in_err-reads-clause-none c =
    rw c.from_residual-in_err-reads.ensures (λ v rest h same.
    let after = entry_read c.args.output c.args.bytes.now c.in_ok-entry.rest.now c.in_ok-entry.entry v rest c.in_ok-entry.ensures.fits c.in_ok-entry.ensures.some h same in
    let last = root_read c.args.output c.in_ok-entry.rest.now c.in_ok-root.rest.now c.in_ok-root.root v rest c.in_ok-root.ensures.fits c.in_ok-root.ensures.some h after.1 in
    c.in_err-reads.ensures.none v.reads rest h.reads_fit last.1)
