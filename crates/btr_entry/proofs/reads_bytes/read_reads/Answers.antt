use Rattle.std.proofs.Common.{◌++◌, sym, ◌∙◌}
use Rattle.std.specs.Int.{w64}
use Rattle.btr_entry.proofs.SpecLemmas.{after_count, second_of, second_read, no_second}
use Rattle.btr_entry.proofs.reads_bytes.read_reads.Goals as goal

pub returns-in_err-first-clause-none : goal.returns-in_err-first-clause-none
returns-in_err-first-clause-none c =
    rw c.from_residual-in_err-first.ensures (λ r rest h same.
    let parts = after_count w64 r.first r.second rest c.in_ok-count.count.now c.in_ok-count.rest.now (sym c.in_ok-count.ensures.cases.0 ∙ same) in
    c.in_err-first.ensures.none r.first (second_of w64 r.second ++ rest) h.first parts.1)

pub returns-in_err-second-in-2-clause-none : goal.returns-in_err-second-in-2-clause-none
returns-in_err-second-in-2-clause-none c =
    rw c.from_residual-in_err-second-in-2.ensures (λ r rest h same.
    let parts = after_count w64 r.first r.second rest c.in_ok-count.count.now c.in_ok-count.rest.now (sym c.in_ok-count.ensures.cases.0 ∙ same) in
    let last = second_read c.args.bytes.now c.in_ok-count.count.now c.in_ok-count.rest.now c.in_ok-first.first c.in_ok-first.rest.now c.in_ok-count.ensures.cases.0 c.in_ok-first.ensures.fits c.in_ok-first.ensures.some r rest h same in
    no_second r.second c.in_ok-first.rest.now rest (sym c.in-2.is ∙ parts.0) h.second last c.in_err-second-in-2.ensures.none)
