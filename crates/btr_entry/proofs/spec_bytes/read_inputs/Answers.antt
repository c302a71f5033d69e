use Rattle.std.proofs.Common.{◌^◌}
use Rattle.std.specs.Int.{w32}
use Rattle.btr_entry.proofs.NumberLemmas.{wide32}
use Rattle.btr_entry.proofs.SpecLemmas.{short_first, short_second}
use Rattle.btr_entry.proofs.spec_bytes.read_inputs.Goals as goal

pub returns-in_err-first-clause-none : goal.returns-in_err-first-clause-none
returns-in_err-first-clause-none c =
    rw c.from_residual-in_err-first.ensures (short_first w32 (2 ^ 32) wide32 c.args.bytes.now c.in_ok-count.count.now c.in_ok-count.rest.now c.in_ok-count.ensures.cases.0 c.in_err-first.ensures.none)

pub returns-in_err-second-in-2-clause-none : goal.returns-in_err-second-in-2-clause-none
returns-in_err-second-in-2-clause-none c =
    rw c.from_residual-in_err-second-in-2.ensures (short_second w32 (2 ^ 32) wide32 c.args.bytes.now c.in_ok-count.count.now c.in_ok-count.rest.now c.in_ok-first.first c.in_ok-first.rest.now c.in_ok-count.ensures.cases.0 c.in-2.is c.in_ok-first.ensures.some c.in_err-second-in-2.ensures.none)
