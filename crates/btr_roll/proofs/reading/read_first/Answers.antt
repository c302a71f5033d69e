use Rattle.std.proofs.Common.{arith}
use Rattle.btr_roll.proofs.RollLemmas.{first_long, first_read}
use Rattle.btr_roll.proofs.reading.read_first.Goals as goal

pub returns-in_err-first-clause-none : goal.returns-in_err-first-clause-none
returns-in_err-first-clause-none c =
    rw c.from_residual.ensures (λ first rest fits same.
    omega (arith, c.in_err-first.ensures.none, first_long c.args.has first c.args.bytes.now rest c.if-not-has.false same))

pub returns-then-first-latest-clause-none : goal.returns-then-first-latest-clause-none
returns-then-first-latest-clause-none c first rest fits same =
    omega (arith, c.if-first-latest.true, first_read c.args.has c.in_ok-first.first c.args.latest first c.args.bytes.now c.in_ok-first.rest.now rest c.if-not-has.false c.in_ok-first.ensures.fits c.in_ok-first.ensures.some c.requires fits same)
