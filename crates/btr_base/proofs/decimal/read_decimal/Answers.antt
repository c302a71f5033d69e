use Rattle.std.proofs.Common.{sym, refl, get_or}
use Rattle.btr_base.proofs.DigitLemmas.{number-stuck}
use Rattle.btr_base.proofs.decimal.read_decimal.Goals as goal

pub returns-in_err-number-clause-number : goal.returns-in_err-number-clause-number
returns-in_err-number-clause-number c =
    rw c.from_residual.ensures (sym (number-stuck c.args.most c.loop-digit.number c.loop-digit.digit-index (get_or c.args.text.now c.loop-digit.digit-index 0) c.args.text.now c.loop-digit-test.true refl c.loop-digit.invariant.0 (sym c.in_err-number.ensures)))
