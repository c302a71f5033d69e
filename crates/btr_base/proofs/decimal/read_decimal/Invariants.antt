use Rattle.std.proofs.Common.{◌≡◌, ◌≤◌, drop}
use Rattle.btr_base.proofs.DigitLemmas.{onward}
use Rattle.btr_base.proofs.decimal.read_decimal.Given as goal

abbrev pub invariant-loop-digit : goal.invariant-loop-digit
invariant-loop-digit l = (onward l.most l.number (drop l.digit-index l.text) ≡ onward l.most 0 l.text) × (l.number ≤ l.most)
