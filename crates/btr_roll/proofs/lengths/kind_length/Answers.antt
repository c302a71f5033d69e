use Rattle.std.proofs.Common.{arith}
use Rattle.btr_roll.proofs.LengthLemmas.{kind-output}
use Rattle.btr_roll.proofs.lengths.kind_length.Goals as goal

pub returns-in-Some-clause-length : goal.returns-in-Some-clause-length
returns-in-Some-clause-length c = omega (arith, kind-output c.args.spec.now c.in-Some.spec c.in-Some.is, c.spec_length.ensures.length)
