use Rattle.std.proofs.Common.{arith}
use Rattle.btr_roll.proofs.LengthLemmas.{version-plain, version-some}
use Rattle.btr_roll.proofs.lengths.version_length.Goals as goal

pub returns-in-None-clause-length : goal.returns-in-None-clause-length
returns-in-None-clause-length c = version-plain c.args.version.now c.in-None.is

pub returns-in-Some-clause-length : goal.returns-in-Some-clause-length
returns-in-Some-clause-length c = omega (arith, version-some c.args.version.now c.in-Some.reads c.in-Some.is, c.reads_length.ensures.length)
