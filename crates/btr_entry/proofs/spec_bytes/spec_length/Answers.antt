use Rattle.std.proofs.Common.{arith}
use Rattle.btr_entry.proofs.SpecLemmas.{length-spec}
use Rattle.btr_entry.proofs.spec_bytes.spec_length.Goals as goal

pub returns-clause-length : goal.returns-clause-length
returns-clause-length c = omega (arith, length-spec c.args.spec.now, c.kernel_length.ensures.length, c.inputs_length.ensures.length)
