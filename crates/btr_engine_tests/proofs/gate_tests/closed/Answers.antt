use Rattle.std.proofs.Common.{arith}
use Rattle.btr_gate.specs.Gates.{view}
use Rattle.btr_gate.proofs.ShareLemmas.{meets_covers}
use Rattle.btr_engine_tests.proofs.gate_tests.closed.Goals as goal

pub close-requires-clause-covers : goal.close-requires-clause-covers
close-requires-clause-covers c = meets_covers (view c.args.pass).share (λ path. let once = c.requires.share path in omega arith)
