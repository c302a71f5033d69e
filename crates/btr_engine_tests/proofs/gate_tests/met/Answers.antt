use Rattle.std.proofs.Common.{arith}
use Rattle.btr_gate.specs.Gates.{view}
use Rattle.btr_gate.proofs.PassLemmas.{joined_paths}
use Rattle.btr_engine_tests.proofs.gate_tests.met.Goals as goal

pub returns-clause-share : goal.returns-clause-share
returns-clause-share c path =
    let one = joined_paths path (view c.args.a) (view c.args.b) (view c.meet.new.pass) c.meet.ensures.joined in
    let two = joined_paths path (view c.args.c) (view c.args.d) (view c.meet-2.new.pass) c.meet-2.ensures.joined in
    let all = joined_paths path (view c.meet.new.pass) (view c.meet-2.new.pass) (view c.meet-3.new.pass) c.meet-3.ensures.joined in
    omega arith
