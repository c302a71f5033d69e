use Rattle.std.proofs.Common.{arith}
use Rattle.btr_gate.specs.Gates.{view}
use Rattle.btr_gate.proofs.PassLemmas.{split_paths}
use Rattle.btr_engine_tests.proofs.gate_tests.quarters.Goals as goal

pub returns-clause-share : goal.returns-clause-share
returns-clause-share c path =
    let all = split_paths path (view c.args.pass) (view c.split-c.new.pass) (view c.split-c.result) c.split-c.ensures.kept c.split-c.ensures.given in
    let one = split_paths path (view c.split-c.new.pass) (view c.split-b.new.pass) (view c.split-b.result) c.split-b.ensures.kept c.split-b.ensures.given in
    let two = split_paths path (view c.split-c.result) (view c.split-d.new.pass) (view c.split-d.result) c.split-d.ensures.kept c.split-d.ensures.given in
    omega arith
