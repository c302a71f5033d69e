use Rattle.std.proofs.Common.{arith}
use Rattle.btr_gate.specs.Gates.{view}
use Rattle.btr_gate.proofs.PassLemmas.{split_paths, joined_paths}
use Rattle.btr_engine_tests.proofs.gate_tests.add_in_four.Goals as goal

pub returns-clause-share : goal.returns-clause-share
returns-clause-share g c path =
    let cut = split_paths path (view c.args.pass) (view c.split-other.new.pass) (view c.split-other.result) c.split-other.ensures.kept c.split-other.ensures.given in
    let both = joined_paths path (view c.join-pass.result.0) (view c.join-pass.result.1) (view c.meet.new.pass) c.meet.ensures.joined in
    let first = c.join-pass.ensures.first.1 path in
    let second = c.join-pass.ensures.second.1 path in
    omega arith
