use Rattle.std.proofs.Common.{ap}
use Rattle.btr_gate.specs.Shares.{on_path}
use Rattle.btr_hall_tests.proofs.TestLemmas.{shares_meet}
use Rattle.btr_hall_tests.proofs.hall_tests.two_fail.Goals as goal

pub returns-clause-share : goal.returns-clause-share
returns-clause-share g c path =
    let outcome = c.fail_and_go_on-outcome in
    shares_meet path c.args.first.now c.split-second.new.self c.split-second.result outcome.new.first outcome.new.second c.meet.new.self c.split-second.ensures.splits
    (ap (on_path path) outcome.ensures.share.0) (ap (on_path path) outcome.ensures.share.1) c.meet.ensures.meets
