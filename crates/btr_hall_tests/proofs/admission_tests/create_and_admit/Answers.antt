use Rattle.std.proofs.Common.{ap}
use denote.Param.Send.{sendable}
use Rattle.std.proofs.Crossing.{crosses}
use Rattle.btr_gate.specs.Shares.{on_path}
use Rattle.btr_hall.proofs.CrossingLemmas.{session_send, hall_sync}
use Rattle.btr_hall_tests.proofs.TestLemmas.{shares_meet}
use Rattle.btr_hall_tests.proofs.admission_tests.create_and_admit.Goals as goal

pub join-user-requires-send-F : goal.join-user-requires-send-F
join-user-requires-send-F g c κs within =
    let rt = c.type_bounds.sync-R in
    let device = c.type_bounds.send-D in
    search (sendable, crosses, session_send, hall_sync) depth 40

pub join-user-requires-send-A : goal.join-user-requires-send-A
join-user-requires-send-A g c κs within =
    let device = c.type_bounds.send-D in
    search (sendable, crosses, session_send) depth 40 fits 30000

pub returns-clause-share : goal.returns-clause-share
returns-clause-share g c path =
    shares_meet path c.args.user c.split-other.new.self c.split-other.result c.join-user.result.0.0 c.join-user.result.1.0 c.meet.new.self c.split-other.ensures.splits
    (ap (on_path path) c.join-user.ensures.first.1) (ap (on_path path) c.join-user.ensures.second.1) c.meet.ensures.meets
