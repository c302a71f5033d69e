-- The sessions of both halves meet the paths of the one that was split.
use Rattle.std.proofs.Common.{ap}
use denote.Param.Send.{sendable}
use Rattle.std.proofs.Crossing.{crosses}
use Rattle.btr_gate.specs.Shares.{on_path}
use Rattle.btr_hall_tests.proofs.TestLemmas.{user_send, place_sync, shares_meet}
use Rattle.btr_hall_tests.proofs.hall_tests.+tell_by_threads.Goals as goal

pub join-user-requires-send-F : goal.join-user-requires-send-F
join-user-requires-send-F g t c κs within = let rt = c.requires.crossing in search (sendable, crosses, user_send, place_sync) depth 40

pub join-user-requires-send-A : goal.join-user-requires-send-A
join-user-requires-send-A g t c κs within = search (sendable, crosses, user_send) depth 30

pub returns-then-threads-le1-clause-share : goal.returns-then-threads-le1-clause-share
returns-then-threads-le1-clause-share g t c path = ap (on_path path) c.tell_often.ensures.share

pub returns-clause-share : goal.returns-clause-share
returns-clause-share g t c path =
    shares_meet path c.args.user c.split-other.new.self c.split-other.result c.join-user.result.0.0 c.join-user.result.1.0 c.meet.new.self c.split-other.ensures.splits
    (c.join-user.ensures.first.1 path) (c.join-user.ensures.second.1 path) c.meet.ensures.meets
