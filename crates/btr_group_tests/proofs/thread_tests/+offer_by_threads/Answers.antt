-- The seats of both halves meet the paths of the one that was split.
use Rattle.std.proofs.Common.{ap}
use denote.Param.Send.{sendable}
use Rattle.std.proofs.Crossing.{crosses}
use Rattle.btr_gate.specs.Shares.{on_path}
use Rattle.btr_group.proofs.ShareLemmas.{shares_meet}
use Rattle.btr_group_tests.proofs.TestLemmas.{giver_send, buffer_sync, place_sync}
use Rattle.btr_group_tests.proofs.thread_tests.+offer_by_threads.Goals as goal

pub join-seat-requires-send-F : goal.join-seat-requires-send-F
join-seat-requires-send-F g t c κs within = let rt = c.requires.crossing in search (sendable, crosses, giver_send, buffer_sync, place_sync) depth 40

pub join-seat-requires-send-A : goal.join-seat-requires-send-A
join-seat-requires-send-A g t c κs within = search (sendable, crosses, giver_send) depth 30

pub returns-then-threads-le1-clause-share : goal.returns-then-threads-le1-clause-share
returns-then-threads-le1-clause-share g t c path = ap (on_path path) c.offer_often.ensures.share

pub returns-clause-share : goal.returns-clause-share
returns-clause-share g t c path =
    shares_meet path c.args.seat c.split-other.new.self c.split-other.result c.join-seat.result.0.0 c.join-seat.result.1.0 c.meet.new.self c.split-other.ensures.splits
    (c.join-seat.ensures.first.1 path) (c.join-seat.ensures.second.1 path) c.meet.ensures.meets
