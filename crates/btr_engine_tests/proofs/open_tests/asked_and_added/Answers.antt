use denote.Param.Send.{sendable}
use Rattle.btr_streams.proofs.CrossingLemmas.{snapshot_send}
use Rattle.btr_engine_tests.proofs.open_tests.asked_and_added.Goals as goal

pub join-requires-send-F : goal.join-requires-send-F
join-requires-send-F g c κs = search (sendable, snapshot_send) depth 20
