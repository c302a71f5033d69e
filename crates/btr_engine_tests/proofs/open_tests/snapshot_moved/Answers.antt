use denote.Param.Send.{sendable}
use Rattle.btr_streams.proofs.CrossingLemmas.{snapshot_send}
use Rattle.btr_engine_tests.proofs.open_tests.snapshot_moved.Goals as goal

pub join-found-requires-send-F : goal.join-found-requires-send-F
join-found-requires-send-F g c κs = search (sendable, snapshot_send) depth 20
