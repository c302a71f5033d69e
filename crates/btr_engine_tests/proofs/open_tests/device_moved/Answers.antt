use denote.Param.Send.{IsSend, sendable}
use denote.Param.SendFields.{declared_send}
use Rattle.btr_engine_tests.specs.contracts.fixture.MemEngine as engine
use Rattle.btr_engine_tests.proofs.EngineSend.{over_memory_send}
use Rattle.btr_engine_tests.proofs.open_tests.device_moved.Goals as goal

at_home_send : IsSend engine.the_row
at_home_send = declared_send engine.the_type (over_memory_send, tt)

pub join-engine-requires-send-A : goal.join-engine-requires-send-A
join-engine-requires-send-A g c κs = search (sendable, at_home_send) depth 20
