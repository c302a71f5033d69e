use denote.Param.Send.{IsSend, sendable}
use denote.Param.SendFields.{declared_send}
use Rattle.btr_engine_tests.specs.contracts.fixture.MemEngine as engine
use Rattle.btr_engine_tests.proofs.EngineSend.{over_memory_send}
use Rattle.btr_engine_tests.proofs.open_tests.engine_moved.Goals as goal

at_home_send : IsSend engine.the_row
at_home_send = declared_send engine.the_type (over_memory_send, tt)

pub join-moved-requires-send-F : goal.join-moved-requires-send-F
join-moved-requires-send-F g c κs = search (sendable, at_home_send) depth 20

pub join-moved-requires-send-A : goal.join-moved-requires-send-A
join-moved-requires-send-A g c κs = search (sendable, at_home_send) depth 20
