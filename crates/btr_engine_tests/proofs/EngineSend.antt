-- An engine over a device in memory goes to other threads.
use denote.Param.Send.{IsSend, sendable}
use Rattle.std.proofs.Crossing.{crosses}
use Rattle.btr_disk.specs.contracts.memory.MemDisk as memory
use Rattle.btr_disk.specs.contracts.memory.MemDiskDisk.TheImpl.{ghosts}
use Rattle.btr_engine.specs.contracts.engine.Engine as engine
use Rattle.btr_engine.proofs.CrossingLemmas.{engine_send}

-- the search does not find a disk's ghost members
pub over_memory_send : IsSend (engine.the_row memory.the_row ghosts)
over_memory_send = engine_send memory.the_row ghosts (search (sendable, crosses) depth 20)
