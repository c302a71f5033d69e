-- Engines may go to another thread. At a `join` the search gives up at them, so a caller cites this.
use denote.RattleType.{RattleType}
use denote.Param.Send.{IsSend, sendable}
use Rattle.std.proofs.Crossing.{crosses}
use Rattle.btr_disk.specs.declared.disk.Disk.{Ghosts}
use Rattle.btr_streams.proofs.CrossingLemmas.{board_send}
use Rattle.btr_engine.specs.contracts.engine.Engine as engine

pub engine_send : (D : RattleType) (g : Ghosts D.Denot) → IsSend D → IsSend (engine.the_row D g)
engine_send D g s = search (sendable, crosses, board_send) depth 20
