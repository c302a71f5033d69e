-- A session may go to another thread, and a hall may be shared, if the device may go to another thread. At a `join` the search gives
-- up at them, so a caller cites these.
use denote.RattleType.{RattleType}
use denote.Param.Send.{IsSend, IsSync, sendable}
use denote.Param.SendFields.{declared_send, declared_sync}
use Rattle.std.proofs.Crossing.{crosses}
use Rattle.btr_disk.specs.declared.disk.Disk.{Ghosts}
use Rattle.btr_engine.proofs.CrossingLemmas.{engine_send}
use Rattle.btr_engine.specs.contracts.engine.Engine as engine
use Rattle.btr_gate.proofs.gate.Pass.TheSendSync as pass
use Rattle.btr_gate.proofs.gate.Gate.TheSendSync as gate
use Rattle.btr_hall.specs.contracts.item.Item as item
use Rattle.btr_hall.specs.contracts.store.Store as store
use Rattle.btr_hall.specs.contracts.session.Session as session
use Rattle.btr_hall.specs.contracts.session.Hall as hall

item_send : (D : RattleType) (g : Ghosts D.Denot) → IsSend D → IsSend (item.the_row D g)
item_send D g s = search (sendable, crosses) depth 20

store_send : (D : RattleType) (g : Ghosts D.Denot) → IsSend D → IsSend (store.the_row D g)
store_send D g s =
    declared_send (store.the_type D g) (engine_send D g s, (search (sendable, crosses) depth 20, (search sendable depth 20, tt)))

pub session_send : (D : RattleType) (g : Ghosts D.Denot) → IsSend D → IsSend (session.the_row D g)
session_send D g s =
    declared_send (session.the_type D g) (pass.the_send (store.the_row D g) (item.the_row D g) (engine.the_row D g) (store_send D g s) (item_send D g s), tt)

pub hall_sync : (D : RattleType) (g : Ghosts D.Denot) → IsSend D → IsSync (hall.the_row D g)
hall_sync D g s =
    declared_sync (hall.the_type D g) (gate.the_sync (store.the_row D g) (item.the_row D g) (engine.the_row D g) _ (store_send D g s) (item_send D g s), (search (sendable, crosses) depth 20, (search (sendable, crosses) depth 20, tt)))
