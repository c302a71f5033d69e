-- A seat and a lane may go to another thread, and a group may be shared, if the device may go to another thread. At a `join` the search
-- gives up at them, so a caller cites these.
use denote.RattleType.{RattleType}
use denote.Ref.{NamedLft}
use denote.Param.Send.{IsSend, IsSync, sendable}
use denote.Param.SendFields.{declared_send, declared_sync}
use Rattle.std.proofs.Crossing.{crosses}
use Rattle.btr_disk.specs.declared.disk.Disk.{Ghosts}
use Rattle.btr_gate.proofs.gate.Pass.TheSendSync as pass
use Rattle.btr_gate.proofs.gate.Gate.TheSendSync as gate
use Rattle.btr_hall.proofs.CrossingLemmas.{session_send, hall_sync}
use Rattle.btr_hall.specs.contracts.group_item.GroupItem as item
use Rattle.btr_group.specs.contracts.state.GroupState as state
use Rattle.btr_group.specs.contracts.group.GroupSetting as setting
use Rattle.btr_group.specs.contracts.group.Seat as seat
use Rattle.btr_group.specs.contracts.group.Group as group
use Rattle.btr_group.specs.contracts.lane_groups.LaneGroups as lane

item_send : IsSend item.the_row
item_send = search (sendable, crosses) depth 60 fits 30000

state_send : (D : RattleType) (g : Ghosts D.Denot) → IsSend D → IsSend (state.the_row D g)
state_send D g s = search (sendable, crosses, session_send) depth 60 fits 30000

pub seat_send : (D : RattleType) (g : Ghosts D.Denot) → IsSend D → IsSend (seat.the_row D g)
seat_send D g s =
    declared_send (seat.the_type D g) (pass.the_send (state.the_row D g) item.the_row (setting.the_row D g) (state_send D g s) item_send, tt)

pub group_sync : (D : RattleType) (g : Ghosts D.Denot) → IsSend D → IsSync (group.the_row D g)
group_sync D g s =
    declared_sync (group.the_type D g) (gate.the_sync (state.the_row D g) item.the_row (setting.the_row D g) _ (state_send D g s) item_send, (search (sendable, crosses) depth 20, (search (sendable, crosses) depth 20, (search (sendable, crosses) depth 20, tt))))

pub lane_send : (ν : NamedLft) (D : RattleType) (g : Ghosts D.Denot) → IsSend D → IsSend (lane.the_row ν D g)
lane_send ν D g s =
    let hall = hall_sync D g s in
    let groups = group_sync D g s in
    let seat = seat_send D g s in
    declared_send (lane.the_type ν D g) (search sendable depth 20, (search sendable depth 20, (search sendable depth 20, (search (sendable, crosses) depth 20, tt))))
