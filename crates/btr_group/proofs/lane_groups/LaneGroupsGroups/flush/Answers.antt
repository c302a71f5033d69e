use denote.Param.Send.{sendable}
use Rattle.std.proofs.Common.{refl}
use Rattle.btr_group.proofs.LaneLemmas.{seats_known, has_group, has_seat, same_after, group_seat, group_session, lane_after}
use Rattle.btr_group.proofs.SetLemmas.{view_other, flushes_at}
use Rattle.btr_group.proofs.lane_groups.LaneGroupsGroups.flush.Goals as goal

pub index_mut-requires : goal.index_mut-requires
index_mut-requires g c = has_seat g.row.D g.D.Disk c.args.self.now c.args.stream c.requires.has

pub flush-requires-sync-R : goal.flush-requires-sync-R
flush-requires-sync-R g c κs within = let rt = c.requires.crossing in search sendable depth 20

pub flush-requires-clause-seat : goal.flush-requires-clause-seat
flush-requires-clause-seat g c κs outlives =
    group_seat g.row.D g.D.Disk c.args.self.now c.args.stream c.requires.has c.index-groups-place.result c.index-groups-place.is c.index_mut.result.now c.index_mut.ensures.value

pub flush-requires-clause-hall : goal.flush-requires-clause-hall
flush-requires-clause-hall g c κs outlives =
    group_session g.row.D g.D.Disk c.args.self.now c.args.stream c.requires.has c.index-groups-place.result c.index-groups-place.is

pub invariant_of-self : goal.invariant_of-self
invariant_of-self g c =
    lane_after g.row.D g.D.Disk c.args.self.now c.args.stream c.requires.has c.index-groups-place.result c.index-groups-place.is c.flush.new.self c.flush.ensures.seat

pub returns-clause-later : goal.returns-clause-later
returns-clause-later g c =
    (refl, refl, refl, same_after g.row.D g.D.Disk c.args.self.now c.args.stream c.requires.has c.index_mut.result.now c.flush.new.self c.index_mut.ensures.value c.flush.ensures.flushes.same)

pub returns-clause-others : goal.returns-clause-others
returns-clause-others g c = λ other not. view_other c.args.self.now.seats.items c.args.stream other c.flush.new.self not

pub returns-clause-flushes : goal.returns-clause-flushes
returns-clause-flushes g c =
    let lane = c.args.self.now in
    flushes_at lane.groups.now lane.seats.items c.args.stream c.index_mut.result.now c.flush.new.self c.flush.result
    (seats_known g.row.D g.D.Disk lane) (has_group g.row.D g.D.Disk lane c.args.stream c.requires.has) c.index_mut.ensures.value c.flush.ensures.flushes.turn
