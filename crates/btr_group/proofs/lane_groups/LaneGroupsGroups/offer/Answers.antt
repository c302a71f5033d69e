use denote.Param.Send.{sendable}
use Rattle.std.proofs.Common.{refl}
use Rattle.btr_group.proofs.LaneLemmas.{groups_known, seats_known, has_group, has_seat, same_after, group_seat, group_session, lane_after}
use Rattle.btr_group.proofs.SetLemmas.{view_other, offers_at}
use Rattle.btr_group.proofs.lane_groups.LaneGroupsGroups.offer.Goals as goal

pub index_mut-requires : goal.index_mut-requires
index_mut-requires g c = has_seat g.row.D g.D.Disk c.args.self.now c.args.stream c.requires.has

pub offer-requires-sync-R : goal.offer-requires-sync-R
offer-requires-sync-R g c κs within = let rt = c.requires.crossing in search sendable depth 20

pub offer-requires-clause-seat : goal.offer-requires-clause-seat
offer-requires-clause-seat g c κs outlives =
    group_seat g.row.D g.D.Disk c.args.self.now c.args.stream c.requires.has c.index-groups-place.result c.index-groups-place.is c.index_mut.result.now c.index_mut.ensures.value

pub offer-requires-clause-hall : goal.offer-requires-clause-hall
offer-requires-clause-hall g c κs outlives =
    group_session g.row.D g.D.Disk c.args.self.now c.args.stream c.requires.has c.index-groups-place.result c.index-groups-place.is

pub invariant_of-self : goal.invariant_of-self
invariant_of-self g c =
    lane_after g.row.D g.D.Disk c.args.self.now c.args.stream c.requires.has c.index-groups-place.result c.index-groups-place.is c.offer.new.self c.offer.ensures.seat

pub returns-clause-later : goal.returns-clause-later
returns-clause-later g c =
    (refl, refl, refl, same_after g.row.D g.D.Disk c.args.self.now c.args.stream c.requires.has c.index_mut.result.now c.offer.new.self c.index_mut.ensures.value c.offer.ensures.offers.same)

pub returns-clause-others : goal.returns-clause-others
returns-clause-others g c = λ other not. view_other c.args.self.now.seats.items c.args.stream other c.offer.new.self not

pub returns-clause-offers : goal.returns-clause-offers
returns-clause-offers g c =
    let lane = c.args.self.now in
    offers_at lane.hall.now lane.threshold lane.groups.now lane.seats.items c.args.stream c.index-groups-place.result c.index_mut.result.now c.offer.new.self c.args.points.now c.offer.result
    (groups_known g.row.D g.D.Disk lane) (seats_known g.row.D g.D.Disk lane) (has_group g.row.D g.D.Disk lane c.args.stream c.requires.has) c.index-groups-place.is c.index_mut.ensures.value c.offer.ensures.offers.turn
