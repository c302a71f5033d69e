-- The seats of the last lane take in those of the others.
use Rattle.btr_group.proofs.LaneStepLemmas.{ends_lanes}
use Rattle.btr_group.proofs.lane_seats.end_lanes.Goals as goal

pub returns : goal.returns
returns g c =
    ends_lanes c.args.groups.now c.pop.new.self.items c.args.lanes.items c.in-Some.last c.into_seats.result.items c.meet_lanes.result.items
    c.in-Some.ensures.items c.into_seats.ensures.same c.meet_lanes.ensures.seats c.meet_lanes.ensures.meets
