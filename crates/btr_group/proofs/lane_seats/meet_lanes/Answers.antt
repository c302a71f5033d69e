-- The seats take in those of one lane more.
use Rattle.btr_group.proofs.LaneStepLemmas.{meets_then, split_push}
use Rattle.btr_group.proofs.lane_seats.meet_lanes.Goals as goal

pub loop-lane-preserved : goal.loop-lane-preserved
loop-lane-preserved g c =
    let before = c.loop-lane.invariant in
    record {
      split = split_push c.loop-lane.yielded c.loop-lane.lane-iterator.rest.items c.next.new.self.rest.items c.args.lanes.items c.in-Some.lane before.split c.in-Some.ensures.steps.0;
      seats = c.meet_seats.ensures.seats;
      meets = meets_then c.args.seats.items c.loop-lane.yielded c.loop-lane.seats.items c.into_seats.result.items c.meet_seats.new.seats.items c.in-Some.lane
          c.into_seats.ensures.same before.meets c.meet_seats.ensures.meets;
    }
