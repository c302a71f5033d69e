-- The loop over the lanes.
use Rattle.std.proofs.Common.{◌≡◌, ◌++◌}
use Rattle.btr_group.specs.Sets.{AreSeatsOf}
use Rattle.btr_group.specs.LaneSteps.{MeetsLanes}
use Rattle.btr_group.proofs.lane_seats.meet_lanes.Given as goal

-- the seats took in those of the lanes up to here
abbrev pub invariant-loop-lane : goal.invariant-loop-lane
invariant-loop-lane g l = record {
  split : l.yielded ++ l.lane-iterator.rest.items ≡ l.fn.lanes.items;
  seats : AreSeatsOf l.fn.groups l.seats.items;
  meets : MeetsLanes l.fn.seats.items l.yielded l.seats.items;
}
