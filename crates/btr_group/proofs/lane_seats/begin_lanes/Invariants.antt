-- The loop that splits off a lane.
use Rattle.std.proofs.Common.{◌≡◌, ◌+◌, ◌≤◌, length}
use Rattle.std.specs.Vec.{vec_capacity}
use Rattle.btr_group.specs.LaneSteps.{SplitsLanes}
use Rattle.btr_group.proofs.lane_seats.begin_lanes.Given as goal

-- the lanes up to here are split off, and there is room for the others
abbrev pub invariant-loop : goal.invariant-loop
invariant-loop g l = record {
  count : length l.made.items + 1 ≡ l.counter;
  room : l.lanes ≤ vec_capacity l.made;
  splits : SplitsLanes l.hall l.threshold l.groups l.fn.seats.items l.made.items l.seats.items;
}
