-- A lane more is split off, the last one has what is left, and what was split meets again if memory runs out.
use Rattle.std.proofs.Common.{◌≡◌, ◌+◌, length, subst, arith, Vec, Global}
use Rattle.btr_group.specs.declared.group.Seat.{Seat}
use Rattle.btr_group.specs.LaneSteps.{MeetsLanes}
use Rattle.btr_group.proofs.LaneStepLemmas.{count_push, splits_then, begins_lanes, first_again}
use Rattle.btr_group.proofs.lane_seats.begin_lanes.Goals as goal

pub returns-in-Err-split_lane-clause-first : goal.returns-in-Err-split_lane-clause-first
returns-in-Err-split_lane-clause-first g c =
    first_again c.args.hall.now c.args.threshold c.args.groups.now c.args.seats.items c.loop.made.items c.loop.seats.items c.meet_lanes.result.items
    c.requires.seats c.requires.first c.loop.invariant.splits c.meet_lanes.ensures.seats
    (subst (λ (v : Vec (Seat g.row.D.Denot g.D.Disk) Global). MeetsLanes v.items c.loop.made.items c.meet_lanes.result.items) c.in-Err-split_lane.ensures.refused c.meet_lanes.ensures.meets)

pub loop-preserved : goal.loop-preserved
loop-preserved g c = record {
  count = count_push c.loop.counter c.loop.made.items c.push_reserved.new.self.items c.in-Ok-split_lane.lane c.push_reserved.ensures.items c.loop.invariant.count;
  room = omega (arith, c.loop.invariant.room, c.push_reserved.ensures.capacity);
  splits = splits_then c.args.hall.now c.args.threshold c.args.groups.now c.args.seats.items c.loop.made.items c.push_reserved.new.self.items c.loop.seats.items c.split_lane.new.seats.items c.in-Ok-split_lane.lane
      c.push_reserved.ensures.items c.split_lane.ensures.seats c.loop.invariant.splits c.in-Ok-split_lane.ensures.splits;
}

pub returns-clause-begins : goal.returns-clause-begins
returns-clause-begins g c =
    let many : length c.loop.made.items + 1 ≡ c.args.lanes = omega (arith, c.loop.invariant.count, c.loop-test.false, c.loop.auto.counter-end, c.requires.some) in
    begins_lanes c.args.hall.now c.args.threshold c.args.lanes c.args.groups.now c.args.seats.items c.loop.made.items c.push_reserved-2.new.self.items c.loop.seats.items c.new.result
    c.push_reserved-2.ensures.items many c.loop.invariant.splits c.new.ensures.hall c.new.ensures.groups c.new.ensures.threshold c.new.ensures.seats
