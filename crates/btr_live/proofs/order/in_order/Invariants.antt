-- The loop over the lanes of the lines.
use Rattle.std.proofs.Common.{◌≡◌, ◌≤◌, length, take, drop, vec_capacity}
use Rattle.btr_live.specs.Parts.{feeds_of, replies_at}
use Rattle.btr_live.proofs.OrderLemmas.{HasLeft, HasPlaced}
use Rattle.btr_live.proofs.order.in_order.Given as goal

-- the replies up to here are in order, and the lanes have those that are left, if each lane has as many as lines
abbrev pub invariant-loop-lane : goal.invariant-loop-lane
invariant-loop-lane g l = record {
  each : length l.replies.items ≡ l.lane-index;
  room : length l.lanes ≤ vec_capacity l.replies;
  parts : length l.parts ≡ length l.fn.parts;
  feeds : feeds_of l.parts ≡ feeds_of l.fn.parts;
  left : HasLeft (replies_at l.fn.parts) l.lanes → HasLeft (replies_at l.parts) (drop l.lane-index l.lanes);
  placed : HasLeft (replies_at l.fn.parts) l.lanes → HasPlaced (replies_at l.fn.parts) (replies_at l.parts) (take l.lane-index l.lanes) l.replies.items;
}
