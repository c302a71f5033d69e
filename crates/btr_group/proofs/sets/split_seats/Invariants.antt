use Rattle.std.proofs.Common.{◌≡◌, ◌≤◌, length, take}
use Rattle.std.specs.Vec.{vec_capacity}
use Rattle.btr_group.specs.Sets.{AreSeatsOf}
use Rattle.btr_group.specs.SetSteps.{SplitsBelow}
use Rattle.btr_group.proofs.sets.split_seats.Given as goal

-- The seats before this place are split, and the others are as they were.
abbrev pub invariant-loop-place : goal.invariant-loop-place
invariant-loop-place g l =
    (length l.others.items ≡ l.place) × (length l.groups ≤ vec_capacity l.others) × AreSeatsOf l.groups l.seats.items
    × AreSeatsOf (take l.place l.groups) l.others.items × SplitsBelow l.initial.seats.items l.seats.items l.others.items
