use Rattle.std.proofs.Common.{◌≡◌, length}
use Rattle.btr_group.specs.Sets.{AreSeatsOf}
use Rattle.btr_group.specs.SetSteps.{MeetsBelow}
use Rattle.btr_group.proofs.sets.meet_seats.Given as goal

-- The seats before this place have met theirs, and the others are as they were.
abbrev pub invariant-loop-other : goal.invariant-loop-other
invariant-loop-other g l =
    (l.place ≡ length l.yielded) × AreSeatsOf l.groups l.seats.items
    × MeetsBelow l.initial.seats.items l.yielded l.seats.items
