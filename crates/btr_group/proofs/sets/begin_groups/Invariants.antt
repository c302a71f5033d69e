use Rattle.std.proofs.Common.{◌≡◌, ◌≤◌, length}
use Rattle.std.specs.Vec.{vec_capacity}
use Rattle.btr_hall.specs.Session.{IsSessionOf}
use Rattle.btr_group.specs.Sets.{BeginsGroups}
use Rattle.btr_group.proofs.sets.begin_groups.Given as goal

-- The groups of the streams so far are begun, and there is room for the others.
abbrev pub invariant-loop-stream : goal.invariant-loop-stream
invariant-loop-stream g l =
    (length l.seats.items ≡ l.stream) × (l.streams ≤ vec_capacity l.groups) × (l.streams ≤ vec_capacity l.seats) × IsSessionOf l.hall l.session
    × BeginsGroups l.hall l.threshold l.stream l.initial.session l.session l.groups.items l.seats.items
