use Rattle.std.proofs.Common.{length}
use Rattle.btr_hall.specs.Session.{IsSessionOf}
use Rattle.btr_group.specs.SetSteps.{MayEnd}
use Rattle.btr_group.proofs.sets.end_groups.Given as goal

-- The groups that are left may end.
abbrev pub invariant-loop-group : goal.invariant-loop-group
invariant-loop-group g l = IsSessionOf l.hall l.session × MayEnd l.hall l.before.value l.session l.groups.items l.seats.items

abbrev pub decreases-loop-group : goal.decreases-loop-group
decreases-loop-group g l = length l.groups.items
