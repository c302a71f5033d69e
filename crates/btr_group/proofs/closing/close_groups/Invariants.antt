-- The loop over the groups, from the last one to the first.
use Rattle.std.proofs.Common.{length}
use Rattle.btr_hall.specs.Session.{IsSessionOf}
use Rattle.btr_group.proofs.ClosingLemmas.{LeftToClose}
use Rattle.btr_group.proofs.closing.close_groups.Given as goal

-- the groups from here on were closed
abbrev pub invariant-loop-group : goal.invariant-loop-group
invariant-loop-group g l =
    IsSessionOf l.hall l.session × LeftToClose l.hall l.fn.session l.session l.fn.groups.items l.groups.items l.fn.seats.items l.seats.items

abbrev pub decreases-loop-group : goal.decreases-loop-group
decreases-loop-group g l = length l.groups.items
