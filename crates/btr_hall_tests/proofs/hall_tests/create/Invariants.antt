use Rattle.std.proofs.Common.{◌≡◌}
use Rattle.btr_hall.specs.Session.{IsSessionOf, share_of}
use Rattle.btr_hall_tests.proofs.hall_tests.create.Given as goal

abbrev pub invariant-loop-id : goal.invariant-loop-id
invariant-loop-id g l = IsSessionOf l.hall l.user × (share_of l.user ≡ share_of l.initial.user)
