use Rattle.std.proofs.Common.{◌≡◌}
use Rattle.btr_hall.specs.Session.{IsSessionOf, share_of}
use Rattle.btr_hall_tests.proofs.hall_tests.write_and_read_often.Given as goal

abbrev pub invariant-loop-index : goal.invariant-loop-index
invariant-loop-index g l = IsSessionOf l.hall l.user × (share_of l.user ≡ share_of l.initial.user)
