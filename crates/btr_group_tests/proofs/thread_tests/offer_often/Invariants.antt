use Rattle.std.proofs.Common.{◌≡◌}
use Rattle.btr_group.specs.Seats.{IsGroupSeat, share_by}
use Rattle.btr_group_tests.proofs.thread_tests.offer_often.Given as goal

abbrev pub invariant-loop-index : goal.invariant-loop-index
invariant-loop-index g l = IsGroupSeat l.group l.seat × (share_by l.seat ≡ share_by l.initial.seat)
