use Rattle.std.proofs.Common.{drop}
use Rattle.btr_base.proofs.Joining.{IsJoining}
use Rattle.btr_base.proofs.ranges.joined.Given as goal

abbrev pub invariant-loop-next : goal.invariant-loop-next
invariant-loop-next l = IsJoining l.done.items l.current (drop l.next-index l.ranges) l.fn.range l.fn.ranges
