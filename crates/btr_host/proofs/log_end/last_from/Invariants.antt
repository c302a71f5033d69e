use Rattle.std.specs.Prelude.{◌-◌}
use Rattle.btr_host.proofs.LogEndLemmas.{IsWalked}
use Rattle.btr_host.proofs.log_end.last_from.Given as goal

abbrev pub invariant-loop-next : goal.invariant-loop-next
invariant-loop-next g l = IsWalked g.D.Disk l.start l.blocks l.fn.disk l.disk l.last l.gate

abbrev pub decreases-loop-next : goal.decreases-loop-next
decreases-loop-next g l = l.blocks - l.gate
