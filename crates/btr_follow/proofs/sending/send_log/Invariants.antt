-- The log was shipped up to the gate.
use Rattle.std.specs.Prelude.{◌-◌}
use Rattle.btr_follow.proofs.ShippingLemmas.{IsSentSince}
use Rattle.btr_follow.proofs.sending.send_log.Given as goal

abbrev pub invariant-loop-buffer : goal.invariant-loop-buffer
invariant-loop-buffer g l = IsSentSince g.D.Disk g.K.Sink l.part.from l.part.blocks l.part.start l.fn.disk l.disk l.fn.sink l.sink l.gate l.count

abbrev pub decreases-loop-buffer : goal.decreases-loop-buffer
decreases-loop-buffer g l = l.part.blocks - l.gate
