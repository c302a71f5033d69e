use Rattle.std.specs.Prelude.{◌-◌}
use Rattle.btr_open.proofs.LogWalkLemmas.{IsWalkedSince}
use Rattle.btr_open.proofs.log_walk.LogWalk.read_log.Given as goal

abbrev pub invariant-loop : goal.invariant-loop
invariant-loop g l = IsWalkedSince g.J.Judge l.fn.self l.self l.judge

abbrev pub decreases-loop : goal.decreases-loop
decreases-loop g l = l.self.found.blocks - l.self.place.gate
