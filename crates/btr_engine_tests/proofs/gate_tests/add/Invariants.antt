use Rattle.std.proofs.Common.{◌≡◌}
use Rattle.btr_gate.specs.Gates.{IsFree, view}
use Rattle.btr_engine_tests.proofs.gate_tests.add.Given as goal

abbrev pub invariant-loop : goal.invariant-loop
invariant-loop g l = IsFree l.gate l.pass × ((view l.pass).share ≡ (view l.initial.pass).share)
