use Rattle.btr_gate.specs.Gates.{IsPassOf, view}
use Rattle.btr_hall.specs.Travel.{HasWaited}
use Rattle.btr_hall.proofs.travel.home_turn.Given as goal

abbrev pub invariant-loop : goal.invariant-loop
invariant-loop g l = IsPassOf l.hall.gate l.pass × HasWaited (view l.initial.pass) (view l.pass)
