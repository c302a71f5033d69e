use Rattle.std.proofs.Common.{◌≡◌}
use Rattle.btr_gate.specs.Seats.{IsSameSeat}
use Rattle.btr_gate.proofs.gate.Gate.draw.Given as goal

abbrev pub invariant-loop : goal.invariant-loop
invariant-loop g l = IsSameSeat l.initial.seat l.seat × (l.seat.me ≡ l.initial.seat.me)
