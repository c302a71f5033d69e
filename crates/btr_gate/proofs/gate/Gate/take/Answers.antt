use Rattle.std.proofs.Common.{Some}
use Rattle.btr_gate.proofs.Hands.{held}
use Rattle.btr_gate.proofs.gate.Gate.take.Goals as goal

pub exchange-requires : goal.exchange-requires
exchange-requires g c = (c.requires.own, (Some c.requires.full.0, held _ _ c.requires.full.1))
