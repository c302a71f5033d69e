use Rattle.std.proofs.Common.{rules}
use Rattle.btr_gate.proofs.KeepsShares.{splits}
use Rattle.btr_gate.proofs.gate.Gate.split.Goals as goal

pub split_seat-seat-requires : goal.split_seat-seat-requires
split_seat-seat-requires g c = (search rules, search rules, splits g.T.Chronicle c.args.pass.now.seat.id c.args.pass.now.seat.me.0 (search rules) c.requires.idle c.requires.home)
