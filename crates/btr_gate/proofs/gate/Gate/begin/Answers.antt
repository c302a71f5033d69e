use Rattle.std.proofs.Common.{rules, refl, None}
use Rattle.btr_gate.proofs.KeepsEnds.{empties, begins}
use Rattle.btr_gate.proofs.gate.Gate.begin.Goals as goal

pub load-requires : goal.load-requires
load-requires g c = (search rules, search rules, empties g.T.Chronicle c.in-Ok.made.0.shared.table_id.slots c.in-Ok.made.1.id c.in-Ok.made.1.me c.in-Ok.ensures.4)

pub store-requires : goal.store-requires
store-requires g c = (
  search rules,
  search rules,
  begins g.T.Chronicle c.in-Ok.made.0.shared.table_id.slots c.exchange-old.new.seat.id c.entries-count.result record { state = c.args.state; added = None }
      c.load.new.seat.me c.exchange-old.new.seat.me c.load.ensures.2 c.exchange-old.ensures.3 c.requires.of c.requires.home refl c.entries-count.ensures,
)
