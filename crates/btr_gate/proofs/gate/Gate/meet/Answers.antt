use Rattle.std.proofs.Common.{rules}
use Rattle.btr_gate.proofs.KeepsShares.{joins, settles, met_stage, one_history}
use Rattle.btr_gate.proofs.gate.Gate.meet.Goals as goal

pub join_seat-requires : goal.join_seat-requires
join_seat-requires g c = (
  search rules,
  search rules,
  search rules,
  search rules,
  joins g.T.Chronicle c.args.pass.now.seat.id c.args.pass.now.seat.me.0 c.args.other.seat.id c.args.other.seat.me.0 (search rules) (search rules)
      c.requires.idle.0 c.requires.idle.1 c.requires.home.0 c.requires.home.1,
)

pub load-requires : goal.load-requires
load-requires g c = (
  search rules,
  search rules,
  settles g.T.Chronicle c.args.self.now.table.shared.table_id.slots c.join_seat.new.seat.id c.join_seat.new.seat.me
      c.args.pass.now.seat.me.0.seen c.args.other.seat.me.0.seen (search rules)
      (met_stage c.args.pass.now.seat.me.0 c.args.other.seat.me.0 c.args.pass.now.seat.me.1 c.join_seat.new.seat.me c.join_seat.ensures.2),
)

pub returns-clause-one_history : goal.returns-clause-one_history
returns-clause-one_history g c =
    one_history c.args.pass.now.seat.me.0 c.args.other.seat.me.0 c.args.pass.now.seat.me.1 c.load.result c.args.self.now.table.shared.table_id.slots
    c.join_seat.new.seat.me c.load.new.seat.me c.join_seat.ensures.2 c.load.ensures.2
