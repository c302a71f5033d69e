use Rattle.std.specs.Prelude.{[], Some}
use Rattle.std.proofs.Common.{refl}
use Rattle.btr_group.proofs.SeatLemmas.{first_state, begins_group}
use Rattle.btr_group.proofs.group.Group.begin.Goals as goal

pub begin-requires-clause-of : goal.begin-requires-clause-of
begin-requires-clause-of g c = (
  [],
  record { session = c.args.session; stream = c.args.stream; threshold = c.args.threshold },
  first_state c.args.session c.args.stream c.args.threshold
      (record { start = c.of.result.value; session = Some c.args.session; filling = c.new.result; first = 0; given = 0; settled = c.new-2.result.items; items = 0 })
      c.of.ensures refl c.new.ensures refl refl c.new-2.ensures.items refl,
)

pub returns-in-Ok-clause-begins : goal.returns-in-Ok-clause-begins
returns-in-Ok-clause-begins g c =
    let opened = c.in-Ok.ensures.opened in
    begins_group c.args.session c.args.stream c.args.threshold _ _
    (record { start = c.of.result.value; session = Some c.args.session; filling = c.new.result; first = 0; given = 0; settled = c.new-2.result.items; items = 0 })
    opened.0 c.in-Ok.ensures.own (λ i. record { session = c.of-start.ensures i; stream = c.args.stream; threshold = c.args.threshold }) c.of.ensures c.new.ensures refl opened.1 opened.2
