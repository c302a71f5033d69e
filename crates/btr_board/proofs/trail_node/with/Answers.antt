use Rattle.std.proofs.Common.{ap, ◌∙◌, arith}
use Rattle.btr_board.specs.Places.{value_at}
use Rattle.btr_board.proofs.ValueLemmas.{value-set, value-push}
use Rattle.btr_board.proofs.trail_node.with.Goals as goal

pub returns-then-place-len : goal.returns-then-place-len
returns-then-place-len g c j =
    value-set c.in_ok-copy.copy.items c.args.values.now c.args.place c.args.value j (omega arith) c.in_ok-copy.ensures.values

pub returns : goal.returns
returns g c j =
    let long = c.in_ok-copy.ensures.length in
    ap (λ xs. value_at xs j) c.in_ok-push.ensures.items
    ∙ value-push c.in_ok-copy.copy.items c.args.values.now c.args.place c.args.value j (omega arith) c.in_ok-copy.ensures.values
