use Rattle.std.proofs.Common.{◌∙◌, ap, map}
use Rattle.std.proofs.lemmas.List.{take_all}
use Rattle.btr_board.proofs.ValueLemmas.{same-values}
use Rattle.btr_board.proofs.trail_node.copied.Goals as goal

pub returns-clause-values : goal.returns-clause-values
returns-clause-values g c j =
    same-values c.loop-value.copy.items c.args.values.now j (c.loop-value.invariant ∙ ap (map (λ a. a.value)) (take_all c.loop-value.value-index c.args.values.now c.loop-value-test.false))
