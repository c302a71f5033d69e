use Rattle.std.proofs.Common.{◌*◌, ◌-◌, refl, ap, ◌∙◌, arith, bit_and}
use Rattle.std.proofs.lemmas.Nat.{and_mask}
use Rattle.btr_board.specs.Places.{width}
use Rattle.btr_board.proofs.FoundLemmas.{shift-one}
use Rattle.btr_board.proofs.trail_node.step.Goals as goal

pub returns-clause-child : goal.returns-clause-child
unfolding width
returns-clause-child c = refl

pub returns-clause-rest : goal.returns-clause-rest
unfolding width
returns-clause-rest c =
    ap (λ n. bit_and c.args.place (n - 1)) (shift-one (5 * c.args.height) (omega arith))
    ∙ and_mask c.args.place (5 * c.args.height)
