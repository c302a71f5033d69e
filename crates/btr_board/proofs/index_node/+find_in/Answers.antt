use Rattle.std.proofs.Common.{◌≡◌, ◌-◌, suc, ◌∙◌, ap, sym, arith}
use Rattle.btr_board.specs.Numbers.{first, number_in}
use Rattle.btr_board.proofs.NumberLemmas.{number-leaf, number-lowest, number-one, number-zero}
use Rattle.btr_board.proofs.index_node.+find_in.Goals as goal

pub returns-in-Leaf : goal.returns-in-Leaf
returns-in-Leaf t c =
    c.first_number.ensures
    ∙ ap (λ es. first es c.args.id) c.deref.ensures.value
    ∙ sym (number-leaf c.args.height c.args.node.now c.in-Leaf.entries c.args.id c.in-Leaf.is)

pub returns-then-height-eq0 : goal.returns-then-height-eq0
returns-then-height-eq0 t c =
    sym (number-lowest c.args.height c.args.node.now c.in-Inner.zeros c.in-Inner.ones c.args.id c.if-height-eq0.true c.in-Inner.is)

pub returns-then-bit_of : goal.returns-then-bit_of
returns-then-bit_of t c =
    let high : c.args.height ≡ suc (c.args.height - 1) = omega arith in
    c.find_in.ensures
    ∙ ap (λ n. number_in (c.args.height - 1) n c.args.id) c.deref-then-bit_of.ensures
    ∙ sym (number-one (c.args.height - 1) c.args.height c.args.node.now c.in-Inner.zeros c.in-Inner.ones c.args.id high c.in-Inner.is (sym c.bit_of.ensures ∙ c.if-bit_of.true))

pub returns-else-bit_of : goal.returns-else-bit_of
returns-else-bit_of t c =
    let high : c.args.height ≡ suc (c.args.height - 1) = omega arith in
    c.find_in-in-Inner.ensures
    ∙ ap (λ n. number_in (c.args.height - 1) n c.args.id) c.deref-in-Inner.ensures
    ∙ sym (number-zero (c.args.height - 1) c.args.height c.args.node.now c.in-Inner.zeros c.in-Inner.ones c.args.id high c.in-Inner.is (sym c.bit_of.ensures ∙ c.if-bit_of.false))
