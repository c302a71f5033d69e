use Rattle.std.proofs.Common.{◌≡◌, ◌-◌, suc, ◌∙◌, ap, arith}
use Rattle.btr_board.specs.Numbers.{first}
use Rattle.btr_board.proofs.NumberLemmas.{number-leaf, split-number}
use Rattle.btr_board.proofs.index_node.+build.Goals as goal

pub returns-then-height-eq0 : goal.returns-then-height-eq0
returns-then-height-eq0 t c j =
    number-leaf c.args.height c.in_ok-new.field-0.value c.args.entries j c.in_ok-new.ensures.ok

pub returns : goal.returns
returns t c j =
    let high : c.args.height ≡ suc (c.args.height - 1) = omega arith in
    split-number (c.args.height - 1) c.args.height c.in_ok-new-2.field-0.value c.in_ok-zeros.zeros c.in_ok-ones.ones c.args.entries.items c.in_ok-half.field-0.items c.in_ok-half-2.field-0.items j high c.in_ok-new-2.ensures.ok (λ i b. c.in_ok-half.ensures i b ∙ ap (λ es. first es i) c.deref.ensures.value) c.in_ok-zeros.ensures (λ i b. c.in_ok-half-2.ensures i b ∙ ap (λ es. first es i) c.deref-2.ensures.value) c.in_ok-ones.ensures
