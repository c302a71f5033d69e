use Rattle.std.proofs.Common.{◌≡◌, ◌-◌, suc, ◌∙◌, [], ap, sym, arith}
use Rattle.std.proofs.lemmas.Result.{IfOk-weaker}
use Rattle.btr_board.specs.Put.{put_at}
use Rattle.btr_board.specs.Numbers.{first, number_in}
use Rattle.btr_board.proofs.PutLemmas.{put-alike}
use Rattle.btr_board.proofs.NumberLemmas.{number-leaf, number-lowest, number-put-one, number-put-zero}
use Rattle.btr_board.proofs.index_node.+insert_in.Goals as goal

pub returns-then-bit_of : goal.returns-then-bit_of
returns-then-bit_of t c j =
    let high : c.args.height ≡ suc (c.args.height - 1) = omega arith in
    number-put-one (c.args.height - 1) c.args.height c.args.node.now c.in_ok-new-in-Inner.field-0.value c.in-Inner.zeros c.in-Inner.ones c.in_ok-zeros-in-Inner.zeros c.in_ok-ones-in-Inner.ones c.args.entry.id c.args.entry.number j high c.in-Inner.is c.in_ok-new-in-Inner.ensures.ok (sym c.bit_of.ensures ∙ c.if-bit_of.true) c.in_ok-zeros-in-Inner.ensures (λ i. c.in_ok-ones-in-Inner.ensures i ∙ ap (λ n. put_at c.args.entry.id c.args.entry.number (number_in (c.args.height - 1) n) i) c.deref-then-bit_of.ensures)

pub returns-in_ok-with_entry-in-Leaf : goal.returns-in_ok-with_entry-in-Leaf
returns-in_ok-with_entry-in-Leaf t c =
    IfOk-weaker c.build.result _ _ (λ n is j.
    is j
    ∙ c.in_ok-with_entry-in-Leaf.ensures j
    ∙ put-alike c.args.entry.id c.args.entry.number (first c.deref.result.now) (number_in c.args.height c.args.node.now) j (ap (λ es. first es j) c.deref.ensures.value
    ∙ sym (number-leaf c.args.height c.args.node.now c.in-Leaf.entries j c.in-Leaf.is))) c.build.ensures

pub returns-then-height-eq0 : goal.returns-then-height-eq0
returns-then-height-eq0 t c =
    IfOk-weaker c.build-then-height-eq0.result _ _ (λ n is j.
    is j
    ∙ c.in_ok-with_entry-in-Inner.ensures j
    ∙ put-alike c.args.entry.id c.args.entry.number (first []) (number_in c.args.height c.args.node.now) j (sym (number-lowest c.args.height c.args.node.now c.in-Inner.zeros c.in-Inner.ones j c.if-height-eq0.true c.in-Inner.is))) c.build-then-height-eq0.ensures

pub returns-in_ok-new-in-Inner-2 : goal.returns-in_ok-new-in-Inner-2
returns-in_ok-new-in-Inner-2 t c j =
    let high : c.args.height ≡ suc (c.args.height - 1) = omega arith in
    number-put-zero (c.args.height - 1) c.args.height c.args.node.now c.in_ok-new-in-Inner-2.field-0.value c.in-Inner.zeros c.in-Inner.ones c.in_ok-zeros-in-Inner-2.zeros c.in_ok-ones-in-Inner-2.ones c.args.entry.id c.args.entry.number j high c.in-Inner.is c.in_ok-new-in-Inner-2.ensures.ok (sym c.bit_of.ensures ∙ c.if-bit_of.false) c.in_ok-ones-in-Inner-2.ensures (λ i. c.in_ok-zeros-in-Inner-2.ensures i ∙ ap (λ n. put_at c.args.entry.id c.args.entry.number (number_in (c.args.height - 1) n) i) c.deref-in-Inner.ensures)
