use Rattle.std.proofs.Common.{◌≡◌, ◌-◌, ◌∙◌, suc, Some, ap, sym, arith}
use Rattle.std.specs.Option.{option_map, option_copied}
use Rattle.btr_board.specs.Places.{value_at, link_of, found}
use Rattle.btr_board.proofs.ValueLemmas.{link-at, item-at}
use Rattle.btr_board.proofs.FoundLemmas.{found-leaf, found-inner}
use Rattle.btr_board.proofs.trail_node.+get_at.Goals as goal

pub returns-in-None : goal.returns-in-None
returns-in-None g t c =
    let none = item-at c.items.result.now c.args.place c.get.result c.get.ensures.lookup in
    ap (λ r. option_map (λ a. a.value) (option_copied r)) (sym c.in-None.is)
    ∙ ap (option_map (λ a. a.value)) none
    ∙ ap (λ xs. value_at xs c.args.place) c.items.ensures
    ∙ sym (found-leaf c.args.height (link_of c.args.root) c.args.place c.if-height-eq0.true)

pub returns-in-Some : goal.returns-in-Some
returns-in-Some g t c =
    let some = item-at c.items.result.now c.args.place c.get.result c.get.ensures.lookup in
    ap Some c.deref.ensures
    ∙ ap (λ r. option_map (λ a. a.value) (option_copied r)) (sym c.in-Some.is)
    ∙ ap (option_map (λ a. a.value)) some
    ∙ ap (λ xs. value_at xs c.args.place) c.items.ensures
    ∙ sym (found-leaf c.args.height (link_of c.args.root) c.args.place c.if-height-eq0.true)

pub returns : goal.returns
returns g t c =
    let below : c.args.height ≡ suc (c.args.height - 1) = omega arith in
    let link = link-at c.children.result.now c.step-at.result.0 c.get-2.result (item-at c.children.result.now c.step-at.result.0 c.get-2.result c.get-2.ensures.lookup) in
    c.get_at.ensures
    ∙ ap (λ o. found (c.args.height - 1) o c.step-at.result.1) link
    ∙ sym (found-inner (c.args.height - 1) c.args.height (link_of c.args.root) c.children.result.now c.args.place c.step-at.result.0 c.step-at.result.1 below c.children.ensures (sym c.step-at.ensures.child) (sym c.step-at.ensures.rest))
