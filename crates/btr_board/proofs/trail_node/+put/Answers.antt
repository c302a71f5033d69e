use Rattle.std.proofs.Common.{◌≡◌, ◌-◌, ◌∙◌, suc, Some, is_some, ap, arith}
use Rattle.btr_board.specs.Put.{put_at}
use Rattle.btr_board.specs.Places.{link_of, found}
use Rattle.btr_board.proofs.ValueLemmas.{link-at, item-at}
use Rattle.btr_board.proofs.FoundLemmas.{filled-items, leaf-put, filled-child, filled-children, found-put, inner-children}
use Rattle.btr_board.proofs.trail_node.+put.Goals as goal

pub with-requires : goal.with-requires
with-requires g t c =
    filled-items c.args.height (link_of c.args.root) c.items.result.now c.args.place c.if-height-eq0.true c.items.ensures c.requires.filled

pub returns-then-height-eq0 : goal.returns-then-height-eq0
returns-then-height-eq0 g t c j =
    leaf-put c.args.height (link_of c.args.root) c.in_ok-new.field-0.value c.items.result.now c.in_ok-items.items c.args.place c.args.item c.in_ok-item.item.value j c.if-height-eq0.true c.items.ensures c.in_ok-new.ensures.ok c.in_ok-item.ensures.ok c.in_ok-items.ensures

pub put-requires : goal.put-requires
put-requires g t c κs lives =
    let below : c.args.height ≡ suc (c.args.height - 1) = omega arith in
    let link = link-at c.children-children.result.now c.step-at.result.0 c.get.result (item-at c.children-children.result.now c.step-at.result.0 c.get.result c.get.ensures.lookup) in
    let filled = filled-child (c.args.height - 1) c.args.height (link_of c.args.root) c.children-children.result.now c.args.place c.step-at.result.0 c.step-at.result.1 below c.children-children.ensures c.step-at.ensures.child c.step-at.ensures.rest c.requires.filled in
    (omega arith, (lives, (omega arith, λ i lt. ap (λ o. is_some (found (c.args.height - 1) o i)) link ∙ filled i lt)))

pub with-requires-2 : goal.with-requires-2
with-requires-2 g t c =
    let below : c.args.height ≡ suc (c.args.height - 1) = omega arith in
    filled-children (c.args.height - 1) c.args.height (link_of c.args.root) c.children-children.result.now c.args.place c.step-at.result.0 below c.children-children.ensures c.step-at.ensures.child c.requires.filled

pub returns : goal.returns
returns g t c j =
    let below : c.args.height ≡ suc (c.args.height - 1) = omega arith in
    let link = link-at c.children-children.result.now c.step-at.result.0 c.get.result (item-at c.children-children.result.now c.step-at.result.0 c.get.result c.get.ensures.lookup) in
    found-put (c.args.height - 1) c.args.height (link_of c.args.root) (Some c.in_ok-new-2.field-0.value) c.children-children.result.now c.in_ok-children.children.items c.args.place c.step-at.result.0 c.step-at.result.1 c.in_ok-child.child.value c.args.item below c.children-children.ensures (inner-children c.in_ok-new-2.field-0.value c.in_ok-children.children c.in_ok-new-2.ensures.ok) c.step-at.ensures.child c.step-at.ensures.rest c.in_ok-children.ensures (λ i. c.in_ok-child.ensures i ∙ ap (λ o. put_at c.step-at.result.1 c.args.item (found (c.args.height - 1) o) i) link) j
