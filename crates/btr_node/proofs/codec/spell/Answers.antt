use Rattle.std.proofs.Common.{◌≡◌, ◌++◌, sym, ap, ◌∙◌, codes, rules, arith}
use Rattle.std.specs.List.{flat_map}
use Rattle.btr_base.specs.declared.point.Point.{Point}
use Rattle.btr_node.specs.declared.page.PageHeader.{PageHeader}
use Rattle.btr_node.specs.declared.page.NodePage.{NodePage}
use Rattle.btr_node.specs.declared.page.NodePage.TheVariants.{Leaf, Inner}
use Rattle.btr_node.specs.Page.{header, header_bytes, slot_bytes, zeros, page_bytes, places_with}
use Rattle.btr_node.proofs.Filled.{all-places}
use Rattle.btr_node.proofs.codec.spell.Goals as goal

pub returns-in-Leaf : goal.returns-in-Leaf
returns-in-Leaf c =
    let page : NodePage = Leaf c.in-Leaf.start c.in-Leaf.height c.in-Leaf.stream c.in-Leaf.version c.in-Leaf.count c.in-Leaf.points in
    let is : c.args.page.now ≡ page = c.in-Leaf.is in
    let fields = c.header-header.ensures ∙ ap header is in
    c.fill_leaf.ensures
    ∙ ap (λ (f : PageHeader). page_bytes (Leaf f.start f.height f.stream f.version f.count (places_with c.in-Leaf.points))) fields
    ∙ ap (λ l. page_bytes (Leaf c.in-Leaf.start c.in-Leaf.height c.in-Leaf.stream c.in-Leaf.version c.in-Leaf.count l)) (all-places c.in-Leaf.points (search rules))
    ∙ sym (ap page_bytes is)

pub returns-in-Inner : goal.returns-in-Inner
unfolding page_bytes
returns-in-Inner c =
    let page : NodePage = Inner c.in-Inner.start c.in-Inner.height c.in-Inner.stream c.in-Inner.version c.in-Inner.count c.in-Inner.slots in
    let is : c.args.page.now ≡ page = c.in-Inner.is in
    let fields = c.header-header.ensures ∙ ap header is in
    let body = flat_map slot_bytes c.in-Inner.slots in
    c.put_inner_end.ensures
    ∙ ap (λ l. l ++ zeros 448) (c.put_slots.ensures ∙ ap (λ l. l ++ body) (c.put_inner_header.ensures ∙ ap (λ f. codes "BTR-NODE" ++ header_bytes f) fields))
    ∙ sym (ap page_bytes is)
