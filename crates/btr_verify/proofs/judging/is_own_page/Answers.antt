use Rattle.std.specs.Prelude.{◌≡◌, ◌↔◌, Bool, IsTrue, List, [], take, map}
use Rattle.std.proofs.Common.{refl, sym, ap, subst, ◌∙◌}
use Rattle.btr_base.specs.declared.point.Point.{Point}
use Rattle.btr_base.specs.Span.{SpanValue}
use Rattle.btr_tree.specs.declared.node.Slot.{Slot}
use Rattle.btr_node.specs.Page.{header, span_of_page}
use Rattle.btr_node.specs.declared.page.PageHeader.{PageHeader}
use Rattle.btr_node.specs.declared.page.NodePage.{NodePage}
use Rattle.btr_tree.specs.PageNodes.{node_of_page, slot_of_page}
use Rattle.btr_hist.specs.declared.entry.Entry.{Entry}
use Rattle.btr_streams.specs.Board.{HasVersion}
use Rattle.btr_verify.specs.Judged.{IsOwn}
use Rattle.btr_verify.specs.Same.{stored_node}
use Rattle.btr_verify.specs.Trees.{past_of}
use Rattle.btr_verify.specs.Judging.{HasPageVersion}
use Rattle.btr_verify.proofs.judging.is_own_page.Goals as goal

own-node : (h : List Entry) (page : NodePage) (f : PageHeader) (span : SpanValue) (points : List Point) (slots : List Slot) (r : Bool) → f ≡ header page → span ≡ span_of_page page → stored_node (span_of_page page) (header page).version points slots ≡ node_of_page page → (HasVersion h f.stream f.version → IsTrue r ↔ IsOwn (past_of h f.stream) (stored_node span f.version points slots)) → HasPageVersion h page → IsTrue r ↔ IsOwn (past_of h (header page).stream) (node_of_page page)
own-node h page f span points slots r is place node decides =
    let fields = subst (λ (g : PageHeader). HasVersion h g.stream g.version → IsTrue r ↔ IsOwn (past_of h g.stream) (stored_node span g.version points slots)) is decides in
    subst (λ n. HasPageVersion h page → IsTrue r ↔ IsOwn (past_of h (header page).stream) n) (ap (λ (s : SpanValue). stored_node s (header page).version points slots) place ∙ node) fields

pub returns-in-Leaf : goal.returns-in-Leaf
returns-in-Leaf c h of =
    let l = c.in-Leaf in
    let page = c.args.page.now in
    let f = c.header-stream.result in
    let points = ap (λ (g : PageHeader). take g.count l.points) (c.header-stream.ensures) in
    let node = subst (λ p. stored_node (span_of_page p) (header p).version (take (header p).count l.points) [] ≡ node_of_page p) (sym l.is) refl in
    own-node h page f c.span-span.result (take f.count l.points) [] c.is_own_node.result c.header-stream.ensures c.span-span.ensures (ap (λ ps. stored_node (span_of_page page) (header page).version ps []) points ∙ node) (c.is_own_node.ensures h of)

pub returns-in-Inner : goal.returns-in-Inner
returns-in-Inner c h of =
    let l = c.in-Inner in
    let page = c.args.page.now in
    let f = c.header-stream.result in
    let slots = c.tree_slots-slots.result in
    let node = subst (λ p. stored_node (span_of_page p) (header p).version [] (map slot_of_page l.slots) ≡ node_of_page p) (sym l.is) refl in
    own-node h page f c.span-span.result [] slots c.is_own_node-in-Inner.result c.header-stream.ensures c.span-span.ensures (ap (λ xs. stored_node (span_of_page page) (header page).version [] xs) c.tree_slots-slots.ensures ∙ node) (c.is_own_node-in-Inner.ensures h of)
