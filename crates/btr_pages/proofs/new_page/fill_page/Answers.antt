use Rattle.std.specs.Prelude.{◌≡◌, length, take}
use Rattle.std.proofs.Common.{◌∙◌, ap, arith}
use Rattle.btr_tree.specs.NewNodes.{NewNodeValue}
use Rattle.btr_node.specs.Page.{page_bytes}
use Rattle.btr_pages.proofs.NewPageLemmas.{few-places, leaf-is}
use Rattle.btr_pages.proofs.new_page.fill_page.Goals as goal

pub fill_leaf-requires : goal.fill_leaf-requires
fill_leaf-requires c =
    record { few = few-places c.as_slice-points.result.now c.first_points.result.now c.first_points.ensures }

pub returns : goal.returns
returns c =
    let node : NewNodeValue = c.args.node.now in
    let points = ap (λ (n : NewNodeValue). n.points) c.node.view_is in
    let same = c.as_slice-points.ensures ∙ points in
    let many : length c.as_slice-points.result.now ≡ length node.points = ap length same in
    let slots = ap (λ (n : NewNodeValue). length n.slots) c.node.view_is in
    let none : length node.slots ≡ 0 = omega (arith, slots, c.if-len-gt0.false) in
    c.fill_leaf.ensures
    ∙ ap page_bytes (leaf-is c.args.stream node c.header_of-header-2.result (length c.as_slice-points.result.now) c.first_points.result.now c.header_of-header-2.ensures many (c.first_points.ensures ∙ ap (take 252) same) none)
