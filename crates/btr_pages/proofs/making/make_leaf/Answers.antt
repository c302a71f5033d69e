use Rattle.std.proofs.Common.{◌≡◌, ◌<◌, ◌≤◌, length, sym, subst}
use Rattle.btr_base.specs.Bag.{within}
use Rattle.btr_tree.specs.Change.{end_of}
use Rattle.btr_pages.proofs.LeafLemmas.{leaf-sorted, leaf-within, leaf-made_of}
use Rattle.btr_pages.proofs.making.make_leaf.Goals as goal

pub leaf-requires-clause-some : goal.leaf-requires-clause-some
leaf-requires-clause-some g c =
    let same = leaf-sorted c.args.span c.args.points.now c.in_ok-from_slice.field-0.items c.from_points-bag.result c.requires c.in_ok-from_slice.ensures.items c.from_points-bag.ensures in
    subst (λ ps. 0 < length ps) (sym same) c.requires.some

pub leaf-requires-clause-few : goal.leaf-requires-clause-few
leaf-requires-clause-few g c =
    let same = leaf-sorted c.args.span c.args.points.now c.in_ok-from_slice.field-0.items c.from_points-bag.result c.requires c.in_ok-from_slice.ensures.items c.from_points-bag.ensures in
    subst (λ ps. length ps ≤ 252) (sym same) c.requires.few

pub leaf-requires-clause-inside : goal.leaf-requires-clause-inside
leaf-requires-clause-inside g c =
    let same = leaf-sorted c.args.span c.args.points.now c.in_ok-from_slice.field-0.items c.from_points-bag.result c.requires c.in_ok-from_slice.ensures.items c.from_points-bag.ensures in
    subst (λ ps. within c.args.span.start (end_of c.args.span) ps ≡ ps) (sym same) (leaf-within c.args.span c.args.points.now c.requires)

pub returns : goal.returns
returns g c =
    let same = leaf-sorted c.args.span c.args.points.now c.in_ok-from_slice.field-0.items c.from_points-bag.result c.requires c.in_ok-from_slice.ensures.items c.from_points-bag.ensures in
    leaf-made_of c.leaf.result c.args.block c.args.version c.args.span c.args.points.now c.from_points-bag.result same c.leaf.ensures.leaf c.leaf.ensures.opened
