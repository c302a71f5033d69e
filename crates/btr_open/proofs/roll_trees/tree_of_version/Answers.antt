use Rattle.std.proofs.Common.{refl, arith, ◌<◌}
use Rattle.btr_open.proofs.StartTrees.{whole-root}
use Rattle.btr_open.proofs.roll_trees.tree_of_version.Goals as goal

pub returns-clause-tree : goal.returns-clause-tree
returns-clause-tree c =
    let some : 0 < c.args.root = omega (arith, c.if-root-eq0.false) in
    whole-root c.args.nodes.now c.args.root c.in_ok-tree.field-0 some (c.if-not-is_root.ensures.whole refl) (c.in_ok-tree.ensures.is some) (c.in_ok-tree.ensures.part some)
