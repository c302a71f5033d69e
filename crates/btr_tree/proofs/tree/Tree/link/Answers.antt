use Rattle.std.proofs.Common.{◌≤◌, length, sym, subst, arith}
use Rattle.btr_base.specs.declared.limits.TheConstants.{MAX_POINTS, FIRST}
use Rattle.btr_tree.specs.History.{bag}
use Rattle.btr_tree.specs.Nodes.{above_root}
use Rattle.btr_tree.specs.Shape.{IsChild}
use Rattle.btr_tree.proofs.RootLemmas.{root-points}
use Rattle.btr_tree.proofs.tree.Tree.link.Goals as goal

pub returns-clause-child : goal.returns-clause-child
returns-clause-child c h tree =
    subst (IsChild 10 FIRST above_root h) (sym (c.whole-agg.ensures.same h tree).0) tree.node

pub returns-clause-some : goal.returns-clause-some
returns-clause-some c =
    let h = c.whole-agg.ensures.some.0 in
    let tree = c.whole-agg.ensures.some.1 in
    let few = subst (λ b. length b ≤ MAX_POINTS) (sym (root-points (bag h) tree.times)) tree.few in
    record { above = above_root; commits = h; holds = tree.node; few = omega arith }
