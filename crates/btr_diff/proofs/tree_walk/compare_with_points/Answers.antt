use Rattle.std.proofs.Common.{sym, subst}
use Rattle.btr_base.specs.Point.{AreInDomain}
use Rattle.btr_diff.proofs.Found.{found-leaf, safe-leaf}
use Rattle.btr_diff.proofs.Nodes.{safe-points}
use Rattle.btr_diff.proofs.Newer.{leaf-some, older-visited}
use Rattle.btr_diff.proofs.tree_walk.compare_with_points.Goals as goal

pub compare_points-requires-in-Leaf-clause-old_domain : goal.compare_points-requires-in-Leaf-clause-old_domain
compare_points-requires-in-Leaf-clause-old_domain g c =
    let src = g.S.NodeSource in
    let span = c.args.task.span in
    let leaf = safe-leaf src.leaf_points src.inner_slot src.inner_place span c.in-Ok.found (src.IsSafe (src.told c.args.state.now)) src.count _ c.in-Leaf.version c.in-Leaf.points c.in-Leaf.is c.in-Ok.ensures.safe in
    subst AreInDomain (sym c.points.ensures) (safe-points _ span (src.leaf_points c.in-Leaf.points) c.requires.task.1 leaf).1

pub returns-in_err-compare_points-in-Leaf-clause-older : goal.returns-in_err-compare_points-in-Leaf-clause-older
returns-in_err-compare_points-in-Leaf-clause-older g c =
    let src = g.S.NodeSource in
    let span = c.args.task.span in
    let told = src.told c.args.state.now in
    let counts = c.in-Ok.ensures.counts in
    older-visited (src.IsAt told) span (src.site c.args.old) c.args.findings.now.older c.visit.new.steps _ (λ above h holds. leaf-some span above h c.in-Leaf.version (src.leaf_points c.in-Leaf.points) (found-leaf src.leaf_points src.inner_slot src.inner_place span c.in-Ok.found (src.IsAt told) above h c.in-Leaf.version c.in-Leaf.points c.in-Leaf.is (c.in-Ok.ensures.found above h holds))) counts.never_falls counts.at_most

pub returns-in_ok-compare_points-in-Leaf-clause-older : goal.returns-in_ok-compare_points-in-Leaf-clause-older
returns-in_ok-compare_points-in-Leaf-clause-older g c =
    let src = g.S.NodeSource in
    let span = c.args.task.span in
    let told = src.told c.args.state.now in
    let counts = c.in-Ok.ensures.counts in
    older-visited (src.IsAt told) span (src.site c.args.old) c.args.findings.now.older c.visit.new.steps _ (λ above h holds. leaf-some span above h c.in-Leaf.version (src.leaf_points c.in-Leaf.points) (found-leaf src.leaf_points src.inner_slot src.inner_place span c.in-Ok.found (src.IsAt told) above h c.in-Leaf.version c.in-Leaf.points c.in-Leaf.is (c.in-Ok.ensures.found above h holds))) counts.never_falls counts.at_most
