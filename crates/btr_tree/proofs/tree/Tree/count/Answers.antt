use Rattle.std.proofs.Common.{◌∙◌, ap}
use Rattle.btr_tree.specs.Root.{TreeValue}
use Rattle.btr_tree.proofs.RootLemmas.{tree-count}
use Rattle.btr_tree.proofs.tree.Tree.count.Goals as goal

pub returns : goal.returns
returns c h tree =
    ap (λ u. u.count) c.agg.view_is ∙ ap (λ (t : TreeValue). t.total.count) c.self.view_is ∙ tree-count h c.args.self.now tree
