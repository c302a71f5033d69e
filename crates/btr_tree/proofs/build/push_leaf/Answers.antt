use Rattle.std.proofs.Common.{◌∙◌, ◌++◌, ◌∷◌, [], refl, ap}
use Rattle.btr_tree.specs.NewNodes.{points_of_node}
use Rattle.btr_tree.proofs.NewNodeLemmas.{new_node-by, points-of_leaf}
use Rattle.btr_tree.proofs.build.push_leaf.Goals as goal

pub returns-clause-nodes : goal.returns-clause-nodes
returns-clause-nodes g c =
    let points = c.in_ok-of.ensures ∙ ap points_of_node c.in_ok-link.ensures.node ∙ points-of_leaf _ c.args.numbering.version c.in_ok-points.points refl ∙ c.in_ok-points.ensures.items in
    c.in_ok-push.ensures.items
    ∙ ap (λ n. c.args.nodes.now.items ++ n ∷ []) (new_node-by c.args.span c.args.numbering.version c.args.numbering.version _ _ _ _ refl points c.none.ensures)
