use Rattle.std.proofs.Common.{◌∙◌, ◌++◌, ◌∷◌, [], refl, ap}
use Rattle.btr_tree.specs.Slots.{linked}
use Rattle.btr_tree.proofs.NewNodeLemmas.{new_node-by, slots-of_made}
use Rattle.btr_tree.proofs.build.push_inner.Goals as goal

pub returns-clause-nodes : goal.returns-clause-nodes
returns-clause-nodes g c =
    c.in_ok-push.ensures.items
    ∙ ap (λ n. c.args.nodes.now.items ++ n ∷ []) (new_node-by c.args.span c.args.numbering.version c.args.numbering.version _ _ _ _ refl c.none.ensures (c.in_ok-of.ensures ∙ slots-of_made c.args.numbering.version c.args.slots (linked c.in_ok-link.link) c.in_ok-link.ensures.child))
