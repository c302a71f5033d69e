use Rattle.std.proofs.Common.{◌∙◌, ap, sym, option_map}
use Rattle.std.specs.declared.sync.Arc.{Arc}
use Rattle.std.specs.declared.alloc.Global.{Global}
use Rattle.btr_tree.specs.declared.node.NodeData.{NodeData}
use Rattle.btr_tree.specs.NewNodes.{points_of_node}
use Rattle.btr_tree.proofs.NewNodeLemmas.{points-of_none, points-of_leaf, points-of_inner}
use Rattle.btr_tree.proofs.new_node.NewPoints.as_slice.Goals as goal

pub returns-in-None : goal.returns-in-None
returns-in-None c =
    sym (sym c.self.view_is ∙ ap (λ o. points_of_node (option_map (λ (a : Arc NodeData Global). a.value) o)) c.in-None.is ∙ points-of_none)

pub returns-in-Leaf : goal.returns-in-Leaf
returns-in-Leaf c =
    c.deref-in-Leaf.ensures.value
    ∙ sym (sym c.self.view_is ∙ ap (λ o. points_of_node (option_map (λ (a : Arc NodeData Global). a.value) o)) c.in-Some.is ∙ points-of_leaf c.in-Some.node.value c.in-Leaf.version c.in-Leaf.points (sym c.deref.ensures ∙ c.in-Leaf.is))

pub returns-in-Inner : goal.returns-in-Inner
returns-in-Inner c =
    sym (sym c.self.view_is ∙ ap (λ o. points_of_node (option_map (λ (a : Arc NodeData Global). a.value) o)) c.in-Some.is ∙ points-of_inner c.in-Some.node.value c.in-Inner.version c.in-Inner.slots (sym c.deref.ensures ∙ c.in-Inner.is))
