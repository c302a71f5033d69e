use Rattle.std.proofs.Common.{◌∙◌, ap}
use Rattle.btr_tree.specs.NewNodes.{points_of_node}
use Rattle.btr_tree.proofs.NewNodeLemmas.{points-of_none}
use Rattle.btr_tree.proofs.new_node.NewPoints.none.Goals as goal

pub returns : goal.returns
returns c = ap points_of_node c.none.ensures ∙ points-of_none
