use Rattle.std.proofs.Common.{◌∙◌, ap}
use Rattle.btr_tree.specs.NewNodes.{slots_of_node}
use Rattle.btr_tree.proofs.NewNodeLemmas.{slots-of_none}
use Rattle.btr_tree.proofs.new_node.NewSlots.none.Goals as goal

pub returns : goal.returns
returns c = ap slots_of_node c.none.ensures ∙ slots-of_none
