use Rattle.btr_tree_tests.proofs.tree_tests.+derive_nodes.Given as goal

abbrev pub decreases-derive_nodes : goal.decreases-derive_nodes
decreases-derive_nodes l = l.part.height
