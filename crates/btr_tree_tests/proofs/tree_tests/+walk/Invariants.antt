use Rattle.btr_tree_tests.proofs.tree_tests.+walk.Given as goal

abbrev pub decreases-walk : goal.decreases-walk
decreases-walk l = l.part.height
