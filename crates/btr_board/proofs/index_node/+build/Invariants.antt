use Rattle.btr_board.proofs.index_node.+build.Given as goal

abbrev pub decreases-build : goal.decreases-build
decreases-build l = l.height
