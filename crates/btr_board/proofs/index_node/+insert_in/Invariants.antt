use Rattle.btr_board.proofs.index_node.+insert_in.Given as goal

abbrev pub decreases-insert_in : goal.decreases-insert_in
decreases-insert_in l = l.height
