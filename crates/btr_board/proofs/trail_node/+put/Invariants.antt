use Rattle.btr_board.proofs.trail_node.+put.Given as goal

abbrev pub decreases-put : goal.decreases-put
decreases-put g l = l.height
