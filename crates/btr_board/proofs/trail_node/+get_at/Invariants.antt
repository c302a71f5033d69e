use Rattle.btr_board.proofs.trail_node.+get_at.Given as goal

abbrev pub decreases-get_at : goal.decreases-get_at
decreases-get_at g l = l.height
