use Rattle.btr_verify.proofs.finding.+find_below.Given as goal

abbrev pub decreases-find_below : goal.decreases-find_below
decreases-find_below over l = l.at.height
