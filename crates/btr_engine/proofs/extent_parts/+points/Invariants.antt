use Rattle.btr_engine.proofs.extent_parts.+points.Given as goal

abbrev pub decreases-points_in : goal.decreases-points_in
decreases-points_in g l = l.threads

abbrev pub decreases-front : goal.decreases-front
decreases-front g l = l.half

abbrev pub decreases-back : goal.decreases-back
decreases-back g l = l.rest
