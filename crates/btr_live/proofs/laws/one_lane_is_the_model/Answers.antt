-- The law is a lemma by induction over the lines of the lane.
use Rattle.btr_live.proofs.OneLaneLemmas.{one_lane}
use Rattle.btr_live.proofs.laws.one_lane_is_the_model.Goals as goal

pub returns : goal.returns
returns c = one_lane
