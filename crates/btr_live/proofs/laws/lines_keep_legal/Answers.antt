-- The law is a lemma by induction over the lines.
use Rattle.btr_live.proofs.Legality.{lines_legal}
use Rattle.btr_live.proofs.laws.lines_keep_legal.Goals as goal

pub returns : goal.returns
returns c = lines_legal
