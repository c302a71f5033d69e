use Rattle.btr_hist.proofs.RightLemmas.{distillate-allowed}
use Rattle.btr_hist.proofs.laws.distillates_are_allowed.Goals as goal

pub returns : goal.returns
returns c h stream change new legal is takes room = distillate-allowed h stream change new legal is takes room
