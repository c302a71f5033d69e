use Rattle.btr_hist.proofs.CellLemmas.{windows-whole}
use Rattle.btr_hist.proofs.laws.windows_are_whole.Goals as goal

pub returns : goal.returns
returns c p r t low is inside = windows-whole p r t low is inside
