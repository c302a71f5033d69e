use Rattle.std.specs.Prelude.{[], take}
use Rattle.btr_hist.specs.History.{commits}
use Rattle.btr_hist.proofs.HistoryLemmas.{copies-replay}
use Rattle.btr_hist.proofs.laws.versions_hold_what_was_put_in.Goals as goal

pub returns : goal.returns
returns c h stream version p = copies-replay p [] (take version (commits h stream))
