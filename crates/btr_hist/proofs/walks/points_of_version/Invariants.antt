use Rattle.std.proofs.Common.{◌≡◌, take, drop}
use Rattle.btr_hist.specs.History.{replay, commits, bag}
use Rattle.btr_hist.proofs.walks.points_of_version.Given as goal

abbrev pub invariant-loop-entry : goal.invariant-loop-entry
invariant-loop-entry l = replay l.bag (take l.left (commits (drop l.entry-index l.entries) l.stream)) ≡ bag l.entries l.stream l.version
