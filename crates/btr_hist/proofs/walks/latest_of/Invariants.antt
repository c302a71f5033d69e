use Rattle.std.proofs.Common.{◌≡◌, ◌+◌, ◌≤◌, drop}
use Rattle.btr_hist.specs.History.{latest}
use Rattle.btr_hist.proofs.walks.latest_of.Given as goal

abbrev pub invariant-loop-entry : goal.invariant-loop-entry
invariant-loop-entry l = record {
  counted : l.count + latest (drop l.entry-index l.entries) l.stream ≡ latest l.entries l.stream;
  few : l.count ≤ l.entry-index;
}
