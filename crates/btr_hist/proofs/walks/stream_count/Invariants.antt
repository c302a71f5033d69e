use Rattle.std.proofs.Common.{◌≡◌, ◌+◌, ◌≤◌, drop, length}
use Rattle.btr_hist.specs.History.{ids}
use Rattle.btr_hist.proofs.walks.stream_count.Given as goal

abbrev pub invariant-loop-entry : goal.invariant-loop-entry
invariant-loop-entry l = record {
  counted : l.count + length (ids (drop l.entry-index l.entries)) ≡ length (ids l.entries);
  few : l.count ≤ l.entry-index;
}
