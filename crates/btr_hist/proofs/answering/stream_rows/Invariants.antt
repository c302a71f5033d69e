use Rattle.std.proofs.Common.{◌≡◌, ◌≤◌, ◌++◌, drop}
use Rattle.btr_hist.specs.History.{ids}
use Rattle.btr_hist.specs.Answer.{rows_from}
use Rattle.btr_hist.proofs.answering.stream_rows.Given as goal

abbrev pub invariant-loop-entry : goal.invariant-loop-entry
invariant-loop-entry l = record {
  listed : l.rows.items ++ rows_from l.entries l.number (ids (drop l.entry-index l.entries)) ≡ rows_from l.entries 0 (ids l.entries);
  few : l.number ≤ l.entry-index;
}
