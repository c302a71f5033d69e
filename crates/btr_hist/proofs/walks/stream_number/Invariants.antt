use Rattle.std.proofs.Common.{◌≡◌, ◌≤◌, drop}
use Rattle.std.specs.Prelude.{nat_eq}
use Rattle.std.specs.List.{position_from}
use Rattle.btr_hist.specs.History.{ids, stream_of}
use Rattle.btr_hist.proofs.walks.stream_number.Given as goal

abbrev pub invariant-loop-entry : goal.invariant-loop-entry
invariant-loop-entry l = record {
  searched : position_from (nat_eq l.id) l.number (ids (drop l.entry-index l.entries)) ≡ stream_of l.entries l.id;
  few : l.number ≤ l.entry-index;
}
