use Rattle.std.proofs.Common.{◌≡◌, ◌≤◌, drop}
use Rattle.btr_hist.specs.History.{kinds}
use Rattle.btr_hist.specs.Legal.{first_some, held_from}
use Rattle.btr_hist.proofs.retiring.held.Given as goal

abbrev pub invariant-loop-entry : goal.invariant-loop-entry
invariant-loop-entry l = record {
  searched : first_some (held_from l.entries l.stream l.first l.output (kinds (drop l.entry-index l.entries))) ≡ first_some (held_from l.entries l.stream l.first 0 (kinds l.entries));
  few : l.output ≤ l.entry-index;
}
