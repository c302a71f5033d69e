use Rattle.std.proofs.Common.{◌≡◌, drop}
use Rattle.std.specs.List.{filter_map}
use Rattle.btr_hist.specs.History.{first_of, last_or, earliest}
use Rattle.btr_hist.proofs.walks.earliest_of.Given as goal

abbrev pub invariant-loop-entry : goal.invariant-loop-entry
invariant-loop-entry l = last_or l.first (filter_map (first_of l.stream) (drop l.entry-index l.entries)) ≡ earliest l.entries l.stream
