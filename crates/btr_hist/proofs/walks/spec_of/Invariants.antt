use Rattle.std.proofs.Common.{◌≡◌, drop, get_or, None}
use Rattle.btr_hist.specs.History.{kinds, spec_of}
use Rattle.btr_hist.proofs.walks.spec_of.Given as goal

abbrev pub invariant-loop-entry : goal.invariant-loop-entry
invariant-loop-entry l = get_or (kinds (drop l.entry-index l.entries)) l.left None ≡ spec_of l.entries l.stream
