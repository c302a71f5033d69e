use Rattle.std.proofs.Common.{◌≡◌, drop}
use Rattle.std.specs.Prelude.{nat_eq}
use Rattle.std.specs.List.{list_any}
use Rattle.btr_hist.specs.History.{ids}
use Rattle.btr_hist.proofs.walks.has_id.Given as goal

abbrev pub invariant-loop-entry : goal.invariant-loop-entry
invariant-loop-entry l = list_any (nat_eq l.id) (ids (drop l.entry-index l.entries)) ≡ list_any (nat_eq l.id) (ids l.entries)
