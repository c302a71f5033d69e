use Rattle.std.proofs.Common.{drop, ◌↔◌}
use Rattle.btr_hist.specs.History.{nothing_read}
use Rattle.btr_roll.specs.Roll.{ReadInTurn, reads_of_versions}
use Rattle.btr_roll.proofs.table.read_in_turn.Given as goal

-- All versions are in turn exactly if those that are left are, after the reads that were read last.
abbrev pub invariant-loop-version : goal.invariant-loop-version
invariant-loop-version l = ReadInTurn l.streams l.spec (nothing_read l.spec) (reads_of_versions l.versions) ↔ ReadInTurn l.streams l.spec l.old (reads_of_versions (drop l.version-index l.versions))
