use Rattle.std.proofs.Common.{◌≡◌}
use Rattle.btr_log.specs.Log.{log_blocks}
use Rattle.btr_hall_tests.proofs.hall_tests.commits_on.Given as goal

abbrev pub invariant-loop-number : goal.invariant-loop-number
invariant-loop-number l = log_blocks l.log ≡ l.blocks
