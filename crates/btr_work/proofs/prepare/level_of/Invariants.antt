use Rattle.std.proofs.Common.{◌≡◌, take}
use Rattle.btr_work.specs.Refreshing.{outputs_in}
use Rattle.btr_work.proofs.prepare.level_of.Given as goal

abbrev pub invariant-loop-output : goal.invariant-loop-output
invariant-loop-output l = outputs_in l.level.jobs.items ≡ take l.output-index l.group
