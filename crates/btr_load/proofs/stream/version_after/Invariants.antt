use Rattle.std.proofs.Common.{◌≡◌, drop}
use Rattle.btr_load.specs.Batches.{last_version}
use Rattle.btr_load.proofs.stream.version_after.Given as goal

abbrev pub invariant-loop-result : goal.invariant-loop-result
invariant-loop-result l = last_version l.version (drop l.result-index l.results) ≡ last_version l.fn.version l.results
