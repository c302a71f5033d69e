use Rattle.std.proofs.Common.{◌≡◌, take}
use Rattle.btr_roll.specs.Roll.{reads_of_versions}
use Rattle.btr_streams.proofs.restoring.restored_reads.Given as goal

-- The reads so far are those of the earlier versions.
abbrev pub invariant-loop-version : goal.invariant-loop-version
invariant-loop-version l = l.reads ≡ reads_of_versions (take l.version-index l.versions)
