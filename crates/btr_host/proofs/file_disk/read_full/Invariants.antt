use Rattle.std.proofs.Common.{length, ◌-◌, ◌≤◌}
use Rattle.btr_host.proofs.file_disk.read_full.Given as goal

abbrev pub invariant-loop-at : goal.invariant-loop-at
invariant-loop-at l = l.at ≤ length l.buf

abbrev pub decreases-loop-at : goal.decreases-loop-at
decreases-loop-at l = length l.initial.buf - l.at
