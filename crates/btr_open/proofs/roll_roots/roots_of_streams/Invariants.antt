use Rattle.std.proofs.Common.{◌≡◌, take}
use Rattle.btr_open.specs.Checkpoint.{roots_among}
use Rattle.btr_open.proofs.roll_roots.roots_of_streams.Given as goal

-- The roots so far are those of the earlier streams.
abbrev pub invariant-loop-stream : goal.invariant-loop-stream
invariant-loop-stream l = l.roots.items ≡ roots_among l.limit (take l.stream-index l.streams)
