use Rattle.std.proofs.Common.{◌≡◌, ◌++◌, ◌-◌, ◌<◌, ◌≤◌, length, vec_len}
use Rattle.btr_io.proofs.reading.read_all.Given as goal

abbrev pub invariant-loop-bytes : goal.invariant-loop-bytes
invariant-loop-bytes g l = record {
  kept : g.S.Source.is_observable → l.bytes.items ++ g.S.Source.left l.source ≡ g.S.Source.left l.initial.source;
  within : length l.bytes.items ≤ l.limit;
  piece : 0 < vec_len l.piece;
  faults : g.S.Source.faults l.initial.source ≤ g.S.Source.faults l.source;
}

abbrev pub decreases-loop-bytes : goal.decreases-loop-bytes
decreases-loop-bytes g l = l.limit - length l.bytes.items
