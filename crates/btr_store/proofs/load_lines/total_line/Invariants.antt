-- The loop over the streams.
use Rattle.std.proofs.Common.{◌≡◌, ◌+◌, ◌-◌, sum, map, take, length}
use Rattle.btr_store.specs.LoadLines.{capped, good_in}
use Rattle.btr_store.proofs.load_lines.total_line.Given as goal

abbrev pub invariant-loop-stream : goal.invariant-loop-stream
invariant-loop-stream l = record {
  good : l.good ≡ capped (sum (map good_in (take l.stream-index l.stream-items)));
  refused : l.refused
      ≡ capped (length l.fn.loaded.refused + sum (map (λ s. length s.rows.points - good_in s) (take l.stream-index l.stream-items)));
}
