-- The loops over the rows that the reader refused, and over the streams.
use Rattle.std.proofs.Common.{◌≡◌, ◌++◌, map, flat_map, take}
use Rattle.btr_store.specs.LoadLines.{row_refusal, output_rows}
use Rattle.btr_store.proofs.load_lines.all_refused.Given as goal

abbrev pub invariant-loop-row : goal.invariant-loop-row
invariant-loop-row l = l.rows.items ≡ map row_refusal (take l.row-index l.row-items)

abbrev pub invariant-loop-stream : goal.invariant-loop-stream
invariant-loop-stream l = l.rows.items ≡ map row_refusal l.fn.loaded.refused ++ flat_map output_rows (take l.stream-index l.stream-items)
