use Rattle.std.proofs.Common.{◌≡◌, map, take}
use Rattle.btr_open.specs.Shelf.{row_on}
use Rattle.btr_open.proofs.shelf.stream_rows.Given as goal

-- The rows so far are those of the earlier streams.
abbrev pub invariant-loop-stream : goal.invariant-loop-stream
invariant-loop-stream l = l.rows.items ≡ map row_on (take l.stream-index l.streams)
