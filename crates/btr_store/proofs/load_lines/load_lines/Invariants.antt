-- The loop over the streams.
use Rattle.std.proofs.Common.{List, ◌++◌, map, flat_map, take}
use Rattle.btr_store.specs.declared.load_lines.RefusedNumber.{RefusedNumber}
use Rattle.btr_store.specs.Transcript.{SaysLines}
use Rattle.btr_store.specs.LoadLines.{AreRefused, row_line, stream_lines}
use Rattle.btr_store.proofs.load_lines.load_lines.Given as goal

abbrev pub invariant-loop-stream : goal.invariant-loop-stream
invariant-loop-stream l = record {
  rows : List RefusedNumber;
  are : AreRefused l.fn.loaded rows;
  says : SaysLines (map row_line rows ++ flat_map stream_lines (take l.stream-index l.stream-items)) l.transcript;
}
