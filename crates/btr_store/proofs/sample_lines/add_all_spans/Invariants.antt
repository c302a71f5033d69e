-- The loop over the streams.
use Rattle.std.proofs.Common.{flat_map, take}
use Rattle.btr_store.specs.Transcript.{AddsLines}
use Rattle.btr_store.specs.LoadLines.{stream_spans}
use Rattle.btr_store.proofs.sample_lines.add_all_spans.Given as goal

-- the streams up to here have their lines
abbrev pub invariant-loop-stream : goal.invariant-loop-stream
invariant-loop-stream l = AddsLines (flat_map stream_spans (take l.stream-index l.streams)) l.fn.transcript l.transcript
