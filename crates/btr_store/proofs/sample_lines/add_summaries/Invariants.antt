-- The loop over the streams of a snapshot.
use Rattle.std.proofs.Common.{List, map}
use Rattle.std.specs.List.{AllByRecursion, range_with_len}
use Rattle.btr_hist.specs.declared.entry.Entry.{Entry}
use Rattle.btr_streams.specs.Snapshot.{IsSnapshotOf}
use Rattle.btr_store.specs.declared.report_line.ReportLine.{ReportLine}
use Rattle.btr_store.specs.Transcript.{AddsLines}
use Rattle.btr_store.specs.Streams.{AreStreams, id_of_stream}
use Rattle.btr_store.specs.SampleLines.{IsSummary, summary_line}
use Rattle.btr_store.proofs.sample_lines.add_summaries.Given as goal

-- the streams up to here have their lines
abbrev pub invariant-loop-stream : goal.invariant-loop-stream
invariant-loop-stream l = record {
  some : (said : List ReportLine) × AllByRecursion IsSummary said × AddsLines said l.fn.transcript l.transcript;
  says : (h : List Entry) → IsSnapshotOf h l.snapshot → AreStreams h l.streams
      → AddsLines (map (λ stream. summary_line h (id_of_stream h stream) stream) (range_with_len 0 l.stream)) l.fn.transcript l.transcript;
}
