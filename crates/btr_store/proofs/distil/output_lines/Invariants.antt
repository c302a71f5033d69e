-- The loop over the outputs of a report.
use Rattle.std.proofs.Common.{List, map, take}
use Rattle.btr_hist.specs.declared.entry.Entry.{Entry}
use Rattle.btr_streams.specs.Snapshot.{IsSnapshotOf}
use Rattle.btr_store.specs.Transcript.{SaysLines}
use Rattle.btr_store.specs.Distil.{SaysOutputs, output_line}
use Rattle.btr_store.proofs.distil.output_lines.Given as goal

-- the outputs up to here have their lines
abbrev pub invariant-loop-line : goal.invariant-loop-line
invariant-loop-line l = record {
  some : SaysOutputs (take l.line-index l.line-items) l.transcript;
  says : (h : List Entry) → IsSnapshotOf h l.fn.snapshot → SaysLines (map (output_line h) (take l.line-index l.line-items)) l.transcript;
}
