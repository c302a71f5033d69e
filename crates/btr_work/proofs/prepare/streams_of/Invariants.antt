use Rattle.std.proofs.Common.{◌≡◌, ◌≤◌, List, length, take, map}
use Rattle.btr_hist.specs.declared.entry.Entry.{Entry}
use Rattle.btr_hist.specs.History.{kinds}
use Rattle.btr_streams.specs.Snapshot.{IsSnapshotOf}
use Rattle.btr_work.specs.Levels.{outputs_from}
use Rattle.btr_work.specs.Refreshing.{blank_line}
use Rattle.btr_work.proofs.prepare.streams_of.Given as goal

-- The streams so far have a result each, and the outputs among them a line each.
abbrev pub invariant-loop-stream : goal.invariant-loop-stream
invariant-loop-stream l = record {
  few : length l.lines.items ≤ l.stream;
  results : length l.results.items ≡ l.stream;
  lines : (h : List Entry) → IsSnapshotOf h l.snapshot → l.lines.items ≡ map blank_line (outputs_from 0 (take l.stream (kinds h)));
}
