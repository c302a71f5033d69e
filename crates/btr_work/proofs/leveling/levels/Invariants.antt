use Rattle.std.proofs.Common.{◌≡◌, ◌≤◌, List, [], map, take, length}
use Rattle.btr_hist.specs.declared.entry.Entry.{Entry}
use Rattle.btr_hist.specs.History.{kinds}
use Rattle.btr_streams.specs.Snapshot.{IsSnapshotOf}
use Rattle.btr_work.specs.Levels.{levels_from, AreGroups}
use Rattle.btr_work.specs.Leveling.{AreAtMost}
use Rattle.btr_work.proofs.leveling.levels.Given as goal

-- The streams so far have these levels, and are in these groups.
abbrev pub invariant-loop-stream : goal.invariant-loop-stream
invariant-loop-stream l = record {
  groups : AreGroups l.found.items (map (λ v. v.items) l.groups.items);
  counted : length l.found.items ≡ l.stream;
  below : AreAtMost l.found.items (length l.groups.items);
  few : length l.groups.items ≤ l.stream;
  found : (h : List Entry) → IsSnapshotOf h l.snapshot → l.found.items ≡ levels_from [] (take l.stream (kinds h));
}
