use Rattle.std.proofs.Common.{◌≡◌, ◌++◌, List, length}
use Rattle.std.specs.Vec.Iter.{into_iter_items, into_iter_len}
use Rattle.btr_hist.specs.declared.entry.Entry.{Entry}
use Rattle.btr_streams.specs.Snapshot.{IsSnapshotOf}
use Rattle.btr_load.specs.Plan.{ArePlanned, AreReady}
use Rattle.btr_load.proofs.plan.planned.Given as goal

abbrev pub invariant-loop-of_stream : goal.invariant-loop-of_stream
invariant-loop-of_stream l = record {
  rest : l.yielded ++ into_iter_items l.of_stream-iterator ≡ into_iter_items l.initial.of_stream-iterator;
  long : into_iter_len l.of_stream-iterator ≡ length (into_iter_items l.of_stream-iterator);
  ready : AreReady l.streams.items;
  planned : (h : List Entry) → IsSnapshotOf h l.snapshot → ArePlanned h l.batch l.yielded l.streams.items;
}
