use Rattle.std.proofs.Common.{◌≡◌, List, take, drop, length}
use Rattle.btr_hist.specs.declared.entry.Entry.{Entry}
use Rattle.btr_streams.specs.Snapshot.{IsSnapshotOf}
use Rattle.btr_hall.specs.Session.{IsAlone}
use Rattle.btr_jobs.specs.Jobs.{IsAt, Does}
use Rattle.btr_load.specs.Plan.{AreStreamsSettled}
use Rattle.btr_load.proofs.creating.create_streams.Given as goal

abbrev pub invariant-loop-stream : goal.invariant-loop-stream
invariant-loop-stream g l = record {
  at : IsAt l.hall l.session;
  alone : IsAlone l.session;
  long : length l.streams ≡ length l.fn.streams;
  rest : drop l.stream-index l.streams ≡ drop l.stream-index l.fn.streams;
  does : Does l.hall l.fn.session l.session (λ start log low own. (h : List Entry) → IsSnapshotOf h l.snapshot
      → AreStreamsSettled start log h low (take l.stream-index l.fn.streams) (take l.stream-index l.streams) own log.history);
}
