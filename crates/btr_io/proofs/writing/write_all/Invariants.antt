use Rattle.std.proofs.Common.{◌≡◌, ◌++◌, ◌-◌, length, take}
use Rattle.btr_io.proofs.TakenBytes.{IsRest}
use Rattle.btr_io.proofs.writing.write_all.Given as goal

abbrev pub invariant-loop-rest : goal.invariant-loop-rest
invariant-loop-rest g l = record {
  is_rest : IsRest l.fn.bytes l.rest;
  written : g.K.Sink.is_observable → g.K.Sink.written l.sink ≡ g.K.Sink.written l.initial.sink ++ take (length l.fn.bytes - length l.rest) l.fn.bytes;
  faults : g.K.Sink.faults l.sink ≡ g.K.Sink.faults l.initial.sink;
}

abbrev pub decreases-loop-rest : goal.decreases-loop-rest
decreases-loop-rest g l = length l.rest
