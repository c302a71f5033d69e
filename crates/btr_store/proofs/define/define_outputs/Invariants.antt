-- The loop over the streams of a sample.
use Rattle.std.proofs.Common.{◌≡◌, length}
use Rattle.btr_hall.specs.Session.{IsAlone}
use Rattle.btr_jobs.specs.Jobs.{IsAt, Does}
use Rattle.btr_store.specs.Define.{DefinesEach}
use Rattle.btr_store.proofs.define.define_outputs.Given as goal

-- the outputs of the streams up to here were defined
abbrev pub invariant-loop-stream : goal.invariant-loop-stream
invariant-loop-stream g l = record {
  at : IsAt l.hall l.session;
  alone : IsAlone l.session;
  long : length l.outputs.items ≡ l.stream;
  does : Does l.hall l.fn.session l.session (λ start log low own. DefinesEach start log low 0 l.outputs.items own log.history);
}
