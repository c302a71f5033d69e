use Rattle.std.proofs.Common.{◌≡◌, length, take}
use Rattle.btr_jobs.specs.Jobs.{IsAt, Does}
use Rattle.btr_load.proofs.BatchLemmas.{SomeDone}
use Rattle.btr_load.proofs.stream.commit_batches.Given as goal

abbrev pub invariant-loop-i : goal.invariant-loop-i
invariant-loop-i g l = record {
  at : IsAt l.hall l.session;
  long : length l.results ≡ length l.fn.results;
  does : Does l.hall l.fn.session l.session
      (λ start log low own. SomeDone start log low l.stream l.batch l.points l.rest (take l.i l.results) own);
}
