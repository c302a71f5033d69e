-- The loop of rounds.
use Rattle.btr_jobs.specs.Jobs.{IsAt, Does}
use Rattle.btr_live.specs.Rounds.{MakesRounds}
use Rattle.btr_live.proofs.rounds.make_rounds.Given as goal

-- this many rounds were made at most
abbrev pub invariant-loop : goal.invariant-loop
invariant-loop g l = record {
  at : IsAt l.fn.hall l.session;
  rounds : Does l.fn.hall l.fn.session l.session (λ start log low own. MakesRounds start l.counter low log own);
}
