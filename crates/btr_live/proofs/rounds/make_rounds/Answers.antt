-- One round more.
use Rattle.std.proofs.Common.{subst}
use Rattle.btr_jobs.specs.Jobs.{Does}
use Rattle.btr_live.specs.Rounds.{MakesRounds}
use Rattle.btr_live.proofs.RoundLemmas.{suc_one, rounds_none, rounds_more}
use Rattle.btr_live.proofs.rounds.make_rounds.Goals as goal

pub loop-init : goal.loop-init
loop-init g c = record { at = c.requires.at; rounds = rounds_none c.args.hall.now c.args.session.now }

pub loop-preserved : goal.loop-preserved
loop-preserved g c = record {
  at = c.make_round.ensures.at;
  rounds = subst (λ n. Does c.args.hall.now c.args.session.now c.make_round.new.session (λ start log low own. MakesRounds start n low log own)) (suc_one c.loop.counter)
      (rounds_more c.args.hall.now c.loop.counter c.args.session.now c.loop.session c.make_round.new.session c.make_round.ensures.at c.loop.invariant.rounds c.make_round.ensures.round);
}
