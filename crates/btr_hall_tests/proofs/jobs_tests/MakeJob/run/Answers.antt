use Rattle.std.proofs.Common.{refl}
use Rattle.btr_hist.specs.declared.entry.Entry.TheVariants.{Create}
use Rattle.btr_jobs.proofs.TurnLemmas.{commit_at, commit_turn}
use Rattle.btr_hall_tests.proofs.jobs_tests.MakeJob.run.Goals as goal

pub returns-clause-at : goal.returns-clause-at
returns-clause-at g c =
    commit_at c.args.hall.now c.args.session.now c.commit.new.self (Create c.args.self.now.id) c.commit.result c.commit.ensures.same c.commit.ensures.commits c.commit.ensures.session

pub returns-clause-does : goal.returns-clause-does
returns-clause-does g c =
    let turn = commit_turn c.args.hall.now c.args.session.now c.commit.new.self (Create c.args.self.now.id) c.commit.result c.commit.ensures.same c.commit.ensures.commits in
    (turn.0, turn.1, λ h of. let said = turn.2 h of in (c.commit.result, said.0, said.1, refl, refl))
