use Rattle.btr_jobs.proofs.TurnLemmas.{commit_at}
use Rattle.btr_hall_tests.proofs.load_tests.commit.Goals as goal

pub returns-in-Ok-clause-at : goal.returns-in-Ok-clause-at
returns-in-Ok-clause-at g c =
    let done = c.commit.ensures in
    commit_at c.args.hall.now c.args.session.now c.commit.new.self c.args.entry.now c.commit.result done.same done.commits done.session

pub returns-in-Err-clause-at : goal.returns-in-Err-clause-at
returns-in-Err-clause-at g c =
    let done = c.commit.ensures in
    commit_at c.args.hall.now c.args.session.now c.commit.new.self c.args.entry.now c.commit.result done.same done.commits done.session
