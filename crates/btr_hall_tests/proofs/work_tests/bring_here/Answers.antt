use Rattle.btr_jobs.proofs.DoesLemmas.{stays_alone}
use Rattle.btr_hall_tests.proofs.work_tests.bring_here.Goals as goal

pub returns-in-Ok-clause-alone : goal.returns-in-Ok-clause-alone
returns-in-Ok-clause-alone g c =
    let does = c.in-Ok.ensures.refreshes in
    stays_alone c.args.session.now c.bring_current_here.new.session does.0 does.1 c.requires.alone

pub returns-in-Err-clause-alone : goal.returns-in-Err-clause-alone
returns-in-Err-clause-alone g c =
    let does = c.in-Err.ensures.refused in
    stays_alone c.args.session.now c.bring_current_here.new.session does.0 does.1 c.requires.alone
