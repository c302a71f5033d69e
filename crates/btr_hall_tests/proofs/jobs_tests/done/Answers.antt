use Rattle.btr_jobs.proofs.DoesLemmas.{stays_alone}
use Rattle.btr_hall_tests.proofs.jobs_tests.done.Goals as goal

pub close-engine-requires-clause-alone : goal.close-engine-requires-clause-alone
close-engine-requires-clause-alone g c =
    stays_alone c.in_ok-hall.session c.run_jobs.new.session c.run_jobs.ensures.does.0 c.run_jobs.ensures.does.1 c.in_ok-hall.ensures.alone
