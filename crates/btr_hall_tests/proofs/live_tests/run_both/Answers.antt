-- A session that was alone is so after each run.
use Rattle.std.proofs.Common.{false}
use Rattle.btr_live.proofs.CloseLemmas.{lanes_alone}
use Rattle.btr_hall_tests.proofs.live_tests.run_both.Goals as goal

pub close-engine-requires-clause-alone : goal.close-engine-requires-clause-alone
close-engine-requires-clause-alone g c =
    lanes_alone c.in_ok-hall.hall c.lanes-begun.new.session c.lanes-report.new.session 2 c.args.materialize _ c.lanes-report.result c.lanes-report.ensures.refused c.lanes-report.ensures.runs
    (lanes_alone c.in_ok-hall.hall c.in_ok-hall.session c.lanes-begun.new.session 2 false _ c.lanes-begun.result c.lanes-begun.ensures.refused c.lanes-begun.ensures.runs c.in_ok-hall.ensures.alone)
