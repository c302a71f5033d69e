use Rattle.btr_hall.proofs.SessionLemmas.{alone_alike}
use Rattle.btr_hall_tests.proofs.hall_tests.planned_by_two.Goals as goal

pub close-engine-requires-clause-alone : goal.close-engine-requires-clause-alone
close-engine-requires-clause-alone g c =
    alone_alike c.in_ok-hall.user c.two_plan-outcome.new.first c.two_plan-outcome.ensures.share c.in_ok-hall.ensures.alone
