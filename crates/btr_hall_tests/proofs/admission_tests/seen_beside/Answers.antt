use Rattle.btr_hall.proofs.SessionLemmas.{alone_alike}
use Rattle.btr_hall_tests.proofs.admission_tests.seen_beside.Goals as goal

pub close-engine-requires-clause-alone : goal.close-engine-requires-clause-alone
close-engine-requires-clause-alone g c =
    alone_alike c.in-Ok.user c.create_and_admit-user.result.0 c.create_and_admit-user.ensures.share c.in-Ok.ensures.begins.alone
