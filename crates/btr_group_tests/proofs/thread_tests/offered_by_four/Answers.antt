use Rattle.btr_group.proofs.ShareLemmas.{whole_alike}
use Rattle.btr_group_tests.proofs.thread_tests.offered_by_four.Goals as goal

pub close-requires-clause-whole : goal.close-requires-clause-whole
close-requires-clause-whole g c =
    whole_alike c.in_ok-hall.seat c.offer_by_threads-seat.result.0 c.offer_by_threads-seat.ensures.share c.in_ok-hall.ensures.whole
