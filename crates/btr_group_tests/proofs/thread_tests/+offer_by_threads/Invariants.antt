-- Each half of the threads is fewer.
use Rattle.std.proofs.Common.{◌+◌, ◌*◌}
use Rattle.btr_group_tests.proofs.thread_tests.+offer_by_threads.Given as goal

abbrev pub decreases-offer_by_threads : goal.decreases-offer_by_threads
decreases-offer_by_threads g l = 2 * l.threads

abbrev pub decreases-join+arg2 : goal.decreases-join+arg2
decreases-join+arg2 g l = 2 * l.half + 1

abbrev pub decreases-join+arg3 : goal.decreases-join+arg3
decreases-join+arg3 g l = 2 * l.rest + 1
