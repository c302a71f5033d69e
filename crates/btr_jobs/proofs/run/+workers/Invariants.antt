use Rattle.std.proofs.Common.{◌+◌, ◌*◌}
use Rattle.btr_jobs.proofs.run.+workers.Given as goal

abbrev pub decreases-share_out : goal.decreases-share_out
decreases-share_out g l = 4 * l.workers

abbrev pub decreases-both_halves : goal.decreases-both_halves
decreases-both_halves g l = 4 * l.here + 2

abbrev pub decreases-both_halves-left : goal.decreases-both_halves-left
decreases-both_halves-left g l = 4 * l.here + 1

abbrev pub decreases-both_halves-right : goal.decreases-both_halves-right
decreases-both_halves-right g l = 4 * l.there + 1
