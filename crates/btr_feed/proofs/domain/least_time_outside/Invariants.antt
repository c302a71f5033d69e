use Rattle.std.proofs.Common.{◌≡◌, take}
use Rattle.btr_feed.specs.Feed.{least_time_outside}
use Rattle.btr_feed.proofs.domain.least_time_outside.Given as goal

abbrev pub invariant-loop-point : goal.invariant-loop-point
invariant-loop-point l = l.least ≡ least_time_outside (take l.point-index l.points)
