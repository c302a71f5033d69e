use Rattle.std.proofs.Common.{◌+◌, ◌*◌}
use Rattle.btr_scan.proofs.backward.+last.Given as goal

abbrev pub decreases-last_in_place : goal.decreases-last_in_place
decreases-last_in_place g l = 2 * l.span.height + 1

abbrev pub decreases-last_in_slots : goal.decreases-last_in_slots
decreases-last_in_slots g l = 2 * l.span.height
