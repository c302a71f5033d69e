use Rattle.std.proofs.Common.{◌+◌, ◌*◌}
use Rattle.btr_scan.proofs.backward.+previous.Given as goal

abbrev pub decreases-previous_in_place : goal.decreases-previous_in_place
decreases-previous_in_place g l = 2 * l.span.height + 1

abbrev pub decreases-previous_in_slots : goal.decreases-previous_in_slots
decreases-previous_in_slots g l = 2 * l.span.height
