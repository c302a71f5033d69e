use Rattle.std.proofs.Common.{◌+◌, ◌*◌}
use Rattle.btr_scan.proofs.forward.+first.Given as goal

abbrev pub decreases-first_in_place : goal.decreases-first_in_place
decreases-first_in_place g l = 2 * l.span.height + 1

abbrev pub decreases-first_in_slots : goal.decreases-first_in_slots
decreases-first_in_slots g l = 2 * l.span.height
