use Rattle.std.proofs.Common.{◌+◌, ◌*◌}
use Rattle.btr_scan.proofs.forward.+next.Given as goal

abbrev pub decreases-next_in_place : goal.decreases-next_in_place
decreases-next_in_place g l = 2 * l.span.height + 1

abbrev pub decreases-next_in_slots : goal.decreases-next_in_slots
decreases-next_in_slots g l = 2 * l.span.height
