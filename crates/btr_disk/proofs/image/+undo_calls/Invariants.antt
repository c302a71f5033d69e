use Rattle.std.proofs.Common.{length}
use Rattle.btr_disk.proofs.image.+undo_calls.Given as goal

abbrev pub decreases-undo_calls : goal.decreases-undo_calls
decreases-undo_calls l = length l.calls.now
