use Rattle.std.proofs.Common.{length}
use Rattle.btr_disk.proofs.image.+fill_calls.Given as goal

abbrev pub decreases-fill_calls : goal.decreases-fill_calls
decreases-fill_calls l = length l.calls.now
