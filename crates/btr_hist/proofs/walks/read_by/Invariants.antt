use Rattle.std.proofs.Common.{◌≡◌, drop, get_or, None}
use Rattle.btr_hist.specs.History.{recorded, read_by}
use Rattle.btr_hist.proofs.walks.read_by.Given as goal

abbrev pub invariant-loop-entry : goal.invariant-loop-entry
invariant-loop-entry l = get_or (recorded (drop l.entry-index l.entries) l.stream) l.left None ≡ read_by l.entries l.stream l.version
