use Rattle.std.proofs.Common.{◌<◌}
use Rattle.btr_tree.proofs.shared.middle.Given as goal

abbrev pub invariant-loop-i : goal.invariant-loop-i
invariant-loop-i l = (l.fn.from < l.mid) × (l.mid < l.fn.to)
