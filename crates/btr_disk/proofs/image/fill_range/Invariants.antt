use Rattle.std.proofs.Common.{◌<◌, ◌≤◌}
use Rattle.btr_disk.specs.Fill.{FillsWhere}
use Rattle.btr_disk.proofs.image.fill_range.Given as goal

abbrev pub invariant-loop-k : goal.invariant-loop-k
invariant-loop-k l = FillsWhere l.fill (λ k. (l.at ≤ k) × (k < l.k)) l.initial.bytes l.bytes
