use Rattle.std.proofs.Common.{◌<◌, ◌*◌}
use Rattle.btr_disk.specs.Torn.{IsTornAt}
use Rattle.btr_disk.specs.Fill.{FillsWhere}
use Rattle.btr_disk.proofs.image.fill_torn.Given as goal

abbrev pub invariant-loop-block : goal.invariant-loop-block
invariant-loop-block l = FillsWhere l.fill (λ k. IsTornAt l.torn k × (k < 4096 * l.block)) l.initial.bytes l.bytes
