use Rattle.std.proofs.Common.{◌≡◌, ◌+◌, drop}
use Rattle.btr_rows.specs.Reading.{field_size}
use Rattle.btr_rows.proofs.plain.field_length.Given as goal

abbrev pub invariant-loop-index : goal.invariant-loop-index
invariant-loop-index l = l.index + field_size (drop l.index l.text) ≡ field_size l.text
