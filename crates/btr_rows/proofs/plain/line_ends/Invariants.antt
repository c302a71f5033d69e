use Rattle.std.proofs.Common.{◌≡◌, ◌+◌, drop}
use Rattle.std.specs.List.{prefix_len}
use Rattle.btr_rows.specs.Reading.{ends_line}
use Rattle.btr_rows.proofs.plain.line_ends.Given as goal

abbrev pub invariant-loop-index : goal.invariant-loop-index
invariant-loop-index l = l.index + prefix_len ends_line (drop l.index l.text) ≡ prefix_len ends_line l.text
