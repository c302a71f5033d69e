use Rattle.std.proofs.Common.{◌≡◌, map}
use Rattle.std.specs.List.{filter_map}
use Rattle.std.specs.Str.Lines.{strip_carriage_return}
use Rattle.btr_text.specs.Input.{input_line}
use Rattle.btr_text.proofs.input.read_lines.Given as goal

abbrev pub invariant-loop-line : goal.invariant-loop-line
invariant-loop-line l = l.lines.items ≡ filter_map (input_line l.fn.names_lanes) (map (λ x. strip_carriage_return x.now) l.yielded)
