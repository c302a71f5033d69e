-- The loop over the outputs of a sample.
use Rattle.std.proofs.Common.{flat_map, take}
use Rattle.btr_store.specs.Transcript.{AddsLines}
use Rattle.btr_store.specs.SampleLines.{define_line}
use Rattle.btr_store.proofs.sample_lines.add_undefined.Given as goal

-- the outputs up to here have their lines
abbrev pub invariant-loop-output : goal.invariant-loop-output
invariant-loop-output l = AddsLines (flat_map define_line (take l.output-index l.outputs)) l.fn.transcript l.transcript
