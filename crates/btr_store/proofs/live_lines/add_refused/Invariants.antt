-- The loop over the outputs of a report.
use Rattle.std.proofs.Common.{flat_map, take}
use Rattle.btr_store.specs.Transcript.{AddsLines}
use Rattle.btr_store.specs.Streams.{id_in}
use Rattle.btr_store.specs.Live.{refused_by}
use Rattle.btr_store.proofs.live_lines.add_refused.Given as goal

-- the outputs up to here have their lines
abbrev pub invariant-loop-line : goal.invariant-loop-line
invariant-loop-line l = AddsLines (flat_map (refused_by (id_in l.streams)) (take l.line-index l.report)) l.fn.transcript l.transcript
