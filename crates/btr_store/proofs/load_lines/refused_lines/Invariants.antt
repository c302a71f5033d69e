-- The loop over the refused rows.
use Rattle.std.proofs.Common.{map, take}
use Rattle.btr_store.specs.Transcript.{SaysLines}
use Rattle.btr_store.specs.LoadLines.{row_line}
use Rattle.btr_store.proofs.load_lines.refused_lines.Given as goal

abbrev pub invariant-loop-row : goal.invariant-loop-row
invariant-loop-row l = SaysLines (map row_line (take l.row-index l.row-items)) l.transcript
