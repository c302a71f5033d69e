-- What a transcript says: its lines.
use Rattle.std.specs.Prelude.{◌≡◌, ℕ, List, [], ◌∷◌, ◌++◌, flat_map}
use Rattle.btr_store.specs.declared.report_line.ReportLine.{ReportLine}
use Rattle.btr_store.specs.Report.{report_text}
use Rattle.btr_store.specs.declared.transcript.Transcript.{Transcript}
use Rattle.btr_store.specs.Status.{status_of_lines}

-- The text of lines.
abbrev pub text_of_lines : List ReportLine → List ℕ
text_of_lines lines = flat_map report_text lines

-- The transcript has the text of these lines, and the status that they ask for.
pub record SaysLines (lines : List ReportLine) (t : Transcript) : Type 0 where
  pub same_text : t.text.items ≡ text_of_lines lines
  pub same_status : t.status ≡ status_of_lines lines

-- The line was added to the transcript, whichever lines are in it.
abbrev pub AddsLine : ReportLine → Transcript → Transcript → Type 0
AddsLine line old new = (lines : List ReportLine) → SaysLines lines old → SaysLines (lines ++ line ∷ []) new

-- Lines were added to the transcript, whichever lines are in it.
abbrev pub AddsLines : List ReportLine → Transcript → Transcript → Type 0
AddsLines more old new = (lines : List ReportLine) → SaysLines lines old → SaysLines (lines ++ more) new
