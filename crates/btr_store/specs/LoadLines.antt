-- The lines of a load.
use Rattle.std.specs.Prelude.{ℕ, ◌+◌, ◌-◌, ◌^◌, min, List, [], ◌∷◌, ◌++◌, map, flat_map, sum, length, take, drop, Result, Ok, Err}
use Rattle.std.specs.List.Sorted.{IsPermutation, IsNonDecreasingBy}
use Rattle.btr_rows.specs.declared.row.NumberedPoint.{NumberedPoint}
use Rattle.btr_rows.specs.declared.row.RefusedRow.{RefusedRow}
use Rattle.btr_streams.specs.declared.board.Receipt.{Receipt}
use Rattle.btr_engine.specs.declared.step.StepFault.{StepFault}
use Rattle.btr_load.specs.declared.outcome.RowsOutcome.{RowsOutcome}
use Rattle.btr_load.specs.declared.outcome.RowsOutcome.TheVariants.{Output, NotCreated, Committed}
use Rattle.btr_load.specs.declared.stream.LoadedStream.{LoadedStream}
use Rattle.btr_load.specs.Loads.{LoadedValue}
use Rattle.btr_store.specs.declared.report_line.ReportLine.{ReportLine}
use Rattle.btr_store.specs.declared.report_line.ReportLine.TheVariants as lines
use Rattle.btr_store.specs.declared.report_line.RowRefusal.TheVariants as refusals
use Rattle.btr_store.specs.declared.load_lines.RefusedNumber.{RefusedNumber}
use Rattle.btr_store.specs.declared.transcript.Transcript.{Transcript}
use Rattle.btr_live.specs.Reasons.{reason_of_step}
use Rattle.btr_store.specs.Transcript.{SaysLines}

-- ---- refused rows

abbrev pub row_refusal : RefusedRow → RefusedNumber
row_refusal row = record { number = row.number; reason = refusals.Row row.reason }

abbrev pub refused_point : NumberedPoint → RefusedNumber
refused_point point = record { number = point.number; reason = refusals.Output }

-- The rows of a stream, if it is an output.
abbrev pub rows_if_output : List NumberedPoint → RowsOutcome → List RefusedNumber
rows_if_output points Output = map refused_point points
rows_if_output points (NotCreated fault) = []
rows_if_output points (Committed stream results latest) = []

abbrev pub output_rows : LoadedStream → List RefusedNumber
output_rows s = rows_if_output s.rows.points s.outcome

-- The rows that were refused one by one: those that are none, and then those of outputs.
abbrev pub rows_refused : LoadedValue → List RefusedNumber
rows_refused l = map row_refusal l.refused ++ flat_map output_rows l.streams

-- The same, by their numbers.
pub record AreRefused (l : LoadedValue) (rows : List RefusedNumber) : Type 0 where
  pub same : IsPermutation (rows_refused l) rows
  pub sorted : IsNonDecreasingBy (λ row. row.number) rows

abbrev pub row_line : RefusedNumber → ReportLine
row_line row = lines.RowRefused row.number row.reason

-- ---- refused batches

-- The numbers of the first and of the last of some rows.
abbrev pub first_number : List NumberedPoint → ℕ
first_number [] = 0
first_number (point ∷ points) = point.number

abbrev pub last_row : List NumberedPoint → ℕ
last_row [] = 0
last_row (point ∷ []) = point.number
last_row (point ∷ next ∷ points) = last_row (next ∷ points)

-- The line of rows of a stream that were refused together. Their entry is no retirement: its rejection names no output.
abbrev pub span_line : ℕ → List NumberedPoint → StepFault → ReportLine
span_line id points fault = lines.BatchRefused id (first_number points) (last_row points) (reason_of_step 0 fault)

-- The line of a batch, if it was refused.
abbrev pub batch_span : ℕ → List NumberedPoint → Result Receipt StepFault → List ReportLine
batch_span id points (Ok receipt) = []
batch_span id points (Err fault) = span_line id points fault ∷ []

-- The lines of the refused ones of batches of this size, with these results.
abbrev pub batch_spans : ℕ → ℕ → List NumberedPoint → List (Result Receipt StepFault) → List ReportLine
batch_spans id size points [] = []
batch_spans id size points (result ∷ results) =
    batch_span id (take size points) result ++ batch_spans id size (drop size points) results

-- The lines of what was refused of a stream.
abbrev pub outcome_spans : ℕ → ℕ → List NumberedPoint → RowsOutcome → List ReportLine
outcome_spans id size points Output = []
outcome_spans id size points (NotCreated fault) = span_line id points fault ∷ []
outcome_spans id size points (Committed stream results latest) = batch_spans id size points results

abbrev pub stream_spans : LoadedStream → List ReportLine
stream_spans s = outcome_spans s.rows.id s.batch s.rows.points s.outcome

-- ---- what was committed

abbrev pub points_by_result : List NumberedPoint → Result Receipt StepFault → ℕ
points_by_result points (Ok receipt) = length points
points_by_result points (Err fault) = 0

-- The number of points in the accepted ones of batches of this size, with these results.
abbrev pub points_committed : ℕ → List NumberedPoint → List (Result Receipt StepFault) → ℕ
points_committed size points [] = 0
points_committed size points (result ∷ results) = points_by_result (take size points) result
    + points_committed size (drop size points) results

-- The line of what was committed to a stream, if anything was to be.
abbrev pub outcome_line : ℕ → ℕ → List NumberedPoint → RowsOutcome → List ReportLine
outcome_line id size points Output = []
outcome_line id size points (NotCreated fault) = []
outcome_line id size points (Committed stream results latest) = lines.StreamLoaded id latest (points_committed size points results) ∷ []

abbrev pub stream_lines : LoadedStream → List ReportLine
stream_lines s = stream_spans s ++ outcome_line s.rows.id s.batch s.rows.points s.outcome

-- ---- the last line

-- The number of committed points of a stream.
abbrev pub good_of : ℕ → List NumberedPoint → RowsOutcome → ℕ
good_of size points Output = 0
good_of size points (NotCreated fault) = 0
good_of size points (Committed stream results latest) = points_committed size points results

abbrev pub good_in : LoadedStream → ℕ
good_in s = good_of s.batch s.rows.points s.outcome

-- A count, as it is written: an input has fewer rows.
abbrev pub capped : ℕ → ℕ
capped n = min n (2 ^ 64 - 1)

-- The numbers of good rows and of refused ones.
abbrev pub good_count : LoadedValue → ℕ
good_count l = sum (map good_in l.streams)

abbrev pub bad_rows : LoadedValue → ℕ
bad_rows l = length l.refused + sum (map (λ s. length s.rows.points - good_in s) l.streams)

abbrev pub total_line : LoadedValue → ReportLine
total_line l = lines.Loaded (capped (good_count l)) (capped (bad_rows l))

-- ---- all lines

-- The transcript has the lines of refused rows, by their numbers.
abbrev pub SaysRefused : LoadedValue → Transcript → Type 0
SaysRefused l t = (rows : List RefusedNumber) × AreRefused l rows × SaysLines (map row_line rows) t

-- The transcript has the lines of a load: those of refused rows by their numbers, those of each stream, and the last one.
abbrev pub SaysLoad : LoadedValue → Transcript → Type 0
SaysLoad l t =
    (rows : List RefusedNumber) × AreRefused l rows
    × SaysLines (map row_line rows ++ flat_map stream_lines l.streams ++ total_line l ∷ []) t
