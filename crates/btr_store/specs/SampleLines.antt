-- The lines of a sample.
use Rattle.std.specs.Prelude.{◌≡◌, ℕ, List, [], ◌∷◌, ◌++◌, map, flat_map, length, Option, Some, None}
use Rattle.std.specs.List.{AllByRecursion, range_with_len}
use Rattle.btr_base.specs.declared.limits.TheConstants.{FIRST, END}
use Rattle.btr_base.specs.Agg.{AggValue, agg_within}
use Rattle.btr_hist.specs.declared.entry.Entry.{Entry}
use Rattle.btr_hist.specs.History.{ids, latest, bag}
use Rattle.btr_text.specs.declared.reply.Reason.{Reason}
use Rattle.btr_load.specs.Loads.{LoadedValue}
use Rattle.btr_work.specs.declared.report.Refreshed.{Refreshed}
use Rattle.btr_work.specs.declared.report.Refreshed.TheVariants as results
use Rattle.btr_work.specs.declared.report.RefreshLine.{RefreshLine}
use Rattle.btr_store.specs.declared.report_line.ReportLine.{ReportLine}
use Rattle.btr_store.specs.declared.report_line.ReportLine.TheVariants as lines
use Rattle.btr_store.specs.declared.define.DefinedOutput.{DefinedOutput}
use Rattle.btr_store.specs.declared.load_lines.RefusedNumber.{RefusedNumber}
use Rattle.btr_store.specs.declared.sample.Filled.{Filled}
use Rattle.btr_store.specs.declared.transcript.Transcript.{Transcript}
use Rattle.btr_live.specs.Reasons.{reason_of_landing}
use Rattle.btr_store.specs.Streams.{id_of_stream}
use Rattle.btr_store.specs.Transcript.{SaysLines}
use Rattle.btr_store.specs.LoadLines.{AreRefused, row_line, stream_spans}

-- ---- refused outputs

-- The line of an output, if it was refused.
abbrev pub refusal_line : ℕ → Option Reason → List ReportLine
refusal_line id None = []
refusal_line id (Some reason) = lines.OutputRefused id reason ∷ []

-- The line of an output, if it was not defined.
abbrev pub define_line : DefinedOutput → List ReportLine
define_line output = refusal_line output.id output.refused

-- Why an output was not brought up to date, if it was not.
abbrev pub landing_refusal : Refreshed → Option Reason
landing_refusal (results.Landed version) = None
landing_refusal (results.Current version) = None
landing_refusal (results.Refused fault) = Some (reason_of_landing fault)

-- The line of an output, if it was not brought up to date, by ids of outputs.
abbrev pub landing_by : (ℕ → ℕ) → RefreshLine → List ReportLine
landing_by ids line = refusal_line (ids line.output) (landing_refusal line.result)

-- The line of an output after this history, if it was not brought up to date.
abbrev pub landing_line : List Entry → RefreshLine → List ReportLine
landing_line h line = landing_by (id_of_stream h) line

-- ---- the streams at the end

-- The line of a stream: its latest version, and the aggregate of all its points.
abbrev pub summary_line : List Entry → ℕ → ℕ → ReportLine
summary_line h id stream = lines.StreamSummary id (latest h stream) (agg_within FIRST END (bag h stream (latest h stream)))

-- The lines of all streams, in order of creation.
abbrev pub summary_lines : List Entry → List ReportLine
summary_lines h = map (λ stream. summary_line h (id_of_stream h stream) stream) (range_with_len 0 (length (ids h)))

-- ---- all lines

-- What was done to the store is in the transcript, and then the streams of this history: refused rows by their numbers, refused
-- batches, refused outputs, and a line for each stream.
abbrev pub SaysAll : List Entry → LoadedValue → List DefinedOutput → List RefreshLine → Transcript → Type 0
SaysAll h loaded outputs report t =
    (rows : List RefusedNumber) × AreRefused loaded rows
    × SaysLines (map row_line rows ++ flat_map stream_spans loaded.streams ++ flat_map define_line outputs
    ++ flat_map (landing_line h) report ++ summary_lines h) t

abbrev pub SaysFilled : List Entry → Filled → Transcript → Type 0
SaysFilled h filled t = SaysAll h filled.loaded filled.outputs.items filled.report t

-- ---- the lines on each device

-- The line of a stream: some version, and an aggregate.
abbrev pub IsSummary : ReportLine → Type 0
IsSummary line = (id version : ℕ) × (agg : AggValue) × (line ≡ lines.StreamSummary id version agg)

-- The transcript has the lines of what was done to a store, and then lines of streams.
pub record SaysSomeFilled (filled : Filled) (t : Transcript) : Type 0 where
  pub rows : List RefusedNumber
  pub refused : AreRefused filled.loaded rows
  pub ids : ℕ → ℕ
  pub streams : List ReportLine
  pub summaries : AllByRecursion IsSummary streams
  pub says : SaysLines (map row_line rows ++ flat_map stream_spans filled.loaded.streams ++ flat_map define_line filled.outputs.items
      ++ flat_map (landing_by ids) filled.report ++ streams) t
