-- What bringing each output up to date once does, and what it says of each.
use Rattle.std.specs.Prelude.{◌≡◌, ℕ, ◌≤◌, false, List, [], ◌∷◌, map, Option, Some, None, Result, Ok, Err, IfSome}
use Rattle.std.specs.List.{AllByRecursion}
use Rattle.std.specs.Option.{unwrap_or}
use Rattle.std.specs.declared.alloc.AllocError.{AllocError}
use Rattle.btr_hist.specs.declared.entry.Entry.{Entry}
use Rattle.btr_hist.specs.declared.kernel.Spec.{Spec}
use Rattle.btr_hist.specs.declared.kernel.Reads.{Reads}
use Rattle.btr_hist.specs.History.{spec_of, read_by, nothing_read}
use Rattle.btr_hist.specs.Legal.{Legal}
use Rattle.btr_gate.specs.Numbers.{times}
use Rattle.btr_jobs.specs.States.{StoreState, LogState}
use Rattle.btr_work.specs.declared.report.Refreshed.{Refreshed}
use Rattle.btr_work.specs.declared.report.Refreshed.TheVariants as results
use Rattle.btr_work.specs.declared.report.RefreshLine.{RefreshLine}
use Rattle.btr_work.specs.Levels.{AreLevels}
use Rattle.btr_work.specs.Report.{Refreshes, RefreshesInTurn}
use Rattle.btr_work.specs.Laws.{IsCurrentIn}
use Rattle.btr_work.specs.Alike.{IsAlike, IsUndisturbed, landed_levels}
use Rattle.btr_work.specs.InOrder.{HadMemoryToLand, IsRefreshedInOrder}
use Rattle.btr_store.specs.declared.report_line.ReportLine.{ReportLine}
use Rattle.btr_store.specs.declared.report_line.ReportLine.TheVariants as lines
use Rattle.btr_store.specs.declared.transcript.Transcript.{Transcript}
use Rattle.btr_live.specs.Reasons.{reason_of_landing}
use Rattle.btr_store.specs.Streams.{id_of_stream, version_of_stream}
use Rattle.btr_store.specs.Transcript.{SaysLines}
use Rattle.btr_store.specs.Completes.{SaysBenign, HasRoomForOutputs}

-- ---- the line of an output

-- Version 0 of each input of an output.
abbrev pub nothing_of : Option Spec → Reads
nothing_of None = record { first = 0; second = None }
nothing_of (Some spec) = nothing_read spec

-- The versions of its inputs that the latest version of an output has read: version 0 of each, if it has no version.
abbrev pub reads_of : List Entry → ℕ → Reads
reads_of h output = unwrap_or (read_by h output (version_of_stream h output)) (nothing_of (spec_of h output))

-- The line of an output that is up to date: its latest version, and what this has read.
abbrev pub current_line : List Entry → ℕ → ℕ → ReportLine
current_line h id output = lines.OutputCurrent id (version_of_stream h output) (reads_of h output)

-- The line of an output with this id, of which this became.
abbrev pub line_of_output : List Entry → ℕ → ℕ → Refreshed → ReportLine
line_of_output h id output (results.Landed version) = current_line h id output
line_of_output h id output (results.Current version) = current_line h id output
line_of_output h id output (results.Refused fault) = lines.OutputRefused id (reason_of_landing fault)

-- The line of an output after this history.
abbrev pub output_line : List Entry → RefreshLine → ReportLine
output_line h line = line_of_output h (id_of_stream h line.output) line.output line.result

-- ---- the lines on each device

-- The line of an output that is up to date: some version, and what it has read.
abbrev pub IsCurrentLine : ReportLine → Type 0
IsCurrentLine line = (id version : ℕ) × (reads : Reads) × (line ≡ lines.OutputCurrent id version reads)

-- The line of an output of which this became.
abbrev pub IsOutputLine : Refreshed → ReportLine → Type 0
IsOutputLine (results.Landed version) line = IsCurrentLine line
IsOutputLine (results.Current version) line = IsCurrentLine line
IsOutputLine (results.Refused fault) line = (id : ℕ) × (line ≡ lines.OutputRefused id (reason_of_landing fault))

-- One line for each output of a report, in order.
abbrev pub AreOutputLines : List RefreshLine → List ReportLine → Type 0
AreOutputLines [] [] = Unit {0}
AreOutputLines [] (line ∷ said) = ⊥
AreOutputLines (output ∷ report) [] = ⊥
AreOutputLines (output ∷ report) (line ∷ said) = IsOutputLine output.result line × AreOutputLines report said

-- The transcript has a line for each output of the report.
abbrev pub SaysOutputs : List RefreshLine → Transcript → Type 0
SaysOutputs report transcript = (said : List ReportLine) × AreOutputLines report said × SaysLines said transcript

-- The transcript has the lines of a report, whatever became of its outputs.
abbrev pub SaysSomeReport : Transcript → Type 0
SaysSomeReport transcript = (report : List RefreshLine) × SaysOutputs report transcript

-- ---- the work

-- All outputs were brought up to date once, with this report; or memory ran out before any.
abbrev pub RefreshesIf : StoreState → LogState → List Entry → Option (List RefreshLine) → List ℕ → Type 0
RefreshesIf start log low None own = (n : ℕ) → times n own ≡ 0
RefreshesIf start log low (Some report) own = Refreshes start log low report own

-- The transcript has a line for each output of the report, as the outputs are after this history. Memory may run out for it.
abbrev pub SaysReport : List Entry → Option (List RefreshLine) → Result Transcript AllocError → Type 0
SaysReport h report (Err error) = Unit {0}
SaysReport h None (Ok transcript) = ⊥
SaysReport h (Some report) (Ok transcript) = SaysLines (map (output_line h) report) transcript

-- Each output was brought up to date once, after all of `low` had been seen, and this was said of them after the log. `own` are the
-- numbers of what was added.
pub record Distils (start : StoreState) (log : LogState) (low : List Entry) (said : Result Transcript AllocError)
    (own : List ℕ) : Type 0 where
  pub report : Option (List RefreshLine)
  pub refreshes : RefreshesIf start log low report own
  pub says : SaysReport log.history report said

-- The same of one worker: each output was planned after all that was seen when the one before it was done.
pub record DistilsInTurn (start : StoreState) (log : LogState) (low : List Entry) (said : Result Transcript AllocError) (own : List ℕ)
    : Type 0 where
  pub did : Distils start log low said own
  pub in_turn : IfSome did.report (λ report. RefreshesInTurn start log low report own)

-- ---- the work on a store that nobody else uses

-- Each output of the report whose result is no refusal is up to date after this history, and none was refused because another version
-- came first.
abbrev pub AreCurrent : List Entry → List RefreshLine → Type 0
AreCurrent h report = AllByRecursion (λ line. IsCurrentIn h line.output line.result) report

-- No result of the report came from the memory or from the device.
abbrev pub AreUndisturbed : List RefreshLine → Type 0
AreUndisturbed report = AllByRecursion (λ line. IsUndisturbed line.result) report

-- After the history h, each stream has the commits that one worker leaves after the history `low`, with the same reads: it lands the
-- outputs one after another, level by level. The report is that of this worker, too.
abbrev pub AreOfOneWorker : List Entry → List Entry → List RefreshLine → Type 0
AreOfOneWorker h low report = (levels : List (List ℕ)) → AreLevels low levels → IsAlike h (landed_levels low levels) low report

-- The memory sufficed for each output of the report.
abbrev pub HadMemoryForOutputs : List RefreshLine → Type 0
HadMemoryForOutputs report = AllByRecursion (λ line. HadMemoryToLand line.result) report

-- The history and the report are those of one worker on this device, who lands the outputs one after another, level by level.
abbrev pub AreRefreshedInOrder : StoreState → LogState → List RefreshLine → Type 0
AreRefreshedInOrder start log report =
    (levels : List (List ℕ)) → AreLevels start.history levels → IsRefreshedInOrder start log levels report

-- Each output was brought up to date once by this many workers on a store that nobody else used, and this was said of them. `own` are the
-- numbers of what was added.
pub record DistilsStore (start : StoreState) (log : LogState) (workers : ℕ) (said : Result Transcript AllocError) (own : List ℕ)
    : Type 0 where
  pub did : Distils start log start.history said own
  -- each output whose result is no refusal is up to date in the end, and none is superseded
  pub current : IfSome did.report (AreCurrent log.history)
  -- any number of workers leaves what one worker leaves, if the memory and the device sufficed
  pub alike : Legal start.history
      → IfSome did.report (λ report. AreUndisturbed report → AreOfOneWorker log.history start.history report)
  -- one worker lands the outputs one after another, each landing if the model accepts it and the blocks that are left suffice: if the
  -- history was legal, the store is not sealed, and memory and device did not fail, the history and the results are those
  pub in_order : workers ≤ 1 → Legal start.history → start.sealed ≡ false → log.failed ≡ None
      → IfSome did.report (λ report. HadMemoryForOutputs report → AreRefreshedInOrder start log report)
  -- if there was room for all that may be landed, and the device did not fail, no line says that it was full or failed
  pub completes : HasRoomForOutputs start → log.failed ≡ None → SaysBenign said
