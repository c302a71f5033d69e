-- Private promises: a script that ran in a session, and what was said of it.
use Rattle.std.specs.Prelude.{◌≡◌, ℕ, Bool, List, [], Option, Some, None, Result}
use Rattle.std.specs.declared.alloc.AllocError.{AllocError}
use Rattle.btr_hist.specs.declared.entry.Entry.{Entry}
use Rattle.btr_text.specs.declared.script.ScriptLine.{ScriptLine}
use Rattle.btr_jobs.specs.States.{StoreState, LogState}
use Rattle.btr_live.specs.declared.live.LiveReport.{LiveReport}
use Rattle.btr_live.specs.Lanes.{in_own_feeds}
use Rattle.btr_live.specs.Live.{RunsLive}
use Rattle.btr_work.specs.declared.report.RefreshLine.{RefreshLine}
use Rattle.btr_store.specs.declared.report_line.ReportLine.{ReportLine}
use Rattle.btr_store.specs.declared.transcript.Transcript.{Transcript}
use Rattle.btr_store.specs.Streams.{id_of_stream}
use Rattle.btr_store.specs.Live.{SaysScript, round_line}

-- The line of an output after this history, if the last round refused it.
abbrev pub refused_line : List Entry → RefreshLine → List ReportLine
refused_line h line = round_line (id_of_stream h line.output) line.result

-- A script ran in a session that had seen `low`; or memory ran out before any line.
abbrev pub RunsFrom : ℕ → Bool → StoreState → LogState → List Entry → List ScriptLine → Option LiveReport → List ℕ → Type 0
RunsFrom batch materialize start log low script None own = own ≡ []
RunsFrom batch materialize start log low script (Some report) own =
    RunsLive (in_own_feeds batch) materialize start log low script report own

-- A script ran in a session that had seen `low`, and this was said of it. `own` are the numbers of what was added.
pub record Lives (batch : ℕ) (materialize : Bool) (script : List ScriptLine) (start : StoreState) (log : LogState) (low : List Entry)
    (said : Result Transcript AllocError) (own : List ℕ) : Type 0 where
  pub report : Option LiveReport
  pub runs : RunsFrom batch materialize start log low script report own
  pub says : SaysScript log report said
