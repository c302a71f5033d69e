-- What a script did on a store, and what is written of it.
use Rattle.std.specs.Prelude.{◌≡◌, ◌⊎◌, ℕ, Bool, false, List, [], ◌∷◌, ◌++◌, flat_map, if◌then◌else◌}
use Rattle.std.specs.Prelude.{Option, Some, None, Result, Ok, Err, IfSome}
use Rattle.std.specs.Option.{is_some}
use Rattle.std.specs.List.{AllByRecursion}
use Rattle.std.specs.declared.alloc.AllocError.{AllocError}
use Rattle.btr_hist.specs.declared.entry.Entry.{Entry}
use Rattle.btr_text.specs.declared.script.ScriptLine.{ScriptLine}
use Rattle.btr_jobs.specs.States.{StoreState, LogState}
use Rattle.btr_work.specs.declared.report.Refreshed.{Refreshed}
use Rattle.btr_work.specs.declared.report.Refreshed.TheVariants as results
use Rattle.btr_work.specs.declared.report.RefreshLine.{RefreshLine}
use Rattle.btr_work.specs.Laws.{IsCurrentIn}
use Rattle.btr_store.specs.declared.report_line.ReportLine.{ReportLine}
use Rattle.btr_store.specs.declared.report_line.ReportLine.TheVariants as lines
use Rattle.btr_live.specs.declared.live.LiveReport.{LiveReport}
use Rattle.btr_live.specs.Lanes.{in_own_feeds}
use Rattle.btr_live.specs.Live.{HasReplyEach, RunsLive}
use Rattle.btr_live.specs.OneHistory.{OneHistory}
use Rattle.btr_live.specs.Script.{text_of_replies}
use Rattle.btr_live.specs.OneLane.{AreInLane, RunsAlone}
use Rattle.btr_store.specs.declared.status.Status.{Status}
use Rattle.btr_store.specs.declared.status.Status.TheVariants.{Done, OutOfMemory, DeviceFault}
use Rattle.btr_store.specs.declared.transcript.Transcript.{Transcript}
use Rattle.btr_live.specs.Reasons.{reason_of_landing}
use Rattle.btr_store.specs.Status.{greater, status_of_lines}
use Rattle.btr_store.specs.Streams.{id_of_stream}
use Rattle.btr_store.specs.Transcript.{text_of_lines}
use Rattle.btr_store.specs.Replies.{status_of_replies}

-- ---- what is written

-- The result of a last round, if there was one.
abbrev pub LastResult : Type 0
LastResult = Option (Result (List RefreshLine) AllocError)

-- The line of an output with this id, of which this became in the last round: it has one if it was not brought up to date.
abbrev pub round_line : ℕ → Refreshed → List ReportLine
round_line id (results.Landed version) = []
round_line id (results.Current version) = []
round_line id (results.Refused fault) = lines.RoundRefused id (reason_of_landing fault) ∷ []

-- The line of an output, if a round refused it, by ids of outputs.
abbrev pub refused_by : (ℕ → ℕ) → RefreshLine → List ReportLine
refused_by ids line = round_line (ids line.output) line.result

-- The lines of the last round, after this history.
abbrev pub round_lines : List Entry → LastResult → List ReportLine
round_lines h None = []
round_lines h (Some (Err error)) = []
round_lines h (Some (Ok report)) = flat_map (λ line. round_line (id_of_stream h line.output) line.result) report

-- The status that a last round asks for which had no memory to begin.
abbrev pub round_status : LastResult → Status
round_status None = Done
round_status (Some (Err error)) = OutOfMemory
round_status (Some (Ok report)) = Done

-- The status that a failure of the device asks for, which a round may have met.
abbrev pub log_status : LogState → Status
log_status log = if is_some log.failed then DeviceFault else Done

-- The transcript has the replies in the order of the script, and then the lines of the last round. Its status is the greatest.
pub record SaysLive (log : LogState) (report : LiveReport) (t : Transcript) : Type 0 where
  pub same_text : t.text.items ≡ text_of_replies report.replies.items ++ text_of_lines (round_lines log.history report.last)
  pub same_status : t.status ≡ greater (greater (status_of_replies report.replies.items)
      (status_of_lines (round_lines log.history report.last))) (greater (round_status report.last) (log_status log))

-- What is said of a script that ran. Memory may run out for it.
abbrev pub SaysScript : LogState → Option LiveReport → Result Transcript AllocError → Type 0
SaysScript log report (Err error) = Unit {0}
SaysScript log None (Ok transcript) = ⊥
SaysScript log (Some report) (Ok transcript) = SaysLive log report transcript

-- ---- what is written on each device

-- These are the lines of the last round, by some ids of its outputs.
abbrev pub AreRoundLines : LastResult → List ReportLine → Type 0
AreRoundLines None said = said ≡ []
AreRoundLines (Some (Err error)) said = said ≡ []
AreRoundLines (Some (Ok report)) said = (ids : ℕ → ℕ) × (said ≡ flat_map (refused_by ids) report)

-- The transcript has the replies in the order of the script, and then the lines of the last round. Its status is the greatest, also of one
-- that says whether the device failed.
pub record SaysSomeLive (report : LiveReport) (t : Transcript) : Type 0 where
  pub said : List ReportLine
  pub of_round : AreRoundLines report.last said
  pub device : Status
  pub failed_or_not : (device ≡ Done) ⊎ (device ≡ DeviceFault)
  pub same_text : t.text.items ≡ text_of_replies report.replies.items ++ text_of_lines said
  pub same_status : t.status ≡ greater (greater (status_of_replies report.replies.items) (status_of_lines said))
      (greater (round_status report.last) device)

-- The transcript has a reply to each line of the script, and then the lines of a last round if one was wanted.
pub record SaysSomeScript (materialize : Bool) (script : List ScriptLine) (t : Transcript) : Type 0 where
  pub report : LiveReport
  pub each : HasReplyEach materialize script report
  pub says : SaysSomeLive report t

-- ---- what is done

-- A script ran on a store that nobody else used; or memory ran out before any line.
abbrev pub RunsIf : ℕ → Bool → StoreState → LogState → List ScriptLine → Option LiveReport → List ℕ → Type 0
RunsIf batch materialize start log script None own = own ≡ []
RunsIf batch materialize start log script (Some report) own =
    RunsLive (in_own_feeds batch) materialize start log start.history script report own

-- Each output that the last round did not refuse is up to date, and it refused none because another version came first.
abbrev pub IsLastCurrent : List Entry → LastResult → Type 0
IsLastCurrent h None = Unit {0}
IsLastCurrent h (Some (Err error)) = Unit {0}
IsLastCurrent h (Some (Ok report)) = AllByRecursion (λ line. IsCurrentIn h line.output line.result) report

-- A script ran on a store that nobody else used, and this was said of it. `own` are the numbers of what was added.
pub record LivesStore (batch : ℕ) (materialize : Bool) (script : List ScriptLine) (start : StoreState) (log : LogState)
    (said : Result Transcript AllocError) (own : List ℕ) : Type 0 where
  pub report : Option LiveReport
  pub runs : RunsIf batch materialize start log script report own
  -- all lanes, and the rounds beside them, made one history, for every schedule of the threads
  pub one_history : IfSome report (λ r. OneHistory (in_own_feeds batch) start log script r.replies.items)
  -- the lines of one lane alone have the model's replies, one after another
  pub one_lane : materialize ≡ false → (lane : ℕ) → AreInLane lane script
      → IfSome report (λ r. RunsAlone batch start log script r.replies.items)
  -- after the last round each output that it did not refuse is up to date, and none is superseded, if the device did not fail
  pub current : log.failed ≡ None → IfSome report (λ r. IsLastCurrent log.history r.last)
  pub says : SaysScript log report said
