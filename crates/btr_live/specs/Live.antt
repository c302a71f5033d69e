-- A run of a script: its lanes beside each other, rounds beside them, and a last round after them.
use Rattle.std.specs.Prelude.{◌≡◌, ℕ, ◌+◌, ◌≤◌, Bool, true, false, List, [], length, Option, Some, None, Result, Ok, Err}
use Rattle.std.specs.declared.alloc.AllocError.{AllocError}
use Rattle.std.specs.List.{AllByRecursion}
use Rattle.std.specs.Option.{is_some}
use Rattle.btr_hist.specs.declared.entry.Entry.{Entry}
use Rattle.btr_hist.specs.Legal.{Follows}
use Rattle.btr_text.specs.declared.script.ScriptLine.{ScriptLine}
use Rattle.btr_gate.specs.Prefixes.{StartsWith}
use Rattle.btr_gate.specs.Numbers.{times}
use Rattle.btr_jobs.specs.States.{StoreState, LogState, GoesOn}
use Rattle.btr_work.specs.declared.report.RefreshLine.{RefreshLine}
use Rattle.btr_work.specs.Report.{Refreshes}
use Rattle.btr_work.specs.Laws.{AreAllSince, IsCurrentIn}
use Rattle.btr_live.specs.declared.live.LiveReport.{LiveReport}
use Rattle.btr_live.specs.Lanes.{LaneRan, in_own_feeds}
use Rattle.btr_live.specs.OneHistory.{RunsLanes, OneHistory, times_all}

-- The last round, if one was wanted. It had seen `low`, and `own` are the numbers of what it added. Without memory it adds nothing.
abbrev pub LastRound : StoreState → LogState → List Entry → Bool → Option (Result (List RefreshLine) AllocError) → List ℕ → Type 0
LastRound start log low false None own = (n : ℕ) → times n own ≡ 0
LastRound start log low false (Some result) own = ⊥
LastRound start log low true None own = ⊥
LastRound start log low true (Some (Err e)) own = (n : ℕ) → times n own ≡ 0
LastRound start log low true (Some (Ok report)) own = Refreshes start log low report own

-- There is a reply to each line of a script, and the result of a last round exactly if one was wanted.
pub record HasReplyEach (materialize : Bool) (script : List ScriptLine) (report : LiveReport) : Type 0 where
  pub one_each : length report.replies.items ≡ length script
  pub last : is_some report.last ≡ materialize

-- A script ran in a session that had seen `low`, and `Ran` is said of each lane. `middle` is the log when all lanes had ended, of which
-- their replies are said. With `materialize` one party was beside them at most, and made at most as many rounds as the script has lines.
-- The last round had seen `middle`. `own` are the numbers of all that was added.
pub record RunsLive (Ran : LaneRan) (materialize : Bool) (start : StoreState) (log : LogState) (low : List Entry) (script : List ScriptLine)
    (report : LiveReport) (own : List ℕ) : Type 0 where
  pub middle : LogState
  pub goes_on : GoesOn start log middle
  pub after : StartsWith middle.history low
  pub mine : List (List ℕ)
  pub beside : List (List ℕ)
  pub lanes : RunsLanes Ran (length script) start middle low script report.replies.items mine beside
  pub no_rounds : materialize ≡ false → beside ≡ []
  pub one_party : length beside ≤ 1
  pub lastly : List ℕ
  pub last : LastRound start log middle.history materialize report.last lastly
  pub numbers : (n : ℕ) → times n own ≡ times_all n mine beside + times n lastly

-- A script that ran alone, from the beginning of its hall, makes one history with all that its lanes and rounds added.
abbrev pub RunsAreOneHistory : Type 0
RunsAreOneHistory =
    (batch : ℕ) (materialize : Bool) (start : StoreState) (log : LogState) (script : List ScriptLine) (report : LiveReport) (own : List ℕ)
    → RunsLive (in_own_feeds batch) materialize start log start.history script report own → AreAllSince start.history log own
    → OneHistory (in_own_feeds batch) start log script report.replies.items

-- After a last round of a script that ran alone, if no device failed, each output that the round did not refuse is up to date, and it
-- refused none because another version came first.
abbrev pub LastIsCurrent : Type 0
LastIsCurrent =
    (batch : ℕ) (start : StoreState) (log : LogState) (script : List ScriptLine) (report : LiveReport) (own : List ℕ)
    (last : List RefreshLine)
    → RunsLive (in_own_feeds batch) true start log start.history script report own → AreAllSince start.history log own
    → Follows log.history → log.failed ≡ None → report.last ≡ Some (Ok last)
    → AllByRecursion (λ line. IsCurrentIn log.history line.output line.result) last
