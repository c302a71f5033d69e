-- A script that ran in a session: what was said of it, and what the laws of scripts say of it if nobody else used the store.
use Rattle.std.specs.Prelude.{◌≡◌, ℕ, Bool, true, false, List, [], Option, Some, None, Result, Ok, Err, IfOk, IfSome}
use Rattle.std.specs.declared.alloc.AllocError.{AllocError}
use Rattle.std.proofs.Common.{refl, sym, subst}
use Rattle.btr_disk.specs.declared.disk.Disk.{Ghosts}
use Rattle.btr_hist.specs.declared.entry.Entry.{Entry}
use Rattle.btr_hist.specs.Legal.{Follows}
use Rattle.btr_engine.specs.Engine.{IsEngineOf}
use Rattle.btr_text.specs.declared.script.ScriptLine.{ScriptLine}
use Rattle.btr_hall.specs.declared.session.Hall.{Hall}
use Rattle.btr_hall.specs.declared.session.Session.{Session}
use Rattle.btr_hall.specs.Session.{opening_of}
use Rattle.btr_jobs.specs.States.{StoreState, LogState, start_of, log_seen}
use Rattle.btr_jobs.specs.Jobs.{Does}
use Rattle.btr_jobs.proofs.StateLemmas.{log_at}
use Rattle.btr_jobs.proofs.DoesLemmas.{goes_none}
use Rattle.btr_work.specs.Laws.{AreAllSince}
use Rattle.btr_live.specs.declared.live.LiveReport.{LiveReport}
use Rattle.btr_live.specs.Lanes.{in_own_feeds}
use Rattle.btr_live.specs.Live.{LastRound, RunsLive, RunsAreOneHistory, LastIsCurrent}
use Rattle.btr_live.specs.OneHistory.{OneHistory}
use Rattle.btr_live.specs.OneLane.{AreInLane, RunsAlone, FitsLeft, OneLaneIsTheModel}
use Rattle.btr_store.specs.declared.transcript.Transcript.{Transcript}
use Rattle.btr_store.specs.Streams.{Stays}
use Rattle.btr_store.specs.Work.{AddsAllowed}
use Rattle.btr_store.proofs.Allowing.{allows_nothing}
use Rattle.btr_store.proofs.DistilLemmas.{goes_stays}
use Rattle.btr_store.specs.Live as live
use Rattle.btr_store.specs.Live.{SaysLive, SaysScript, RunsIf, IsLastCurrent, LivesStore}
use Rattle.btr_store.specs.LiveLines.{RunsFrom, Lives}
use Rattle.btr_store.proofs.LiveAllowing.{live_allowed}

-- What was said of a report is what is said of the script, if its text was made.
pub says_report : (report : LiveReport) (said : Result Transcript AllocError) (log : LogState) → IfOk said (SaysLive log report) → SaysScript log (Some report) said
says_report report (Ok transcript) log is = is
says_report report (Err error) log is = tt

-- ---- in a session

module _ {D : Type 0} {disk : Ghosts D} (batch : ℕ) (materialize : Bool) (script : List ScriptLine) (hall : Hall D disk) where
  -- What was said of a report was said of the store at the end.
  pub lives_said : (old mid new : Session D disk) (report : LiveReport) (said : Result Transcript AllocError) → Does hall old mid (λ start log low own. RunsLive (in_own_feeds batch) materialize start log low script report own) → Stays mid new → ((h : List Entry) → IsEngineOf h (opening_of hall) → IfOk said (SaysLive (log_seen h mid) report)) → Does hall old new (λ start log low own. Lives batch materialize script start log low said own)
  lives_said old mid new report said does stays says = (
    does.0,
    goes_stays old mid new does.0 does.1 stays,
    λ h of.
        subst (λ l. Lives batch materialize script (start_of h hall) (log_at h l) (log_seen h old).history said does.0) (sym stays.seen)
        (record {
          report = Some report;
          runs = does.2 h of;
          says = says_report report said (log_seen h mid) (says h of);
        }),
  )

  -- Memory ran out before any line.
  pub lives_none : (old new : Session D disk) (error : AllocError) → new ≡ old → Does hall old new (λ start log low own. Lives batch materialize script start log low (Err error) own)
  lives_none old new error same =
      subst (λ s. Does hall old s (λ start log low own. Lives batch materialize script start log low (Err error) own)) (sym same)
      ([], goes_none old, λ h of. record { report = None; runs = refl; says = tt })

-- What was said holds of what is said in the end: the same, or that memory ran out.
pub still_says : (log : LogState) (report : Option LiveReport) (said reported : Result Transcript AllocError) → IfOk reported (λ t. said ≡ Ok t) → SaysScript log report said → SaysScript log report reported
still_says log report said (Err error) is says = tt
still_says log report said (Ok transcript) is says = subst (λ (s : Result Transcript AllocError). SaysScript log report s) is says

pub lives_reported : (batch : ℕ) (materialize : Bool) (script : List ScriptLine) (start : StoreState) (log : LogState) (low : List Entry) (said reported : Result Transcript AllocError) (own : List ℕ) → IfOk reported (λ t. said ≡ Ok t) → Lives batch materialize script start log low said own → Lives batch materialize script start log low reported own
lives_reported batch materialize script start log low said reported own is did =
    record { report = did.report; runs = did.runs; says = still_says log did.report said reported is did.says }

-- ---- what it adds is allowed

runs_allowed : (batch : ℕ) (materialize : Bool) (script : List ScriptLine) (start : StoreState) (log : LogState) (report : Option LiveReport) (own : List ℕ) → RunsFrom batch materialize start log start.history script report own → AddsAllowed log own
runs_allowed batch materialize script start log None own runs = allows_nothing log own runs
runs_allowed batch materialize script start log (Some report) own runs =
    live_allowed batch materialize start log start.history script report own runs

pub lives_allowed : (batch : ℕ) (materialize : Bool) (script : List ScriptLine) (start : StoreState) (log : LogState) (said : Result Transcript AllocError) (own : List ℕ) → Lives batch materialize script start log start.history said own → AddsAllowed log own
lives_allowed batch materialize script start log said own is = runs_allowed batch materialize script start log is.report own is.runs

-- ---- what the laws say of it, if nobody else added anything

module _ (history_law : RunsAreOneHistory) (lane_law : OneLaneIsTheModel) (last_law : LastIsCurrent) (batch : ℕ) (materialize : Bool) (script : List ScriptLine) (start : StoreState) (log : LogState) (own : List ℕ) (all : AreAllSince start.history log own) (not_stopped : start.stopped ≡ false) (follows : Follows log.history) (fits : FitsLeft start log) where
  runs_if : (report : Option LiveReport) → RunsFrom batch materialize start log start.history script report own → RunsIf batch materialize start log script report own
  runs_if None runs = runs
  runs_if (Some report) runs = runs

  one_history_if : (report : Option LiveReport) → RunsFrom batch materialize start log start.history script report own → IfSome report (λ r. OneHistory (in_own_feeds batch) start log script r.replies.items)
  one_history_if None runs = tt
  one_history_if (Some report) runs = history_law batch materialize start log script report own runs all

  one_lane_if : (report : Option LiveReport) → RunsFrom batch materialize start log start.history script report own → materialize ≡ false → (lane : ℕ) → AreInLane lane script → IfSome report (λ r. RunsAlone batch start log script r.replies.items)
  one_lane_if None runs none lane are = tt
  one_lane_if (Some report) runs none lane are =
      lane_law batch lane start log script report own
      (subst (λ (m : Bool). RunsLive (in_own_feeds batch) m start log start.history script report own) none runs)
      all not_stopped follows fits are

  -- A last round that has a report was wanted.
  last_if : (m : Bool) (report : LiveReport) (last : live.LastResult) → report.last ≡ last → RunsLive (in_own_feeds batch) m start log start.history script report own → log.failed ≡ None → IsLastCurrent log.history last
  last_if m report None is runs sound = tt
  last_if m report (Some (Err error)) is runs sound = tt
  last_if true report (Some (Ok lines)) is runs sound = last_law batch start log script report own lines runs all follows sound is
  last_if false report (Some (Ok lines)) is runs sound =
      absurd (subst (λ (l : live.LastResult). LastRound start log runs.middle.history false l runs.lastly) is runs.last)

  current_if : (report : Option LiveReport) → RunsFrom batch materialize start log start.history script report own → log.failed ≡ None → IfSome report (λ r. IsLastCurrent log.history r.last)
  current_if None runs sound = tt
  current_if (Some report) runs sound = last_if materialize report report.last refl runs sound

  pub lives_store : (said : Result Transcript AllocError) → Lives batch materialize script start log start.history said own → LivesStore batch materialize script start log said own
  lives_store said is = record {
    report = is.report;
    runs = runs_if is.report is.runs;
    one_history = one_history_if is.report is.runs;
    one_lane = one_lane_if is.report is.runs;
    current = current_if is.report is.runs;
    says = is.says;
  }
