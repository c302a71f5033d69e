-- A script with shared buffers that ran in a session: what was said of it, and what holds of it if nobody else used the store.
use Rattle.std.specs.Prelude.{◌≡◌, ℕ, ◌+◌, ◌≤◌, Bool, true, false, List, [], length, Option, Some, None, Result, Ok, Err, IfOk, IfSome}
use Rattle.std.specs.Option.{is_some}
use Rattle.std.specs.declared.alloc.AllocError.{AllocError}
use Rattle.std.proofs.Common.{refl, sym, subst, arith}
use Rattle.btr_disk.specs.declared.disk.Disk.{Ghosts}
use Rattle.btr_hist.specs.declared.entry.Entry.{Entry}
use Rattle.btr_hist.specs.Legal.{Follows}
use Rattle.btr_engine.specs.Engine.{IsEngineOf}
use Rattle.btr_text.specs.declared.script.ScriptLine.{ScriptLine}
use Rattle.btr_gate.specs.Numbers.{one, total, times}
use Rattle.btr_hall.specs.declared.session.Hall.{Hall}
use Rattle.btr_hall.specs.declared.session.Session.{Session}
use Rattle.btr_hall.specs.Session.{opening_of}
use Rattle.btr_jobs.specs.States.{StoreState, LogState, start_of, log_seen}
use Rattle.btr_jobs.specs.Jobs.{Does}
use Rattle.btr_jobs.proofs.StateLemmas.{log_at}
use Rattle.btr_jobs.proofs.DoesLemmas.{does_implied}
use Rattle.btr_work.specs.Laws.{AreAllSince}
use Rattle.btr_live.specs.declared.live.LiveReport.{LiveReport}
use Rattle.btr_live.specs.OneHistory.{times_all}
use Rattle.btr_live.specs.Live.{LastRound}
use Rattle.btr_live.proofs.CurrentLemmas.{round_current}
use Rattle.btr_store.specs.declared.transcript.Transcript.{Transcript}
use Rattle.btr_store.specs.Streams.{Stays}
use Rattle.btr_store.specs.Work.{AddsAllowed}
use Rattle.btr_store.specs.Live as live
use Rattle.btr_store.specs.Live.{SaysLive, SaysScript, IsLastCurrent}
use Rattle.btr_store.specs.Shared.{RunsInBuffers, RunsInBuffersIf, SharesStore}
use Rattle.btr_store.specs.SharedLines.{SharesFrom}
use Rattle.btr_store.proofs.Allowing.{allows_nothing}
use Rattle.btr_store.proofs.DistilLemmas.{goes_stays}
use Rattle.btr_store.proofs.LiveLemmas.{says_report, still_says}
use Rattle.btr_store.proofs.SharedAllowing.{shared_allowed}

-- ---- in a session

module _ {D : Type 0} {disk : Ghosts D} (threshold : ℕ) (materialize : Bool) (script : List ScriptLine) (hall : Hall D disk) where
  -- What was said of a report was said of the store at the end.
  pub shares_said : (old mid new : Session D disk) (report : LiveReport) (said : Result Transcript AllocError) → Does hall old mid (λ start log low own. RunsInBuffers threshold materialize start log low script report own) → Stays mid new → ((h : List Entry) → IsEngineOf h (opening_of hall) → IfOk said (SaysLive (log_seen h mid) report)) → Does hall old new (λ start log low own. SharesFrom threshold materialize script start log low said own)
  shares_said old mid new report said does stays says = (
    does.0,
    goes_stays old mid new does.0 does.1 stays,
    λ h of.
        subst (λ l. SharesFrom threshold materialize script (start_of h hall) (log_at h l) (log_seen h old).history said does.0) (sym stays.seen)
        (record {
          report = Some report;
          runs = does.2 h of;
          says = says_report report said (log_seen h mid) (says h of);
        }),
  )

  -- Memory ran out before any line.
  pub shares_none : (old new : Session D disk) (error : AllocError) → Does hall old new (λ start log low own. own ≡ []) → Does hall old new (λ start log low own. SharesFrom threshold materialize script start log low (Err error) own)
  shares_none old new error does =
      does_implied hall old new (λ start log low own. own ≡ []) (λ start log low own. SharesFrom threshold materialize script start log low (Err error) own)
      (λ start log low own none. record { report = None; runs = none; says = tt })
      does

module _ (threshold : ℕ) (materialize : Bool) (script : List ScriptLine) (start : StoreState) (log : LogState) where
  pub shares_reported : (low : List Entry) (said reported : Result Transcript AllocError) (own : List ℕ) → IfOk reported (λ t. said ≡ Ok t) → SharesFrom threshold materialize script start log low said own → SharesFrom threshold materialize script start log low reported own
  shares_reported low said reported own is did =
      record { report = did.report; runs = did.runs; says = still_says log did.report said reported is did.says }

  -- ---- what it adds is allowed

  runs_allowed : (report : Option LiveReport) (own : List ℕ) → RunsInBuffersIf threshold materialize start log start.history script report own → AddsAllowed log own
  runs_allowed None own runs = allows_nothing log own runs
  runs_allowed (Some report) own runs = shared_allowed threshold materialize start log start.history script report own runs

  pub shares_allowed : (said : Result Transcript AllocError) (own : List ℕ) → SharesFrom threshold materialize script start log start.history said own → AddsAllowed log own
  shares_allowed said own is = runs_allowed is.report own is.runs

  -- ---- what holds of it, if nobody else added anything

  module _ (own : List ℕ) (all : AreAllSince start.history log own) (follows : Follows log.history) where
    -- A last round that has a report was wanted.
    last_if : (m : Bool) (report : LiveReport) (last : live.LastResult) → report.last ≡ last → RunsInBuffers threshold m start log start.history script report own → log.failed ≡ None → IsLastCurrent log.history last
    last_if m report None is runs sound = tt
    last_if m report (Some (Err error)) is runs sound = tt
    last_if true report (Some (Ok lines)) is runs sound =
        round_current start log runs.middle start.history own runs.lastly (λ n. times_all n runs.mine runs.beside + total (times n) runs.batches) report.last lines runs.goes_on runs.after all runs.numbers
        (λ whole n some.
        let inside = runs.inside n some in
        let none = subst (λ (f : _). one (is_some f) ≡ 0) (sym whole) refl in
        omega (arith, inside, none))
        runs.last follows sound is
    last_if false report (Some (Ok lines)) is runs sound =
        absurd (subst (λ (l : live.LastResult). LastRound start log runs.middle.history false l runs.lastly) is runs.last)

    current_if : (report : Option LiveReport) → RunsInBuffersIf threshold materialize start log start.history script report own → log.failed ≡ None → IfSome report (λ r. IsLastCurrent log.history r.last)
    current_if None runs sound = tt
    current_if (Some report) runs sound = last_if materialize report report.last refl runs sound

    pub shares_store : (said : Result Transcript AllocError) → SharesFrom threshold materialize script start log start.history said own → SharesStore threshold materialize script start log said own
    shares_store said is = record {
      report = is.report;
      runs = is.runs;
      once = all;
      current = current_if is.report is.runs;
      says = is.says;
    }
