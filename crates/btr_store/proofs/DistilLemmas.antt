-- Lemmas on the work of bringing each output up to date: what is said of it, and that what it adds is allowed.
use Rattle.std.specs.Prelude.{◌≡◌, ℕ, ◌<◌, ◌≤◌, false, List, [], ◌∷◌, length, map, Option, Some, None, Result, Ok, Err, IfOk, IfSome}
use Rattle.std.specs.declared.alloc.AllocError.{AllocError}
use Rattle.std.proofs.Common.{sym, ap, ◌∙◌, subst, arith}
use Rattle.btr_disk.specs.declared.disk.Disk.{Ghosts}
use Rattle.btr_hist.specs.declared.entry.Entry.{Entry}
use Rattle.btr_hist.specs.Legal.{Follows, Legal}
use Rattle.btr_engine.specs.Engine.{IsEngineOf}
use Rattle.btr_gate.specs.Numbers.{times}
use Rattle.btr_gate.specs.Prefixes.{StartsWith}
use Rattle.btr_gate.specs.Shares.{covers, on_path}
use Rattle.btr_hall.specs.declared.session.Hall.{Hall}
use Rattle.btr_hall.specs.declared.session.Session.{Session}
use Rattle.btr_hall.specs.Trace.{history_of}
use Rattle.btr_hall.specs.Session.{IsAlone, opening_of, seen_of}
use Rattle.btr_jobs.specs.States.{StoreState, LogState, GoesOn, start_of, log_seen}
use Rattle.btr_jobs.specs.Jobs.{Goes, Does}
use Rattle.btr_jobs.specs.PlainStore.{RunsThrough}
use Rattle.btr_jobs.proofs.StateLemmas.{log_at}
use Rattle.btr_streams.specs.declared.board.Receipt.{Receipt}
use Rattle.btr_hall.specs.declared.land.LandFault.{LandFault}
use Rattle.btr_hall.specs.declared.land.LandFault.TheVariants as faults
use Rattle.btr_work.specs.declared.report.Refreshed.{Refreshed}
use Rattle.btr_work.specs.declared.report.Refreshed.TheVariants.{Landed, Current, Refused}
use Rattle.btr_work.specs.declared.report.RefreshLine.{RefreshLine}
use Rattle.btr_work.specs.Report.{IsPlanLanded, IsRefreshed, RefreshesEach, RefreshesLevels, Refreshes, RefreshesInTurn}
use Rattle.btr_work.specs.ReportLaws.{refreshed_lasts}
use Rattle.btr_work.proofs.CurrentLemmas.{refreshed-current}
use Rattle.btr_work.proofs.AlikeLemmas.{refreshed-alike}
use Rattle.btr_work.proofs.InOrderLemmas.{refreshed-in-order}
use Rattle.btr_store.specs.declared.transcript.Transcript.{Transcript}
use Rattle.btr_store.specs.Streams.{Stays}
use Rattle.btr_store.specs.Transcript.{SaysLines}
use Rattle.btr_store.specs.Distil.{output_line, RefreshesIf, SaysReport, Distils, DistilsInTurn, AreCurrent, AreUndisturbed, AreOfOneWorker}
use Rattle.btr_store.specs.Distil.{HadMemoryForOutputs, AreRefreshedInOrder, DistilsStore}
use Rattle.btr_store.specs.Work.{AddsAllowed, OwnsEachOnce, Works}
use Rattle.btr_store.proofs.Allowing.{allows_none, allows_nothing, allows_both, allows_landed}
use Rattle.btr_store.proofs.DistilCompletes.{report_completes}
use Rattle.btr_store.proofs.WorkLemmas.{works_run}

says_report : (report : List RefreshLine) (said : Result Transcript AllocError) (h : List Entry) → IfOk said (SaysLines (map (output_line h) report)) → SaysReport h (Some report) said
says_report report (Ok transcript) h is = is
says_report report (Err error) h is = tt

module _ {D : Type 0} {disk : Ghosts D} where
  -- A session that stays as it is is still alone.
  pub stays_alone : (old new : Session D disk) → Stays old new → IsAlone old → IsAlone new
  stays_alone old new stays alone = ap covers stays.same.share ∙ alone

  -- It went on no further.
  pub goes_stays : (old mid new : Session D disk) (own : List ℕ) → Goes old mid own → Stays mid new → Goes old new own
  goes_stays old mid new own goes stays = record {
    seen = subst (λ l. StartsWith l (seen_of old)) (sym stays.seen) goes.seen;
    mine = λ n. ap (times n) stays.mine ∙ goes.mine n;
    fresh = λ n some. subst (λ l. (length (seen_of old) < n) × (n ≤ length l)) (sym stays.seen) (goes.fresh n some);
    start = stays.same.start ∙ goes.start;
    paths = λ path. ap (on_path path) stays.same.share ∙ goes.paths path;
  }

  -- What was said of a report was said of the history at the end.
  pub distils_said : (hall : Hall D disk) (old mid new : Session D disk) (report : List RefreshLine) (said : Result Transcript AllocError) → Does hall old mid (λ start log low own. Refreshes start log low report own) → Stays mid new → ((h : List Entry) → IsEngineOf h (opening_of hall) → IfOk said (SaysLines (map (output_line (history_of h (seen_of mid))) report))) → Does hall old new (λ start log low own. Distils start log low said own)
  distils_said hall old mid new report said does stays says = (
    does.0,
    goes_stays old mid new does.0 does.1 stays,
    λ h of.
        subst (λ l. Distils (start_of h hall) (log_at h l) (log_seen h old).history said does.0) (sym stays.seen)
        (record {
          report = Some report;
          refreshes = does.2 h of;
          says = says_report report said (history_of h (seen_of mid)) (says h of);
        }),
  )

  -- The same of one worker.
  pub turn_said : (hall : Hall D disk) (old mid new : Session D disk) (report : List RefreshLine) (said : Result Transcript AllocError) → Does hall old mid (λ start log low own. RefreshesInTurn start log low report own) → Stays mid new → ((h : List Entry) → IsEngineOf h (opening_of hall) → IfOk said (SaysLines (map (output_line (history_of h (seen_of mid))) report))) → Does hall old new (λ start log low own. DistilsInTurn start log low said own)
  turn_said hall old mid new report said does stays says = (
    does.0,
    goes_stays old mid new does.0 does.1 stays,
    λ h of.
        subst (λ l. DistilsInTurn (start_of h hall) (log_at h l) (log_seen h old).history said does.0) (sym stays.seen)
        (record {
          did = record {
            report = Some report;
            refreshes = (does.2 h of).refreshes;
            says = says_report report said (history_of h (seen_of mid)) (says h of);
          };
          in_turn = does.2 h of;
        }),
  )

  -- Memory ran out before any output.
  pub distils_none : (hall : Hall D disk) (old new : Session D disk) (error : AllocError) → Does hall old new (λ start log low own. (n : ℕ) → times n own ≡ 0) → Does hall old new (λ start log low own. Distils start log low (Err error) own)
  distils_none hall old new error does =
      (does.0, does.1, λ h of. record { report = None; refreshes = does.2 h of; says = tt })

  pub turn_none : (hall : Hall D disk) (old new : Session D disk) (error : AllocError) → Does hall old new (λ start log low own. (n : ℕ) → times n own ≡ 0) → Does hall old new (λ start log low own. DistilsInTurn start log low (Err error) own)
  turn_none hall old new error does =
      (does.0, does.1, λ h of. record { did = record { report = None; refreshes = does.2 h of; says = tt }; in_turn = tt })

-- What was said holds of what is said in the end: the same, or that memory ran out.
still_says : (h : List Entry) (report : Option (List RefreshLine)) (said reported : Result Transcript AllocError) → IfOk reported (λ t. said ≡ Ok t) → SaysReport h report said → SaysReport h report reported
still_says h report said (Err error) is says = tt
still_says h report said (Ok transcript) is says = subst (λ (s : Result Transcript AllocError). SaysReport h report s) is says

pub distils_reported : (start : StoreState) (log : LogState) (low : List Entry) (said reported : Result Transcript AllocError) (own : List ℕ) → IfOk reported (λ t. said ≡ Ok t) → Distils start log low said own → Distils start log low reported own
distils_reported start log low said reported own is did =
    record { report = did.report; refreshes = did.refreshes; says = still_says log.history did.report said reported is did.says }

pub turn_reported : (start : StoreState) (log : LogState) (low : List Entry) (said reported : Result Transcript AllocError) (own : List ℕ) → IfOk reported (λ t. said ≡ Ok t) → DistilsInTurn start log low said own → DistilsInTurn start log low reported own
turn_reported start log low said reported own is turn = record {
  did = record {
    report = turn.did.report;
    refreshes = turn.did.refreshes;
    says = still_says log.history turn.did.report said reported is turn.did.says;
  };
  in_turn = turn.in_turn;
}

-- ---- what it adds is allowed

module _ (start : StoreState) where
  plan_allowed : (log : LogState) (low : List Entry) (output : ℕ) (result : Result Receipt LandFault) (own : List ℕ) → IsPlanLanded start log low output result own → AddsAllowed log own
  plan_allowed log low output result own is = allows_landed start log is.at is.plan result own is.next is.planned.of is.landed

  refreshed_allowed : (log : LogState) (low : List Entry) (output : ℕ) (result : Refreshed) (own : List ℕ) → IsRefreshed start log low output result own → AddsAllowed log own
  refreshed_allowed log low output (Landed version) own is = plan_allowed log low output (Ok is.0) own is.2
  refreshed_allowed log low output (Current version) own is = allows_nothing log own is.none
  refreshed_allowed log low output (Refused (faults.Stopped entries)) own is = plan_allowed log low output (Err (faults.Stopped entries)) own is
  refreshed_allowed log low output (Refused faults.Sealed) own is = plan_allowed log low output (Err faults.Sealed) own is
  refreshed_allowed log low output (Refused (faults.Superseded version)) own is = plan_allowed log low output (Err (faults.Superseded version)) own is
  refreshed_allowed log low output (Refused faults.VersionLimit) own is = plan_allowed log low output (Err faults.VersionLimit) own is
  refreshed_allowed log low output (Refused (faults.Crowded at)) own is = plan_allowed log low output (Err (faults.Crowded at)) own is
  refreshed_allowed log low output (Refused (faults.TooManyPoints count)) own is = plan_allowed log low output (Err (faults.TooManyPoints count)) own is
  refreshed_allowed log low output (Refused faults.Want) own is = allows_nothing log own is
  refreshed_allowed log low output (Refused (faults.DeviceFull need left)) own is = plan_allowed log low output (Err (faults.DeviceFull need left)) own is
  refreshed_allowed log low output (Refused faults.DeviceFault) own is = plan_allowed log low output (Err faults.DeviceFault) own is

  each_allowed : (late middle : LogState) (low : List Entry) (result : ℕ → Refreshed) (outputs own : List ℕ) → GoesOn start late middle → RefreshesEach start middle low result outputs own → AddsAllowed late own
  each_allowed late middle low result [] own on each = allows_none late own each
  each_allowed late middle low result (output ∷ outputs) own on each =
      allows_both late own each.0 each.1 each.4
      (refreshed_allowed late low output (result output) each.0 (refreshed_lasts start late middle low output (result output) each.0 on each.2))
      (each_allowed late middle low result outputs each.1 on each.3)

  levels_allowed : (low : List Entry) (result : ℕ → Refreshed) (levels : List (List ℕ)) (late : LogState) (own : List ℕ) → RefreshesLevels start low result levels late own → AddsAllowed late own
  levels_allowed low result [] late own refreshes = allows_none late own refreshes.1
  levels_allowed low result (level ∷ levels) late own refreshes =
      let middle : LogState = refreshes.0 in
      allows_both late own refreshes.3 refreshes.4 refreshes.7
      (each_allowed late middle low result level refreshes.3 refreshes.1 refreshes.5)
      (levels_allowed middle.history result levels late refreshes.4 refreshes.6)

  pub refreshes_allowed : (log : LogState) (low : List Entry) (report : List RefreshLine) (own : List ℕ) → Refreshes start log low report own → AddsAllowed log own
  refreshes_allowed log low report own refreshes = levels_allowed refreshes.seen refreshes.result refreshes.levels log own refreshes.refreshes

  refreshes_if_allowed : (log : LogState) (low : List Entry) (report : Option (List RefreshLine)) (own : List ℕ) → RefreshesIf start log low report own → AddsAllowed log own
  refreshes_if_allowed log low None own refreshes = allows_none log own refreshes
  refreshes_if_allowed log low (Some report) own refreshes = refreshes_allowed log low report own refreshes

  -- What it adds is allowed.
  pub distils_allowed : (log : LogState) (said : Result Transcript AllocError) (own : List ℕ) → Distils start log start.history said own → AddsAllowed log own
  distils_allowed log said own is = refreshes_if_allowed log start.history is.report own is.refreshes

-- ---- what the laws of reports say of it, if nobody else added anything

module _ (start : StoreState) (log : LogState) (own : List ℕ) (each : OwnsEachOnce start log own) where
  report_current : (report : Option (List RefreshLine)) → Follows log.history → RefreshesIf start log start.history report own → IfSome report (AreCurrent log.history)
  report_current None follows refreshes = tt
  report_current (Some report) follows refreshes = refreshed-current start log start.history report own refreshes follows each

  report_alike : (report : Option (List RefreshLine)) → Legal log.history → RefreshesIf start log start.history report own → IfSome report (λ report. AreUndisturbed report → AreOfOneWorker log.history start.history report)
  report_alike None legal refreshes = tt
  report_alike (Some report) legal refreshes = λ undisturbed levels are.
      refreshed-alike start log start.history report own levels refreshes legal each are undisturbed

  report_in_order : (report : Option (List RefreshLine)) → RunsThrough start log → Legal log.history → IfSome report (λ report. RefreshesInTurn start log start.history report own) → IfSome report (λ report. HadMemoryForOutputs report → AreRefreshedInOrder start log report)
  report_in_order None ran legal turn = tt
  report_in_order (Some report) ran legal turn = λ memory levels are.
      refreshed-in-order start log report own levels ran legal each turn are memory

  store_distils : (workers : ℕ) (said : Result Transcript AllocError) (is : Distils start log start.history said own) → Follows log.history → (Legal start.history → Legal log.history) → (workers ≤ 1 → Legal start.history → start.sealed ≡ false → log.failed ≡ None → IfSome is.report (λ report. HadMemoryForOutputs report → AreRefreshedInOrder start log report)) → DistilsStore start log workers said own
  store_distils workers said is follows legal order = record {
    did = is;
    current = report_current is.report follows is.refreshes;
    alike = λ before. report_alike is.report (legal before) is.refreshes;
    in_order = order;
    completes = report_completes start log own is.report said each follows is.refreshes is.says;
  }

module _ {D : Type 0} (disk : Ghosts D) (old new : D) (start : StoreState) (log : LogState) (workers : ℕ) (own : List ℕ) (said : Result Transcript AllocError) (works : Works disk start log own old new) (legal : Legal start.history → Legal log.history) where
  -- Many workers brought the outputs up to date.
  pub distils_store : 1 < workers → Distils start log start.history said own → DistilsStore start log workers said own
  distils_store many is =
      store_distils start log own works.each_once workers said is works.follows legal (λ few. absurd (omega (arith, many, few)))

  -- One worker did.
  pub distils_store_in_order : DistilsInTurn start log start.history said own → DistilsStore start log workers said own
  distils_store_in_order is =
      store_distils start log own works.each_once workers said is.did works.follows legal
      (λ few before unsealed whole. report_in_order start log own works.each_once is.did.report (works_run disk start log own old new works unsealed whole) (legal before) is.in_turn)
