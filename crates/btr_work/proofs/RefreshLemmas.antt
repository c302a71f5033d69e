-- Lemmas on one output that is brought up to date in a session: from its turns to what became of it.
use Rattle.std.specs.Prelude.{◌≡◌, ℕ, Bool, true, false, ◌||◌, List, [], ◌++◌, length, Result, Ok, Err}
use Rattle.std.proofs.Common.{refl, sym, ap, ◌∙◌, subst}
use Rattle.btr_disk.specs.declared.disk.Disk.{Ghosts}
use Rattle.btr_hist.specs.declared.entry.Entry.{Entry}
use Rattle.btr_distil.specs.Plan.{PlanValue}
use Rattle.btr_plan.specs.Next.{IsUpToDate}
use Rattle.btr_streams.specs.declared.board.Receipt.{Receipt}
use Rattle.btr_engine.specs.declared.engine.Engine.{Engine}
use Rattle.btr_engine.specs.Engine.{IsEngineOf, is_stopped}
use Rattle.btr_gate.specs.Prefixes.{StartsWith}
use Rattle.btr_gate.proofs.PrefixLemmas.{starts_refl}
use Rattle.btr_hall.specs.declared.land.LandFault.{LandFault}
use Rattle.btr_hall.specs.declared.land.LandFault.TheVariants as faults
use Rattle.btr_hall.specs.declared.session.Hall.{Hall}
use Rattle.btr_hall.specs.declared.session.Session.{Session}
use Rattle.btr_hall.specs.declared.item.Item.{Item}
use Rattle.btr_hall.specs.Trace.{history_of, has_halt, stopped_in}
use Rattle.btr_hall.proofs.TraceLemmas.{halt_append}
use Rattle.btr_hall.specs.Session.{IsSame, Looks, opening_of, seen_of}
use Rattle.btr_hall.specs.Landing.{Lands}
use Rattle.btr_jobs.specs.States.{StoreState, LogState, log_seen, start_of}
use Rattle.btr_jobs.specs.Jobs.{IsAt, Does}
use Rattle.btr_jobs.proofs.StateLemmas.{history_goes_on}
use Rattle.btr_jobs.proofs.DoesLemmas.{goes_none, does_none, does_then}
use Rattle.btr_jobs.proofs.TurnLemmas.{land_turn, look_turn}
use Rattle.btr_work.specs.declared.report.Refreshed.{Refreshed}
use Rattle.btr_work.specs.declared.report.Refreshed.TheVariants as refreshed
use Rattle.btr_work.specs.Report.{IsPlanLanded, IsRefreshed, IsOfStopped, KnowsStopped}
use Rattle.btr_work.specs.Refreshing.{IsPlannedAt}
use Rattle.btr_work.specs.ReportLaws.{refreshed_lowers}

or_more : (a b c : Bool) → (a || b) ≡ true → (a || (b || c)) ≡ true
or_more true b c is = refl
or_more false true c is = refl
or_more false false c is = absurd (cc)

module _ {D : Type 0} {disk : Ghosts D} where
  -- A list that begins with one after which the store is stopped is one after which it is stopped.
  pub stopped_longer : (x : Engine D disk) (l k : List (Item D disk)) → StartsWith l k → stopped_in x k ≡ true → stopped_in x l ≡ true
  stopped_longer x l k starts is =
      ap (λ b. is_stopped x || b) (ap (has_halt {disk = disk}) starts.1 ∙ halt_append k starts.0)
      ∙ or_more (is_stopped x) (has_halt k) (has_halt starts.0) is

  -- After a look a session knows what it knew.
  pub knows_after : (hall : Hall D disk) (old new : Session D disk) → Looks hall old new → KnowsStopped hall old → KnowsStopped hall new
  knows_after hall old new looks knows =
      (knows.0, knows.1, stopped_longer (opening_of hall) (seen_of new) (seen_of old) looks.grows knows.2)

-- A refused landing.
refused-by : (start : StoreState) (log : LogState) (low : List Entry) (output : ℕ) (fault : LandFault) (own : List ℕ) → IsPlanLanded start log low output (Err fault) own → IsRefreshed start log low output (refreshed.Refused fault) own
refused-by start log low output (faults.Stopped entries) own is = is
refused-by start log low output faults.Sealed own is = is
refused-by start log low output (faults.Superseded version) own is = is
refused-by start log low output faults.VersionLimit own is = is
refused-by start log low output (faults.Crowded at) own is = is
refused-by start log low output (faults.TooManyPoints count) own is = is
refused-by start log low output faults.Want own is = is.landed.3.2.own
refused-by start log low output (faults.DeviceFull need left) own is = is
refused-by start log low output faults.DeviceFault own is = is

module _ {D : Type 0} {disk : Ghosts D} (hall : Hall D disk) (output : ℕ) where
  module _ (old new : Session D disk) where
    landed-turn : (plan : PlanValue) (result : Result Receipt LandFault) → IsSame old new → Lands hall old new plan result → IsPlannedAt hall old output plan → Does hall old new (λ start log low own. IsPlanLanded start log low output result own)
    landed-turn plan result same lands planned =
        let turn = land_turn hall old new plan result same lands in (
          turn.0,
          turn.1,
          λ h of. record {
            at = (log_seen h old).history;
            after = starts_refl (log_seen h old).history;
            seen = history_goes_on h new old turn.1.seen;
            plan = plan;
            planned = planned h of;
            next = (turn.2 h of).0;
            landed = (turn.2 h of).1;
          },
        )

    -- A plan was landed.
    pub landed-refreshed : (plan : PlanValue) (receipt : Receipt) → IsSame old new → Lands hall old new plan (Ok receipt) → IsPlannedAt hall old output plan → Does hall old new (λ start log low own. IsRefreshed start log low output (refreshed.Landed receipt.version) own)
    landed-refreshed plan receipt same lands planned =
        let turn = landed-turn plan (Ok receipt) same lands planned in
        (turn.0, turn.1, λ h of. (receipt, refl, turn.2 h of))

    -- A landing was refused.
    pub refused-refreshed : (plan : PlanValue) (fault : LandFault) → IsSame old new → Lands hall old new plan (Err fault) → IsPlannedAt hall old output plan → Does hall old new (λ start log low own. IsRefreshed start log low output (refreshed.Refused fault) own)
    refused-refreshed plan fault same lands planned =
        let turn = landed-turn plan (Err fault) same lands planned in
        (turn.0, turn.1, λ h of. refused-by (start_of h hall) (log_seen h new) (log_seen h old).history output fault turn.0 (turn.2 h of))

  -- There was no memory.
  pub want-refreshed : (s : Session D disk) → Does hall s s (λ start log low own. IsRefreshed start log low output (refreshed.Refused faults.Want) own)
  want-refreshed s =
      does_none hall s (λ start log low own. IsRefreshed start log low output (refreshed.Refused faults.Want) own) (λ start log. refl)

  -- The output was up to date.
  pub current-refreshed : (s : Session D disk) (version : ℕ) → ((h : List Entry) → IsEngineOf h (opening_of hall) → IsUpToDate (history_of h (seen_of s)) output version) → Does hall s s (λ start log low own. IsRefreshed start log low output (refreshed.Current version) own)
  current-refreshed s version current = (
    [],
    goes_none s,
    λ h of. record {
      at = (log_seen h s).history;
      after = starts_refl (log_seen h s).history;
      seen = starts_refl (log_seen h s).history;
      current = current h of;
      none = refl;
    },
  )

  -- The output was brought up to date after a look.
  pub look-refreshed : (old mid new : Session D disk) (result : Refreshed) → IsAt hall new → Looks hall old mid → Does hall mid new (λ start log low own. IsRefreshed start log low output result own) → Does hall old new (λ start log low own. IsRefreshed start log low output result own)
  look-refreshed old mid new result at looks does =
      let turn = look_turn hall old mid looks (λ _. Unit {0}) (λ h of. tt) in
      does_then hall old mid new (λ start log low own. (own ≡ []) × StartsWith log.history low × Unit {0}) (λ start log low own. IsRefreshed start log low output result own) (λ start log low own. IsRefreshed start log low output result own) at
      (λ start late early low a b on starts first second.
      subst (λ own. IsRefreshed start late low output result (own ++ b)) (sym first.0) (refreshed_lowers start late early.history low output result b starts second))
      turn does

-- ---- a store that is stopped

module _ {D : Type 0} {disk : Ghosts D} (hall : Hall D disk) (old new : Session D disk) (plan : PlanValue) where
  stops : (result : Result Receipt LandFault) → Lands hall old new plan result → (knows : KnowsStopped hall old) → (count : ℕ) × (result ≡ Err (faults.Stopped count))
  stops result lands knows =
      (length (history_of knows.0 lands.before), lands.stopped (stopped_longer (opening_of hall) lands.before (seen_of old) lands.grows knows.2) knows.0 knows.1)

  -- Nothing is landed.
  pub lands-stopped : (receipt : Receipt) (version : ℕ) → Lands hall old new plan (Ok receipt) → KnowsStopped hall old → IsOfStopped (refreshed.Landed version)
  lands-stopped receipt version lands knows = let is = (stops (Ok receipt) lands knows).1 in absurd (cc)

  -- What is refused is refused for that reason.
  pub refuses-stopped : (fault : LandFault) → Lands hall old new plan (Err fault) → KnowsStopped hall old → IsOfStopped (refreshed.Refused fault)
  refuses-stopped fault lands knows =
      let is = stops (Err fault) lands knows in
      of fault is.0 is.1
    where
      refused : LandFault → Result Receipt LandFault
      refused fault = Err fault

      of : (fault : LandFault) (count : ℕ) → refused fault ≡ refused (faults.Stopped count) → IsOfStopped (refreshed.Refused fault)
      of (faults.Stopped entries) count is = tt
      of faults.Sealed count is = absurd (cc)
      of (faults.Superseded version) count is = absurd (cc)
      of faults.VersionLimit count is = absurd (cc)
      of (faults.Crowded at) count is = absurd (cc)
      of (faults.TooManyPoints points) count is = absurd (cc)
      of faults.Want count is = tt
      of (faults.DeviceFull need left) count is = absurd (cc)
      of faults.DeviceFault count is = absurd (cc)
