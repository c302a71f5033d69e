-- What the report says of outputs that were to be brought up to date, level by level.
use Rattle.std.specs.Prelude.{◌≡◌, ℕ, ◌+◌, true, List, [], ◌∷◌, map, Result, Ok, Err}
use Rattle.btr_disk.specs.declared.disk.Disk.{Ghosts}
use Rattle.btr_hist.specs.declared.entry.Entry.{Entry}
use Rattle.btr_distil.specs.Plan.{PlanValue}
use Rattle.btr_plan.specs.Next.{IsUpToDate, IsNextPlan}
use Rattle.btr_streams.specs.declared.board.Receipt.{Receipt}
use Rattle.btr_engine.specs.Engine.{IsEngineOf}
use Rattle.btr_gate.specs.Prefixes.{StartsWith}
use Rattle.btr_gate.specs.Numbers.{times}
use Rattle.btr_hall.specs.declared.land.LandFault.{LandFault}
use Rattle.btr_hall.specs.declared.land.LandFault.TheVariants.{Stopped, Want}
use Rattle.btr_hall.specs.declared.session.Hall.{Hall}
use Rattle.btr_hall.specs.declared.session.Session.{Session}
use Rattle.btr_hall.specs.Trace.{stopped_in}
use Rattle.btr_hall.specs.Session.{opening_of, seen_of}
use Rattle.btr_jobs.specs.States.{StoreState, LogState, GoesOn}
use Rattle.btr_jobs.specs.Turns.{LandedAfter}
use Rattle.btr_work.specs.declared.report.Refreshed.{Refreshed}
use Rattle.btr_work.specs.declared.report.Refreshed.TheVariants.{Landed, Current, Refused}
use Rattle.btr_work.specs.declared.report.RefreshLine.{RefreshLine}
use Rattle.btr_work.specs.Levels.{AreLevels, by_levels, outputs}

-- ---- one output

-- A plan for the output was landed with this result, after all of `low` had been seen. It is what the model plans for it after `at`,
-- the history that was seen when it was made.
pub record IsPlanLanded (start : StoreState) (log : LogState) (low : List Entry) (output : ℕ) (result : Result Receipt LandFault)
    (own : List ℕ)
    : Type 0 where
  pub at : List Entry
  pub after : StartsWith at low
  pub seen : StartsWith log.history at
  pub plan : PlanValue
  pub planned : IsNextPlan at output plan
  pub next : List Entry
  pub landed : LandedAfter start log at plan result own next

-- The model plans nothing for the output after `at`, a history that was seen after all of `low`. Its latest version is this one.
pub record IsCurrentAt (log : LogState) (low : List Entry) (output version : ℕ) (own : List ℕ) : Type 0 where
  pub at : List Entry
  pub after : StartsWith at low
  pub seen : StartsWith log.history at
  pub current : IsUpToDate at output version
  pub none : own ≡ []

-- What became of an output, after all of `low` had been seen. `own` are the numbers of what was added for it, one at most. If the
-- memory ran out, nothing was added, and nothing else is said.
abbrev pub IsRefreshed : StoreState → LogState → List Entry → ℕ → Refreshed → List ℕ → Type 0
IsRefreshed start log low output (Landed version) own =
    (receipt : Receipt) × (version ≡ receipt.version) × IsPlanLanded start log low output (Ok receipt) own
IsRefreshed start log low output (Current version) own = IsCurrentAt log low output version own
IsRefreshed start log low output (Refused Want) own = own ≡ []
IsRefreshed start log low output (Refused fault) own = IsPlanLanded start log low output (Err fault) own

-- What can become of an output if the session had seen that the store is stopped: it is up to date, or it is refused since the store is
-- stopped, or there was no memory for a plan.
abbrev pub IsOfStopped : Refreshed → Type 0
IsOfStopped (Landed version) = ⊥
IsOfStopped (Current version) = Unit {0}
IsOfStopped (Refused (Stopped entries)) = Unit {0}
IsOfStopped (Refused Want) = Unit {0}
IsOfStopped (Refused fault) = ⊥

module _ {D : Type 0} {disk : Ghosts D} where
  -- The session has seen that the store is stopped, with which history the hall may have begun.
  abbrev pub KnowsStopped : Hall D disk → Session D disk → Type 0
  KnowsStopped hall s = (h : List Entry) × IsEngineOf h (opening_of hall) × (stopped_in (opening_of hall) (seen_of s) ≡ true)

-- ---- all outputs

-- The results of these outputs, each after all of `low` had been seen. `own` are the numbers of what was added for them.
abbrev pub RefreshesEach : StoreState → LogState → List Entry → (ℕ → Refreshed) → List ℕ → List ℕ → Type 0
RefreshesEach start log low result [] own = (n : ℕ) → times n own ≡ 0
RefreshesEach start log low result (output ∷ outputs) own =
    (first rest : List ℕ) × IsRefreshed start log low output (result output) first × RefreshesEach start log low result outputs rest
    × ((n : ℕ) → times n own ≡ times n first + times n rest)

-- The results of outputs by levels. `middle` is the log at the end of a level. Of it the results of the level are said, and each
-- output of the next level was planned after all of its history had been seen.
abbrev pub RefreshesLevels : StoreState → List Entry → (ℕ → Refreshed) → List (List ℕ) → LogState → List ℕ → Type 0
RefreshesLevels start low result [] late own = StartsWith late.history low × ((n : ℕ) → times n own ≡ 0)
RefreshesLevels start low result (level ∷ levels) late own =
    (middle : LogState) × GoesOn start late middle × StartsWith middle.history low × (first rest : List ℕ)
    × RefreshesEach start middle low result level first × RefreshesLevels start middle.history result levels late rest
    × ((n : ℕ) → times n own ≡ times n first + times n rest)

-- The report of a call, after this state of the log. The session had seen `low` before the call. The outputs and their levels are those of
-- `seen`, the history that it saw first. `own` are the numbers of what was added.
pub record Refreshes (start : StoreState) (log : LogState) (low : List Entry) (report : List RefreshLine) (own : List ℕ) : Type 0 where
  pub seen : List Entry
  pub after : StartsWith seen low
  pub before : StartsWith log.history seen
  pub levels : List (List ℕ)
  pub are : AreLevels seen levels
  pub result : ℕ → Refreshed
  pub lines : report ≡ map (λ output. record { output = output; result = result output }) (outputs seen)
  pub refreshes : RefreshesLevels start seen result levels log own

-- Each output of levels as a level of its own, in order.
abbrev pub one_by_one : List (List ℕ) → List (List ℕ)
one_by_one levels = map (λ output. output ∷ []) (by_levels levels)

-- The report of a call of one worker: each output was planned after all that was seen when the one before it was done.
pub record RefreshesInTurn (start : StoreState) (log : LogState) (low : List Entry) (report : List RefreshLine) (own : List ℕ)
    : Type 0 where
  pub refreshes : Refreshes start log low report own
  pub in_turn : RefreshesLevels start refreshes.seen refreshes.result (one_by_one refreshes.levels) log own
