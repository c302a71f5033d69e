-- What one worker leaves on a device: it plans and lands the outputs one after another, level by level. A landing is added if the model
-- accepts it and blocks are left for it.
use Rattle.std.specs.Prelude.{◌≡◌, ℕ, List, [], ◌∷◌, map, Option, Some, None}
use Rattle.std.specs.List.{AllByRecursion}
use Rattle.btr_hist.specs.declared.kernel.Spec.{Spec}
use Rattle.btr_hist.specs.History.{spec_of, latest}
use Rattle.btr_hist.specs.Legal.{Legal}
use Rattle.btr_hist.specs.Machine.{Landing, planned, landing}
use Rattle.btr_hall.specs.declared.land.LandFault.TheVariants as faults
use Rattle.btr_jobs.specs.States.{StoreState, LogState}
use Rattle.btr_jobs.specs.PlainStore.{PlainStore, TakeResult, take_result, store_after, first_store, RunsThrough}
use Rattle.btr_jobs.specs.PlainStore.TakeResult.{Taken, Rejected, Full}
use Rattle.btr_work.specs.declared.report.Refreshed.{Refreshed}
use Rattle.btr_work.specs.declared.report.Refreshed.TheVariants.{Landed, Current, Refused}
use Rattle.btr_work.specs.declared.report.RefreshLine.{RefreshLine}
use Rattle.btr_work.specs.Levels.{AreLevels, by_levels, outputs}
use Rattle.btr_work.specs.Report.{RefreshesInTurn}
use Rattle.btr_work.specs.Laws.{AreAllSince}

-- ---- one output

-- What the store has after a landing for an output of this spec, if the model plans one.
abbrev pub store_landed : PlainStore → Spec → Option Landing → PlainStore
store_landed c spec None = c
store_landed c spec (Some plan) = store_after c (landing c.history plan spec)

-- What it has after a stream is brought up to date, if that is an output of this spec.
abbrev pub store_refreshed : PlainStore → ℕ → Option Spec → PlainStore
store_refreshed c output None = c
store_refreshed c output (Some spec) = store_landed c spec (planned c.history output spec)

-- What became of an output, if this became of its landing. A legal history gives one rejection alone: the output has as many versions
-- as a stream can have.
abbrev pub refreshed_by : TakeResult → Refreshed
refreshed_by (Taken receipt) = Landed receipt.version
refreshed_by (Rejected why) = Refused faults.VersionLimit
refreshed_by (Full need left) = Refused (faults.DeviceFull need left)

-- What becomes of an output of this spec: it is up to date, or what the model plans for it is landed.
abbrev pub result_landed : PlainStore → ℕ → Spec → Option Landing → Refreshed
result_landed c output spec None = Current (latest c.history output)
result_landed c output spec (Some plan) = refreshed_by (take_result c (landing c.history plan spec))

abbrev pub result_refreshed : PlainStore → ℕ → Option Spec → Refreshed
result_refreshed c output None = Current (latest c.history output)
result_refreshed c output (Some spec) = result_landed c output spec (planned c.history output spec)

-- ---- outputs one after another

-- What the store has after outputs.
abbrev pub store_each : PlainStore → List ℕ → PlainStore
store_each c [] = c
store_each c (output ∷ outputs) = store_each (store_refreshed c output (spec_of c.history output)) outputs

-- The results are what becomes of these outputs.
abbrev pub SaysEach : PlainStore → (ℕ → Refreshed) → List ℕ → Type 0
SaysEach c result [] = Unit {0}
SaysEach c result (output ∷ outputs) =
    (result output ≡ result_refreshed c output (spec_of c.history output))
    × SaysEach (store_refreshed c output (spec_of c.history output)) result outputs

-- ---- the law

-- The memory sufficed for the output.
abbrev pub HadMemoryToLand : Refreshed → Type 0
HadMemoryToLand (Refused faults.Want) = ⊥
HadMemoryToLand result = Unit {0}

-- The history and the report are those that one worker leaves of the outputs by levels.
pub record IsRefreshedInOrder (start : StoreState) (log : LogState) (levels : List (List ℕ)) (report : List RefreshLine) : Type 0 where
  pub history : log.history ≡ (store_each (first_store start) (by_levels levels)).history
  pub result : ℕ → Refreshed
  pub says : SaysEach (first_store start) result (by_levels levels)
  pub lines : report ≡ map (λ output. record { output = output; result = result output }) (outputs start.history)

-- If nobody else added anything since the hall began, and memory and device did not fail, one worker leaves just this.
abbrev pub RefreshedInOrder : Type 0
RefreshedInOrder =
    (start : StoreState) (log : LogState) (report : List RefreshLine) (own : List ℕ) (levels : List (List ℕ))
    → RunsThrough start log → Legal log.history → AreAllSince start.history log own
    → RefreshesInTurn start log start.history report own → AreLevels start.history levels
    → AllByRecursion (λ line. HadMemoryToLand line.result) report
    → IsRefreshedInOrder start log levels report
