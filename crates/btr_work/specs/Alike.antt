-- What one worker leaves: outputs landed one after another, and the report of that.
use Rattle.std.specs.Prelude.{◌≡◌, ℕ, nat_lt, List, [], ◌∷◌, map, if◌then◌else◌}
use Rattle.std.specs.List.{AllByRecursion}
use Rattle.std.specs.Option.{is_some}
use Rattle.btr_hist.specs.declared.entry.Entry.{Entry}
use Rattle.btr_hist.specs.History.{spec_of, commits, recorded, latest}
use Rattle.btr_hist.specs.Legal.{Legal}
use Rattle.btr_hist.specs.Machine.{plan_of, after_landing}
use Rattle.btr_hall.specs.declared.land.LandFault.TheVariants as faults
use Rattle.btr_jobs.specs.States.{StoreState, LogState}
use Rattle.btr_work.specs.declared.report.Refreshed.{Refreshed}
use Rattle.btr_work.specs.declared.report.Refreshed.TheVariants.{Landed, Current, Refused}
use Rattle.btr_work.specs.declared.report.RefreshLine.{RefreshLine}
use Rattle.btr_work.specs.Levels.{AreLevels, outputs}
use Rattle.btr_work.specs.Report.{Refreshes}
use Rattle.btr_work.specs.Laws.{AreAllSince}

-- The history after the landing of what the model plans for an output, if it plans anything.
abbrev pub landed_next : List Entry → ℕ → List Entry
landed_next h output = after_landing h (plan_of h output (spec_of h output))

-- The history after outputs were planned and landed, one after another.
abbrev pub landed_each : List Entry → List ℕ → List Entry
landed_each h [] = h
landed_each h (output ∷ outputs) = landed_each (landed_next h output) outputs

-- The same, level by level.
abbrev pub landed_levels : List Entry → List (List ℕ) → List Entry
landed_levels h [] = h
landed_levels h (level ∷ levels) = landed_levels (landed_each h level) levels

-- What became of an output, by the histories before and after: it has a new version, or it is up to date, or it has as many versions
-- as a stream can have.
abbrev pub result_by : List Entry → List Entry → ℕ → Refreshed
result_by before after output =
    if nat_lt (latest before output) (latest after output) then Landed (latest after output)
    else if is_some (plan_of after output (spec_of after output)) then Refused faults.VersionLimit
    else Current (latest after output)

-- The result came neither from the memory nor from the device, nor from a seal.
abbrev pub IsUndisturbed : Refreshed → Type 0
IsUndisturbed (Refused (faults.Stopped entries)) = ⊥
IsUndisturbed (Refused faults.Sealed) = ⊥
IsUndisturbed (Refused faults.Want) = ⊥
IsUndisturbed (Refused (faults.DeviceFull need left)) = ⊥
IsUndisturbed (Refused faults.DeviceFault) = ⊥
IsUndisturbed result = Unit {0}

-- Each stream has the same commits in both histories, with the same reads, and the report is that of the second one.
pub record IsAlike (h after low : List Entry) (report : List RefreshLine) : Type 0 where
  pub commits : (stream : ℕ) → commits h stream ≡ commits after stream
  pub recorded : (stream : ℕ) → recorded h stream ≡ recorded after stream
  pub lines : report ≡ map (λ output. record { output = output; result = result_by low after output }) (outputs low)

-- If nobody else added anything, the store was not sealed, and the memory and the device sufficed, any number of workers leaves the commits
-- and makes the report of one that lands the outputs one after another, level by level, each level in rising order.
abbrev pub RefreshedIsAlike : Type 0
RefreshedIsAlike =
    (start : StoreState) (log : LogState) (low : List Entry) (report : List RefreshLine) (own : List ℕ) (levels : List (List ℕ))
    → Refreshes start log low report own → Legal log.history → AreAllSince low log own → AreLevels low levels
    → AllByRecursion (λ line. IsUndisturbed line.result) report
    → IsAlike log.history (landed_levels low levels) low report
