-- The laws of reports.
use Rattle.std.specs.Prelude.{◌≡◌, ℕ, ◌+◌, List, length}
use Rattle.std.specs.List.{AllByRecursion}
use Rattle.std.specs.Option.{is_some}
use Rattle.btr_hist.specs.declared.entry.Entry.{Entry}
use Rattle.btr_hist.specs.Legal.{Follows}
use Rattle.btr_plan.specs.Next.{IsUpToDate}
use Rattle.btr_hall.specs.declared.land.LandFault.{LandFault}
use Rattle.btr_hall.specs.declared.land.LandFault.TheVariants.{Superseded}
use Rattle.btr_gate.specs.Numbers.{times, given, one}
use Rattle.btr_jobs.specs.States.{StoreState, LogState}
use Rattle.btr_work.specs.declared.report.Refreshed.{Refreshed}
use Rattle.btr_work.specs.declared.report.Refreshed.TheVariants.{Landed, Current, Refused}
use Rattle.btr_work.specs.declared.report.RefreshLine.{RefreshLine}
use Rattle.btr_work.specs.Report.{Refreshes}

-- These are the numbers of all that was added since the history was `low`, and of the entry in whose step the device failed.
abbrev pub AreAllSince : List Entry → LogState → List ℕ → Type 0
AreAllSince low log own = (n : ℕ) → times n own ≡ given (length low) (length log.history + one (is_some log.failed)) n

-- The refusal is not that the output had another version since it was planned.
abbrev pub IsNotOvertaken : LandFault → Type 0
IsNotOvertaken (Superseded version) = ⊥
IsNotOvertaken fault = Unit {0}

-- If the result is no refusal, the output is up to date, and the version is its latest one. If it is one, it is not that another
-- version came first.
abbrev pub IsCurrentIn : List Entry → ℕ → Refreshed → Type 0
IsCurrentIn h output (Landed version) = IsUpToDate h output version
IsCurrentIn h output (Current version) = IsUpToDate h output version
IsCurrentIn h output (Refused fault) = IsNotOvertaken fault

-- If nobody else added anything, each output of the report whose result is no refusal is up to date in the end, and none was refused
-- because another version came first.
abbrev pub RefreshedIsCurrent : Type 0
RefreshedIsCurrent =
    (start : StoreState) (log : LogState) (low : List Entry) (report : List RefreshLine) (own : List ℕ)
    → Refreshes start log low report own → Follows log.history → AreAllSince low log own
    → AllByRecursion (λ line. IsCurrentIn log.history line.output line.result) report
