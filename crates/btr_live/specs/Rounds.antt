-- Rounds beside the lanes: each brings all outputs up to date once.
use Rattle.std.specs.Prelude.{◌≡◌, ◌⊎◌, ℕ, zero, suc, ◌+◌, List}
use Rattle.btr_hist.specs.declared.entry.Entry.{Entry}
use Rattle.btr_gate.specs.Prefixes.{StartsWith}
use Rattle.btr_gate.specs.Numbers.{times}
use Rattle.btr_jobs.specs.States.{StoreState, LogState, GoesOn}
use Rattle.btr_work.specs.declared.report.RefreshLine.{RefreshLine}
use Rattle.btr_work.specs.Report.{Refreshes}

-- One round, after all of `low` had been seen: each output was brought up to date once. A round that was not begun added nothing: all
-- lanes had ended, or there was no memory for it.
abbrev pub MakesRound : StoreState → LogState → List Entry → List ℕ → Type 0
MakesRound start log low own = ((report : List RefreshLine) × Refreshes start log low report own) ⊎ ((n : ℕ) → times n own ≡ 0)

-- At most this many rounds, one after another. `middle` is the log at the end of a round. Of it the round is said, and the next round
-- was made after all of its history had been seen. `own` are the numbers of what was added.
abbrev pub MakesRounds : StoreState → ℕ → List Entry → LogState → List ℕ → Type 0
MakesRounds start zero low late own = StartsWith late.history low × ((n : ℕ) → times n own ≡ 0)
MakesRounds start (suc count) low late own =
    (middle : LogState) × GoesOn start late middle × StartsWith middle.history low × (first rest : List ℕ)
    × MakesRound start middle low first × MakesRounds start count middle.history late rest
    × ((n : ℕ) → times n own ≡ times n first + times n rest)
