-- What the private functions promise that bring outputs up to date.
use Rattle.std.specs.Prelude.{◌≡◌, ℕ, List, [], ◌∷◌, length, map, slice_set, slice_index_or, Result, IfOk}
use Rattle.std.specs.declared.alloc.AllocError.{AllocError}
use Rattle.btr_disk.specs.declared.disk.Disk.{Ghosts}
use Rattle.btr_hist.specs.declared.entry.Entry.{Entry}
use Rattle.btr_hist.specs.History.{ids}
use Rattle.btr_distil.specs.Plan.{PlanValue}
use Rattle.btr_plan.specs.declared.planning.Next.{Next}
use Rattle.btr_plan.specs.Next.{IsNext, IsNextPlan}
use Rattle.btr_engine.specs.Engine.{IsEngineOf}
use Rattle.btr_hall.specs.declared.land.LandFault.TheVariants.{Want}
use Rattle.btr_hall.specs.declared.session.Hall.{Hall}
use Rattle.btr_hall.specs.declared.session.Session.{Session}
use Rattle.btr_hall.specs.Trace.{history_of}
use Rattle.btr_hall.specs.Session.{opening_of, seen_of}
use Rattle.btr_jobs.specs.States.{StoreState, LogState}
use Rattle.btr_work.specs.declared.refreshing.OutputJob.{OutputJob}
use Rattle.btr_work.specs.declared.prepare.Level.{Level}
use Rattle.btr_work.specs.declared.prepare.Work.{Work}
use Rattle.btr_work.specs.declared.report.Refreshed.{Refreshed}
use Rattle.btr_work.specs.declared.report.Refreshed.TheVariants.{Refused}
use Rattle.btr_work.specs.declared.report.RefreshLine.{RefreshLine}
use Rattle.btr_work.specs.Levels.{AreLevels, outputs}
use Rattle.btr_work.specs.Report.{IsRefreshed}

-- The job was done: it is that of the same output, and says what became of it.
pub record IsDone (start : StoreState) (log : LogState) (low : List Entry) (was now : OutputJob) (own : List ℕ) : Type 0 where
  pub output : now.output ≡ was.output
  pub refreshed : IsRefreshed start log low was.output now.result own

module _ {D : Type 0} {disk : Ghosts D} where
  -- This is planned for the output after all that the session has seen, unless the memory ran out.
  abbrev pub IsNextAt : Hall D disk → Session D disk → ℕ → Result Next AllocError → Type 0
  IsNextAt hall s output next = (h : List Entry) → IsEngineOf h (opening_of hall) → IfOk next (IsNext (history_of h (seen_of s)) output)

  -- The plan is the one that the model makes for the output after all that the session has seen.
  abbrev pub IsPlannedAt : Hall D disk → Session D disk → ℕ → PlanValue → Type 0
  IsPlannedAt hall s output plan = (h : List Entry) → IsEngineOf h (opening_of hall) → IsNextPlan (history_of h (seen_of s)) output plan

-- ---- what is made ready

-- The outputs of jobs.
abbrev pub outputs_in : List OutputJob → List ℕ
outputs_in jobs = map (λ j. j.output) jobs

-- The jobs of levels.
abbrev pub jobs_in : List Level → List (List OutputJob)
jobs_in levels = map (λ l. l.jobs.items) levels

-- Their outputs.
abbrev pub groups_in : List Level → List (List ℕ)
groups_in levels = map (λ l. outputs_in l.jobs.items) levels

-- The line of an output for which nothing was done.
abbrev pub blank_line : ℕ → RefreshLine
blank_line output = record { output = output; result = Refused Want }

-- The work for the outputs of a history, before any was done.
pub record IsPrepared (h : List Entry) (work : Work) : Type 0 where
  pub levels : AreLevels h (groups_in work.levels.items)
  pub lines : work.lines.items ≡ map blank_line (outputs h)
  pub results : length work.results.items ≡ length (ids h)

-- ---- how the report is filled in

-- The results of streams, with those of jobs in their places.
abbrev pub noted : List Refreshed → List OutputJob → List Refreshed
noted results [] = results
noted results (job ∷ jobs) = noted (slice_set results job.output job.result) jobs

-- The same with the jobs of levels.
abbrev pub noted_all : List Refreshed → List (List OutputJob) → List Refreshed
noted_all results [] = results
noted_all results (jobs ∷ levels) = noted_all (noted results jobs) levels

-- The result of an output.
abbrev pub result_at : List Refreshed → ℕ → Refreshed
result_at results output = slice_index_or results output (Refused Want)

-- A line with the result of its output.
abbrev pub filled : List Refreshed → RefreshLine → RefreshLine
filled results line = record { output = line.output; result = result_at results line.output }
