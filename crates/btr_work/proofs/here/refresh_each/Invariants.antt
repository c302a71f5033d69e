-- The loop of jobs.
use Rattle.std.proofs.Common.{◌≡◌, length, take, drop}
use Rattle.btr_jobs.specs.Jobs.{IsAt, Does, DidInTurn}
use Rattle.btr_work.specs.Refreshing.{IsDone}
use Rattle.btr_work.proofs.here.refresh_each.Given as goal

-- the jobs up to here are done, and the others are what they were
abbrev pub invariant-loop-job : goal.invariant-loop-job
invariant-loop-job g l =
    IsAt l.hall l.session × (length l.jobs ≡ length l.initial.jobs)
    × (drop l.job-index l.jobs ≡ drop l.job-index l.initial.jobs)
    × Does l.hall l.initial.session l.session (λ start log low own. DidInTurn IsDone start log low (take l.job-index l.initial.jobs) (take l.job-index l.jobs) own)
