use Rattle.std.proofs.Common.{◌≡◌, drop}
use Rattle.btr_work.specs.Refreshing.{noted}
use Rattle.btr_work.proofs.filling.note.Given as goal

-- The results so far with those of the jobs that are left are those of all jobs.
abbrev pub invariant-loop-job : goal.invariant-loop-job
invariant-loop-job l = noted l.results (drop l.job-index l.jobs) ≡ noted l.fn.results l.jobs
