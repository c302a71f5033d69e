use Rattle.std.proofs.Common.{◌≡◌, drop}
use Rattle.btr_work.specs.Refreshing.{noted_all, jobs_in}
use Rattle.btr_work.proofs.filling.note_all.Given as goal

-- The results so far with those of the levels that are left are those of all levels.
abbrev pub invariant-loop-level : goal.invariant-loop-level
invariant-loop-level l = noted_all l.results (jobs_in (drop l.level-index l.levels)) ≡ noted_all l.fn.results (jobs_in l.levels)
