use Rattle.std.proofs.Common.{◌≡◌, length, take, drop}
use Rattle.btr_jobs.specs.Jobs.{IsAt, Does, AllKeep, DidInTurn}
use Rattle.btr_jobs.proofs.run.run_in_turn.Given as goal

abbrev pub invariant-loop-job : goal.invariant-loop-job
invariant-loop-job g l =
    IsAt l.hall l.session × (length l.jobs ≡ length l.initial.jobs)
    × (drop l.job-index l.jobs ≡ drop l.job-index l.initial.jobs)
    × AllKeep g.J.Job.keeps (take l.job-index l.initial.jobs) (take l.job-index l.jobs)
    × Does l.hall l.initial.session l.session (λ start log low own. DidInTurn g.J.Job.did start log low (take l.job-index l.initial.jobs) (take l.job-index l.jobs) own)
