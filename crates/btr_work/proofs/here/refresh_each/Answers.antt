-- One job more is done.
use Rattle.std.proofs.Common.{◌≡◌, ◌<◌, ◌+◌, ℕ, List, zero, suc, length, [], ◌∷◌, ◌++◌, take, get_or, refl, subst, arith}
use Rattle.btr_jobs.specs.Jobs.{Does}
use Rattle.btr_jobs.proofs.RunLemmas.{length_after, rest_after, items_more, now_more}
use Rattle.btr_jobs.proofs.InTurnLemmas.{InTurn, in_turn_none, in_turn_more}
use Rattle.btr_work.specs.declared.refreshing.OutputJob.{OutputJob}
use Rattle.btr_work.specs.declared.report.Refreshed.TheVariants.{Landed}
use Rattle.btr_work.specs.Refreshing.{IsDone}
use Rattle.btr_work.specs.ReportLaws.{done_lowers}
use Rattle.btr_work.proofs.here.refresh_each.Goals as goal

-- An item that is there does not depend on what is taken if there is none.
get_or-same : (jobs : List OutputJob) (i : ℕ) (d e : OutputJob) → i < length jobs → get_or jobs i d ≡ get_or jobs i e
get_or-same [] i d e inside = absurd (omega (arith, inside))
get_or-same (job ∷ jobs) zero d e inside = refl
get_or-same (job ∷ jobs) (suc i) d e inside = get_or-same jobs i d e (omega (arith, inside))

pub loop-job-init : goal.loop-job-init
loop-job-init g c = (c.requires.at, refl, refl, in_turn_none IsDone c.args.hall.now c.args.session.now)

pub loop-job-preserved : goal.loop-job-preserved
loop-job-preserved g c =
    let hall = c.args.hall.now in
    let mid = c.loop-job.session in
    let new = c.bring.new.session in
    let i = c.loop-job.job-index in
    let jobs = c.args.jobs.now in
    let now = c.loop-job.jobs in
    let was : OutputJob = get_or now i (record { output = 0; threads = 0; result = Landed 0 }) in
    let done : OutputJob = c.bring.new.self in
    let long = c.loop-job.invariant.1 in
    let rest = c.loop-job.invariant.2 in
    let inside : i < length now = omega arith in
    let more = in_turn_more IsDone hall done_lowers c.args.session.now mid new (take i jobs) (take i now) was done c.bring.ensures.at c.loop-job.invariant.3 c.bring.ensures.done in
    let same : was ≡ get_or now i was = get_or-same now i (record { output = 0; threads = 0; result = Landed 0 }) was inside in
    let before = items_more jobs now i was done inside long rest same in
    let after = now_more jobs now i was done inside long rest same in
    let all = subst (λ l. Does hall c.args.session.now new (InTurn IsDone (take (i + 1) jobs) l)) after (subst (λ l. Does hall c.args.session.now new (InTurn IsDone l (take i now ++ done ∷ []))) before more) in
    (c.bring.ensures.at, length_after jobs now i was done inside long rest same, rest_after jobs now i was done inside long rest same, all)
