use Rattle.std.proofs.Common.{◌<◌, ◌+◌, length, [], ◌∷◌, ◌++◌, take, refl, sym, subst, arith}
use Rattle.btr_jobs.specs.Jobs.{AllKeep, Does}
use Rattle.btr_jobs.proofs.RunLemmas.{length_after, rest_after, items_more, keep_push, now_more}
use Rattle.btr_jobs.proofs.InTurnLemmas.{InTurn, in_turn_none, in_turn_more}
use Rattle.btr_jobs.proofs.run.run_in_turn.Goals as goal

pub loop-job-init : goal.loop-job-init
loop-job-init g c = (c.requires.at, refl, refl, tt, in_turn_none g.J.Job.did c.args.hall.now c.args.session.now)

pub loop-job-preserved : goal.loop-job-preserved
loop-job-preserved g c =
    let did = g.J.Job.did in
    let laws = g.met.J.Job g.world.𝓛 g.world.𝓜 g.world.𝓡 ((λ s x. x), (λ x. x), (λ x. x), λ x. x) in
    let hall = c.args.hall.now in
    let i = c.loop-job.job-index in
    let jobs = c.args.jobs.now in
    let now = c.loop-job.jobs in
    let was = c.job-item.result in
    let done = c.run.new.self in
    let long = c.loop-job.invariant.1 in
    let rest = c.loop-job.invariant.2 in
    let inside : i < length now = omega arith in
    let one = subst (λ w. Does hall c.loop-job.session c.run.new.session (λ start log low own. did start log low w done own)) (sym c.job-item.is) c.run.ensures.does in
    let more = in_turn_more did hall laws.lowers c.args.session.now c.loop-job.session c.run.new.session (take i jobs) (take i now) was done c.run.ensures.at c.loop-job.invariant.4 one in
    let same = c.job-item.is in
    let before = items_more jobs now i was done inside long rest same in
    let after = now_more jobs now i was done inside long rest same in
    let all = subst (λ l. Does hall c.args.session.now c.run.new.session (InTurn did (take (i + 1) jobs) l)) after (subst (λ l. Does hall c.args.session.now c.run.new.session (InTurn did l (take i now ++ done ∷ []))) before more) in
    let keeps = g.J.Job.keeps in
    let kept = subst (λ w. keeps w done) (sym c.job-item.is) c.run.ensures.keeps in
    let keep = subst (λ l. AllKeep keeps (take (i + 1) jobs) l) after (subst (λ l. AllKeep keeps l (take i now ++ done ∷ [])) before (keep_push keeps (take i jobs) (take i now) was done c.loop-job.invariant.3 kept)) in
    (c.run.ensures.at, length_after jobs now i was done inside long rest same, rest_after jobs now i was done inside long rest same, keep, all)
