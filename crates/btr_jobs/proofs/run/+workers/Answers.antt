use Rattle.std.proofs.Common.{◌++◌, sym, ◌∙◌, subst}
use denote.Param.Send.{sendable}
use Rattle.std.proofs.Crossing.{crosses}
use Rattle.btr_jobs.specs.Jobs.{IsAt, Does, AllKeep}
use Rattle.btr_jobs.proofs.CrossingLemmas.{worker_send}
use Rattle.btr_jobs.proofs.RunLemmas.{Did, did_both, keep_append}
use Rattle.btr_jobs.proofs.InTurnLemmas.{in_turn_all}
use Rattle.btr_jobs.proofs.run.+workers.Goals as goal

pub both_halves-join_mut-requires-send-F : goal.both_halves-join_mut-requires-send-F
both_halves-join_mut-requires-send-F g t c κs within =
    let rt = c.requires.crossing.0 in
    let device = c.requires.crossing.1 in
    let job = c.requires.crossing.2 in
    let pace = c.requires.crossing.3 in
    search (sendable, crosses, worker_send) depth 40

pub share_out-returns-then-workers-le1-clause-does : goal.share_out-returns-then-workers-le1-clause-does
share_out-returns-then-workers-le1-clause-does g t c =
    let laws = g.met.J.Job g.world.𝓛 g.world.𝓜 g.world.𝓡 ((λ s x. x), (λ x. x), (λ x. x), λ x. x) in
    in_turn_all g.J.Job.did c.args.worker.now.hall.now laws.lasts laws.lowers c.args.worker.now.session c.run_in_turn.new.session c.args.jobs.now c.run_in_turn.new.jobs c.run_in_turn.ensures.in_turn

pub share_out-returns-clause-does : goal.share_out-returns-clause-does
share_out-returns-clause-does g t c =
    let did = g.J.Job.did in
    let laws = g.met.J.Job g.world.𝓛 g.world.𝓜 g.world.𝓡 ((λ s x. x), (λ x. x), (λ x. x), λ x. x) in
    let hall = c.args.worker.now.hall.now in
    let old = c.args.worker.now.session in
    let kept = c.split-other.new.self.session in
    let other = c.split-other.result.session in
    let left = c.both_halves.new.worker.session in
    let right = c.both_halves.new.other.session in
    let new = c.meet.new.self.session in
    let low = c.split_at_mut-low.result.0.now in
    let high = c.split_at_mut-low.result.1.now in
    let first = subst (λ (w : _). Does w.now kept left (Did did low c.both_halves.new.low)) c.split-other.ensures.hall c.both_halves.ensures.low in
    let second = subst (λ (w : _). Does w.now other right (Did did high c.both_halves.new.high)) c.split-other.ensures.other_hall c.both_halves.ensures.high in
    let at : IsAt hall new = subst (λ (w : _). IsAt w.now new) (c.both_halves.ensures.halls.0 ∙ c.split-other.ensures.hall) c.meet.ensures.at in
    let all = did_both did hall laws.lasts old kept other left right new c.split-other.ensures.splits c.meet.ensures.meets at low c.both_halves.new.low high c.both_halves.new.high first second in
    subst (λ l. Does hall old new (Did did l (c.both_halves.new.low ++ c.both_halves.new.high))) (sym c.split_at_mut-low.ensures.value) all

pub share_out-returns-clause-keep : goal.share_out-returns-clause-keep
share_out-returns-clause-keep g t c =
    let keeps = g.J.Job.keeps in
    let low = c.split_at_mut-low.result.0.now in
    let high = c.split_at_mut-low.result.1.now in
    subst (λ l. AllKeep keeps l (c.both_halves.new.low ++ c.both_halves.new.high)) (sym c.split_at_mut-low.ensures.value)
    (keep_append keeps low c.both_halves.new.low high c.both_halves.new.high c.both_halves.ensures.low_keep c.both_halves.ensures.high_keep)
