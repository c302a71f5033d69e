use Rattle.std.proofs.Common.{[]}
use Rattle.btr_jobs.specs.Jobs.{IsAt}
use Rattle.btr_jobs.proofs.DoesLemmas.{split_at, meet_at}
use Rattle.btr_jobs.proofs.RunLemmas.{did_none, did_both}
use Rattle.btr_jobs.proofs.InTurnLemmas.{in_turn_apart}
use Rattle.btr_jobs.proofs.run.run_jobs.Goals.{After-meet}
use Rattle.btr_jobs.proofs.run.run_jobs.Goals as goal

-- The session is of the hall after it took in the session of the jobs, as both were after the split.
met_at : (g : _) (c : After-meet g) → IsAt c.args.hall.now c.meet.new.self
met_at g c =
    let hall = c.args.hall.now in
    let kept = c.split-other.new.self in
    let both = split_at hall c.args.session.now kept c.split-other.result c.requires.at c.split-other.ensures.session c.split-other.ensures.other c.split-other.ensures.splits in
    meet_at hall kept c.share_out.new.worker.session c.meet.new.self both.0 c.share_out.ensures.at c.meet.ensures.session c.meet.ensures.meets

pub returns-clause-does : goal.returns-clause-does
returns-clause-does g c =
    let did = g.J.Job.did in
    let laws = g.met.J.Job g.world.𝓛 g.world.𝓜 g.world.𝓡 ((λ s x. x), (λ x. x), (λ x. x), λ x. x) in
    let hall = c.args.hall.now in
    let kept = c.split-other.new.self in
    let at = met_at g (goal.at.returns-clause-does g c).After-meet in
    did_both did hall laws.lasts c.args.session.now kept c.split-other.result kept c.share_out.new.worker.session c.meet.new.self c.split-other.ensures.splits c.meet.ensures.meets at [] [] c.args.jobs.now c.share_out.new.jobs (did_none did hall kept) c.share_out.ensures.does

pub returns-clause-in_turn : goal.returns-clause-in_turn
returns-clause-in_turn g c few =
    let at = met_at g (goal.at.returns-clause-in_turn g c).After-meet in
    in_turn_apart g.J.Job.did c.args.hall.now c.args.session.now c.split-other.new.self c.split-other.result c.share_out.new.worker.session c.meet.new.self c.split-other.ensures.splits c.meet.ensures.meets at c.args.jobs.now c.share_out.new.jobs (c.share_out.ensures.in_turn few)
