-- The script ran on the device, what it added is allowed, and the laws of scripts hold of it.
use Rattle.btr_store.specs.Live.{LivesStore, SaysSomeScript}
use Rattle.btr_store.specs.LiveLines.{Lives}
use Rattle.btr_store.proofs.WorkLemmas.{does_store}
use Rattle.btr_store.proofs.TranscriptLemmas.{still_said}
use Rattle.btr_store.proofs.LiveLemmas.{lives_allowed, lives_reported, lives_store}
use Rattle.btr_store.proofs.live.live_store.Goals as goal

pub returns-clause-plain : goal.returns-clause-plain
returns-clause-plain g c = c.close_hall.ensures.plain c.args.disk c.in_ok-hall.ensures.begun.opened

pub returns-clause-says : goal.returns-clause-says
returns-clause-says g c =
    still_said (SaysSomeScript c.args.materialize c.args.lines.items) c.live-said.result c.close_hall.result.said c.close_hall.ensures.said c.live-said.ensures.says

pub returns-clause-done : goal.returns-clause-done
returns-clause-done g c =
    let said = c.live-said.result in
    let reported = c.close_hall.result.said in
    let script = c.args.lines.items in
    let batch = c.args.batch in
    let materialize = c.args.materialize in
    let begun = c.in_ok-hall.ensures.begun in
    does_store g.D.Disk (λ start log low own. Lives batch materialize script start log low said own) (λ start log own. LivesStore batch materialize script start log reported own) c.args.disk c.close_hall.result.disk c.in_ok-hall.hall c.in_ok-hall.session c.live-said.new.session
    (λ start log own is. lives_allowed batch materialize script start log said own is)
    (λ start log own works legal is.
    lives_store c.runs_are_one_history.ensures c.one_lane_is_the_model.ensures c.last_is_current.ensures batch materialize script start log own works.each_once works.not_stopped works.follows works.fits reported
    (lives_reported batch materialize script start log start.history said reported own c.close_hall.ensures.said is))
    begun c.live-said.ensures.does (c.close_hall.ensures.works c.args.disk begun.opened) c.close_hall.result.failed (c.close_hall.ensures.failed c.args.disk begun.opened)
