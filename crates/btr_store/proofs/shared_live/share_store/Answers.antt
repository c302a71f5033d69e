-- The script ran on the device, what it added is allowed, and each output of the last round is up to date.
use Rattle.btr_store.specs.Live.{SaysSomeScript}
use Rattle.btr_store.specs.Shared.{SharesStore}
use Rattle.btr_store.specs.SharedLines.{SharesFrom}
use Rattle.btr_store.proofs.WorkLemmas.{does_store}
use Rattle.btr_store.proofs.TranscriptLemmas.{still_said}
use Rattle.btr_store.proofs.SharesLemmas.{shares_allowed, shares_reported, shares_store}
use Rattle.btr_store.proofs.shared_live.share_store.Goals as goal

pub returns-clause-plain : goal.returns-clause-plain
returns-clause-plain g c = c.close_hall.ensures.plain c.args.disk c.in_ok-hall.ensures.begun.opened

pub returns-clause-says : goal.returns-clause-says
returns-clause-says g c =
    still_said (SaysSomeScript c.args.materialize c.args.lines.items) c.share-said.result c.close_hall.result.said c.close_hall.ensures.said c.share-said.ensures.says

pub returns-clause-done : goal.returns-clause-done
returns-clause-done g c =
    let said = c.share-said.result in
    let reported = c.close_hall.result.said in
    let script = c.args.lines.items in
    let threshold = c.args.threshold in
    let materialize = c.args.materialize in
    let begun = c.in_ok-hall.ensures.begun in
    does_store g.D.Disk (λ start log low own. SharesFrom threshold materialize script start log low said own) (λ start log own. SharesStore threshold materialize script start log reported own) c.args.disk c.close_hall.result.disk c.in_ok-hall.hall c.in_ok-hall.session c.share-said.new.session
    (λ start log own is. shares_allowed threshold materialize script start log said own is)
    (λ start log own works legal is.
    shares_store threshold materialize script start log own works.each_once works.follows reported
    (shares_reported threshold materialize script start log start.history said reported own c.close_hall.ensures.said is))
    begun c.share-said.ensures.does (c.close_hall.ensures.works c.args.disk begun.opened) c.close_hall.result.failed (c.close_hall.ensures.failed c.args.disk begun.opened)
