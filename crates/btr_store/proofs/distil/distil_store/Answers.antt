-- The work was done on the device, what it added is allowed, and the laws of reports hold of it.
use Rattle.std.proofs.Common.{inl, inr}
use Rattle.std.proofs.lemmas.Bool.{cases_lt}
use Rattle.btr_store.specs.Distil.{Distils, DistilsInTurn, DistilsStore, SaysSomeReport}
use Rattle.btr_store.proofs.TranscriptLemmas.{still_said}
use Rattle.btr_store.proofs.WorkLemmas.{does_store}
use Rattle.btr_store.proofs.DistilLemmas.{distils_allowed, distils_reported, turn_reported, distils_store, distils_store_in_order}
use Rattle.btr_store.proofs.distil.distil_store.Goals as goal

pub returns-clause-plain : goal.returns-clause-plain
returns-clause-plain g c = c.close_hall.ensures.plain c.args.disk c.in_ok-hall.ensures.begun.opened

pub returns-clause-says : goal.returns-clause-says
returns-clause-says g c =
    still_said SaysSomeReport c.distil-said.result c.close_hall.result.said c.close_hall.ensures.said c.distil-said.ensures.says

pub returns-clause-done : goal.returns-clause-done
returns-clause-done g c =
    let disk = g.D.Disk in
    let workers = c.args.workers in
    let said = c.distil-said.result in
    let reported = c.close_hall.result.said in
    let begun = c.in_ok-hall.ensures.begun in
    let hall = c.in_ok-hall.hall in
    let session = c.in_ok-hall.session in
    let last = c.distil-said.new.session in
    let old = c.args.disk in
    let new = c.close_hall.result.disk in
    elim (cases_lt 1 workers) [
      | inl many ↦
          does_store disk (λ start log low own. Distils start log low said own) (λ start log own. DistilsStore start log workers reported own) old new hall session last
          (λ start log own is. distils_allowed start log said own is)
          (λ start log own works legal is. distils_store disk old new start log workers own reported works legal many
          (distils_reported start log start.history said reported own c.close_hall.ensures.said is))
          begun c.distil-said.ensures.does (c.close_hall.ensures.works old begun.opened) c.close_hall.result.failed (c.close_hall.ensures.failed old begun.opened)
      | inr few ↦
          does_store disk (λ start log low own. DistilsInTurn start log low said own) (λ start log own. DistilsStore start log workers reported own) old new hall session last
          (λ start log own is. distils_allowed start log said own is.did)
          (λ start log own works legal is. distils_store_in_order disk old new start log workers own reported works legal
          (turn_reported start log start.history said reported own c.close_hall.ensures.said is))
          begun (c.distil-said.ensures.in_turn few) (c.close_hall.ensures.works old begun.opened) c.close_hall.result.failed (c.close_hall.ensures.failed old begun.opened)
    ]
