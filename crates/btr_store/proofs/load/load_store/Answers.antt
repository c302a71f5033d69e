-- The work was done on the device, what it added is allowed, and the laws of loads hold of it.
use Rattle.std.specs.Result.{result_ok}
use Rattle.std.proofs.Common.{inl, inr}
use Rattle.std.proofs.lemmas.Bool.{cases_lt}
use Rattle.btr_store.specs.Load.{LoadsRows, LoadsRowsInTurn, LoadsStore}
use Rattle.btr_store.proofs.WorkLemmas.{does_store}
use Rattle.btr_store.proofs.LoadLemmas.{says_some, loads_said, turn_said, loads_if_allowed, loads_reported, turn_reported, loads_store, loads_store_in_order}
use Rattle.btr_store.proofs.load.load_store.Goals as goal

pub returns-clause-plain : goal.returns-clause-plain
returns-clause-plain g c = c.close_hall.ensures.plain c.args.disk c.in_ok-hall.ensures.begun.opened

pub returns-clause-says : goal.returns-clause-says
returns-clause-says g c = says_some (result_ok c.load-loaded.result) c.say_loaded-said.result c.close_hall.result.said c.close_hall.ensures.said c.say_loaded-said.ensures

pub returns-clause-done : goal.returns-clause-done
returns-clause-done g c =
    let disk = g.D.Disk in
    let rows = c.args.rows in
    let batch = c.args.batch in
    let workers = c.args.workers in
    let loaded = c.load-loaded.result in
    let said = c.say_loaded-said.result in
    let reported = c.close_hall.result.said in
    let begun = c.in_ok-hall.ensures.begun in
    let hall = c.in_ok-hall.hall in
    let session = c.in_ok-hall.session in
    let last = c.load-loaded.new.session in
    let old = c.args.disk in
    let new = c.close_hall.result.disk in
    elim (cases_lt 1 workers) [
      | inl many ↦
          does_store disk (λ start log low own. LoadsRows start log low rows batch said own) (λ start log own. LoadsStore start log rows batch workers reported own) old new hall session last
          (λ start log own is. loads_if_allowed start log start.history rows batch is.loaded own is.loads)
          (λ start log own works legal is. loads_store disk old new start log rows batch workers own reported works many
          (loads_reported start log start.history rows batch said reported own c.close_hall.ensures.said is))
          begun
          (loads_said hall session last rows batch loaded said c.load-loaded.ensures.loads c.load-loaded.ensures.refused c.say_loaded-said.ensures)
          (c.close_hall.ensures.works old begun.opened) c.close_hall.result.failed (c.close_hall.ensures.failed old begun.opened)
      | inr few ↦
          does_store disk (λ start log low own. LoadsRowsInTurn start log low rows batch said own) (λ start log own. LoadsStore start log rows batch workers reported own) old new hall session last
          (λ start log own is. loads_if_allowed start log start.history rows batch is.did.loaded own is.did.loads)
          (λ start log own works legal is. loads_store_in_order disk old new start log rows batch workers own reported works
          (turn_reported start log start.history rows batch said reported own c.close_hall.ensures.said is))
          begun
          (turn_said hall session last rows batch loaded said (c.load-loaded.ensures.in_turn few) c.load-loaded.ensures.refused c.say_loaded-said.ensures)
          (c.close_hall.ensures.works old begun.opened) c.close_hall.result.failed (c.close_hall.ensures.failed old begun.opened)
    ]
