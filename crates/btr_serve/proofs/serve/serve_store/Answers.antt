-- A talk at a store that was opened; then its hall, whose session is alone again, is closed.
use Rattle.std.proofs.Common.{refl}
use Rattle.btr_store.specs.declared.status.Status.TheVariants.{Done}
use Rattle.btr_store.proofs.TranscriptLemmas.{still_said}
use Rattle.btr_serve.specs.declared.store_desk.StoreDesk.{StoreDesk}
use Rattle.btr_serve.specs.Serves.{HasStatus}
use Rattle.btr_serve.proofs.ServeLemmas.{did_nothing, begins_serving, through_all, still_alone, serves}
use Rattle.btr_serve.proofs.serve.serve_store.Goals as goal

pub talk-end-requires-clause-new : goal.talk-end-requires-clause-new
talk-end-requires-clause-new g c κs within =
    let begun : StoreDesk g.row.D.Denot g.D.Disk = record { alloc = c.args.system.alloc; hall = c.in_ok-hall.hall; session = c.in_ok-hall.session; feeds = c.new.result; status = Done } in
    did_nothing begun (begins_serving c.args.batch c.args.disk begun c.in_ok-hall.ensures.begun c.new.ensures refl).none refl

pub close_hall-requires-clause-alone : goal.close_hall-requires-clause-alone
close_hall-requires-clause-alone g c =
    let begun : StoreDesk g.row.D.Denot g.D.Disk = record { alloc = c.args.system.alloc; hall = c.in_ok-hall.hall; session = c.in_ok-hall.session; feeds = c.new.result; status = Done } in
    let now : StoreDesk g.row.D.Denot g.D.Disk = c.talk-end.new.desk in
    still_alone begun now (through_all c.talk-end.result.moments.items begun now c.talk-end.ensures.talks.through) c.in_ok-hall.ensures.begun.begins.alone

pub returns-clause-serves : goal.returns-clause-serves
returns-clause-serves g c =
    let disk = g.D.Disk in
    let begun : StoreDesk g.row.D.Denot g.D.Disk = record { alloc = c.args.system.alloc; hall = c.in_ok-hall.hall; session = c.in_ok-hall.session; feeds = c.new.result; status = Done } in
    let now : StoreDesk g.row.D.Denot g.D.Disk = c.talk-end.new.desk in
    let closed = c.close_hall.ensures in
    serves disk g.S.Source g.K.Sink g.met.D.Disk.only_now g.met.D.Disk.counts_now c.args.batch c.args.limit c.args.source.now c.talk-end.new.source c.args.sink.now c.talk-end.new.sink c.args.disk c.close_hall.result.disk
    c.talk-end.result.end c.close_hall.result.said c.close_hall.result.failed c.talk-end.result.moments.items c.talk-end.result.asked.items begun now
    c.one_session_is_the_model.ensures
    (begins_serving c.args.batch c.args.disk begun c.in_ok-hall.ensures.begun c.new.ensures refl)
    c.talk-end.ensures.talks
    (still_said (HasStatus now.status) _ c.close_hall.result.said closed.said (record { same_status = refl; no_text = c.new-2.ensures.items }))
    (closed.plain c.args.disk) c.talk-end.ensures.ready closed.disk (closed.failed c.args.disk) (closed.works c.args.disk)
