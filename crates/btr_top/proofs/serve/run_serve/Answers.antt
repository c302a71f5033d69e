-- The run ends as the talk did, and hands on its moments.
use Rattle.std.specs.Prelude.{List}
use Rattle.std.proofs.Common.{inr, sym, subst₂}
use Rattle.btr_serve.specs.declared.course.Course.{Course}
use Rattle.btr_serve.specs.Serves.{Serves}
use Rattle.btr_top.proofs.ServeCauses.{talk_later}
use Rattle.btr_serve.specs.Desk.{store_desk}
use Rattle.btr_top.proofs.serve.run_serve.Goals as goal

pub returns-in-Ok-clause-cause : goal.returns-in-Ok-clause-cause
returns-in-Ok-clause-cause g c =
    let served = c.in-Ok.served in
    let did = c.served_result.ensures in
    inr (record {
      end = served.end;
      said = served.worked.said;
      failed = served.worked.failed;
      serves = subst₂ (λ (d : _) (k : Course _ _ _ _). Serves g.D.Disk g.S.Source g.K.Sink c.args.batch 268435456 c.args.source.now c.serve_store.new.source c.args.sink.now c.serve_store.new.sink c.args.disk d served.end served.worked.said served.worked.failed k.moments.items k.asked.items)
          (sym did.disk) (sym did.course) c.in-Ok.ensures.serves;
      ends = did.ending;
    })

pub returns-in-Ok-clause-later : goal.returns-in-Ok-clause-later
returns-in-Ok-clause-later g c =
    let serves = c.in-Ok.ensures.serves in
    let served = c.in-Ok.served in
    talk_later g.S.Source g.K.Sink (store_desk g.D.Disk) 268435456 c.args.source.now c.serve_store.new.source c.args.sink.now c.serve_store.new.sink serves.begun serves.now served.end served.course.moments.items served.course.asked.items serves.talks
