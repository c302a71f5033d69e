-- What was done at the hall was done on the device that its engine was opened on, and the status is said of that device.
use Rattle.std.proofs.Common.{◌∙◌, ap}
use Rattle.btr_engine.specs.declared.engine.Engine.{Engine}
use Rattle.btr_engine.specs.Engine.{device}
use Rattle.btr_hall.specs.Session.{opening_of, seen_of}
use Rattle.btr_store.proofs.WorkLemmas.{plain_on}
use Rattle.btr_store.proofs.WorksOn.{works_on, failed_in_step}
use Rattle.btr_store.proofs.work.close_hall.Goals as goal

pub returns : goal.returns
returns g c = record {
  said = c.confirmed.ensures.said;
  disk = c.into_parts-disk.ensures.disk ∙ ap (λ (e : Engine _ _). device e) c.close-engine.ensures.engine;
  failed = λ old opened h.
      failed_in_step (opening_of c.args.hall) c.close-engine.result (seen_of c.args.session) opened.runs c.close-engine.ensures.trace c.close-engine.ensures.engine h c.stopped-failed.result c.stopped-failed.ensures.answer;
  plain = λ old opened.
      plain_on g.D.Disk old c.into_parts-disk.result.0 (opening_of c.args.hall) c.close-engine.result opened c.close-engine.ensures.kept c.into_parts-disk.ensures.disk c.confirmed.result c.stopped-failed.result c.stopped-failed.ensures.failed c.confirmed.ensures.failed;
  works = λ old opened begun own begins goes h on.
      works_on g.D.Disk g.met.D.Disk.only_now g.met.D.Disk.counts_now old (opening_of c.args.hall) opened h on c.args.hall begun c.args.session own c.close-engine.result c.into_parts-disk.result.0 begins c.close-engine.ensures.trace c.close-engine.ensures.once c.close-engine.ensures.engine c.into_parts-disk.ensures.disk goes;
}
