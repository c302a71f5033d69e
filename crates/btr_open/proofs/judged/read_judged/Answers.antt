use Rattle.std.proofs.Common.{refl, sym, ◌∙◌, subst}
use Rattle.btr_log.specs.Log.{log_device}
use Rattle.btr_super.specs.Super.{IsSuper}
use Rattle.btr_open.specs.Reading.{LogCause}
use Rattle.btr_open.proofs.FirstReading.{first-table, log-judged, cause-judged}
use Rattle.btr_open.proofs.LogWalkLemmas.{walked-of}
use Rattle.btr_open.proofs.judged.read_judged.Goals as goal

pub new-walk-requires : goal.new-walk-requires
new-walk-requires g c =
    let size = g.D.Disk.size c.args.disk in
    record { table = subst (IsSuper size) (sym c.first_reading.ensures) (first-table size c.args.found c.requires.table) }

pub returns-in-Ok-clause-read : goal.returns-in-Ok-clause-read
returns-in-Ok-clause-read g c reported =
    let made = c.new-walk.ensures in
    let d = log_device c.new-walk.result.log in
    let new = c.read_log-read.new.self in
    let judge = c.read_log-read.new.judge in
    let read = c.in-Ok.ensures.walked in
    let is = walked-of c.new-walk.result new judge _ (made.same_super ∙ c.first_reading.ensures) read in
    rw (c.into_parts-disk.ensures.loader, c.into_parts-disk.ensures.place) (log-judged g.D.Disk g.J.Judge c.args.found c.args.disk d made.device new.loader judge (record { nodes = new.loader.nodes; tail = new.place.gate }) is.1 read.closed is.0.inside refl reported)

pub returns-in-Err-clause-cause : goal.returns-in-Err-clause-cause
returns-in-Err-clause-cause g c =
    let made = c.new-walk.ensures in
    let d = log_device c.new-walk.result.log in
    let after = log_device c.read_log-read.new.self.log in
    let here = subst (λ s. LogCause g.D.Disk g.J.Judge s d after c.in-Err.cause) (made.same_super ∙ c.first_reading.ensures) c.in-Err.ensures.cause in
    rw c.into_parts-disk.ensures.device (cause-judged g.D.Disk g.J.Judge c.args.found c.args.disk d made.device after c.in-Err.cause here)
