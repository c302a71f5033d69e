use Rattle.std.proofs.Common.{sym, subst}
use Rattle.btr_log.specs.Log.{log_device}
use Rattle.btr_engine.proofs.RaiseLemmas.{followable}
use Rattle.btr_open.specs.Reading.{StoreCause}
use Rattle.btr_open.proofs.RuleLemmas.{cause-plain}
use Rattle.btr_open.proofs.WholeLemmas.{engine-read}
use Rattle.btr_open.proofs.LogWalkLemmas.{walked-of}
use Rattle.btr_open.proofs.opening.open_log.Goals as goal

pub over-requires-clause-followable : goal.over-requires-clause-followable
over-requires-clause-followable g c = followable (g.D.Disk.size c.args.disk) c.args.found c.requires.table

pub returns-in-Ok-clause-read : goal.returns-in-Ok-clause-read
returns-in-Ok-clause-read g c =
    let made = c.new-walk.ensures in
    let w = c.new-walk.result in
    let new = c.read_log-read.new.self in
    let judge = c.read_log-read.new.judge in
    let read = c.in-Ok.ensures.walked in
    let is = walked-of w new judge c.args.found made.same_super read in
    let parts = c.into_parts-disk.ensures in
    engine-read judge c.args.found c.args.disk c.into_parts-disk.result.0 c.args.synced.value w.log new.log c.at-log.result new.loader new.place c.over.result
    made.device c.read_log-read.ensures.walks.reads is.0 is.1 read.closed parts.device (rw parts.place at c.at-log.ensures) (rw parts.loader at c.over.ensures)

pub returns-in-Err-clause-cause : goal.returns-in-Err-clause-cause
returns-in-Err-clause-cause g c =
    let disk = g.D.Disk in
    let made = c.new-walk.ensures in
    let w = c.new-walk.result in
    let after = log_device c.read_log-read.new.self.log in
    let cause = c.in-Err.cause in
    let plain = cause-plain _ (λ before e root. tt) disk w.found (log_device w.log) after cause c.in-Err.ensures.cause in
    let here = subst (λ d. StoreCause disk w.found d after cause) made.device plain in
    let found = subst (λ s. StoreCause disk s c.args.disk after cause) made.same_super here in
    subst (λ d. StoreCause disk c.args.found c.args.disk d cause) (sym c.into_parts-disk.ensures.device) found
