use Rattle.btr_open.proofs.Opened.{opened, stood, refused}
use Rattle.btr_open.proofs.opening.open_store.Goals as goal

pub returns-in-Ok-clause-opened : goal.returns-in-Ok-clause-opened
returns-in-Ok-clause-opened g c =
    let read = c.in-Ok.ensures in
    let log = c.open_log.ensures in
    opened g.D.Disk c.args.disk c.read_super.new.disk c.in-Ok.found g.met.D.Disk.counts_now c.read_super.ensures.kept read.chosen c.open_log.result c.in-Ok.synced.value read.synced log.read

pub returns-in-Ok-clause-stood : goal.returns-in-Ok-clause-stood
returns-in-Ok-clause-stood g c is_observable =
    let read = c.in-Ok.ensures in
    let log = c.open_log.ensures in
    let is = opened g.D.Disk c.args.disk c.read_super.new.disk c.in-Ok.found g.met.D.Disk.counts_now c.read_super.ensures.kept read.chosen c.open_log.result c.in-Ok.synced.value read.synced log.read in
    stood g.D.Disk c.args.disk c.read_super.new.disk c.in-Ok.found g.met.D.Disk.counts_now c.read_super.ensures.kept read.chosen c.open_log.result is is_observable

pub returns-in-Ok-clause-refused : goal.returns-in-Ok-clause-refused
returns-in-Ok-clause-refused g c =
    let read = c.in-Ok.ensures in
    let log = c.open_log.ensures in
    refused g.D.Disk c.args.disk c.read_super.new.disk c.in-Ok.found g.met.D.Disk.counts_now c.read_super.ensures.kept read.chosen c.open_log.result log.reads log.cause
