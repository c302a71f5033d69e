use Rattle.std.specs.Prelude.{◌*◌, length}
use Rattle.btr_disk.proofs.PublishCalls.{on_ok}
use Rattle.btr_disk.proofs.NeitherByte.{differ_in}
use Rattle.btr_disk.proofs.laws.sync_and_write.Goals as goal

pub returns-clause-differ : goal.returns-clause-differ
returns-clause-differ g c is_observable =
    let disk = g.D.Disk in
    let mid = c.sync.new.self in
    on_ok c.write.result _
    (differ_in (4096 * c.args.first) (length c.args.bytes.now) (disk.contents c.args.device.now) (disk.contents mid) (disk.images_now mid) (disk.images_now c.write.new.self)
    (c.in_ok-sync.ensures.contents is_observable) (c.in_ok-sync.ensures.synced is_observable) (c.write.ensures.writes is_observable).images.torn)
