use Rattle.std.specs.Prelude.{◌*◌, length}
use Rattle.btr_disk.proofs.PublishCalls.{on_ok}
use Rattle.btr_disk.proofs.NeitherByte.{may_tear_twice}
use Rattle.btr_disk.proofs.laws.write_two.Goals as goal

pub returns-clause-unsynced : goal.returns-clause-unsynced
returns-clause-unsynced g c is_observable =
    let disk = g.D.Disk in
    let old = c.args.device.now in
    on_ok c.write-2.result _
    (may_tear_twice (4096 * c.args.first) (length c.args.bytes.now) (4096 * c.args.second) (length c.args.others.now) (disk.images_now old) (disk.images_now c.write.new.self) (disk.images_now c.write-2.new.self)
    (g.met.D.Disk.image_bytes is_observable old) (c.write.ensures.writes is_observable).images.unsynced (c.write-2.ensures.writes is_observable).images.unsynced)
