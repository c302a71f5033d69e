use Rattle.std.specs.Prelude.{◌*◌, length}
use Rattle.btr_disk.proofs.NeitherByte.{is_unsynced}
use Rattle.btr_disk.proofs.laws.write_unsynced.Goals as goal

pub returns-clause-unsynced : goal.returns-clause-unsynced
returns-clause-unsynced g c is_observable =
    let disk = g.D.Disk in
    let laws = g.met.D.Disk in
    let old = c.args.device.now in
    let new = c.write.new.self in
    let was = laws.reads_as_image is_observable old in
    is_unsynced (4096 * c.args.first) (length c.args.bytes.now) (disk.contents old) (disk.contents new) (disk.images_now old) (disk.images_now new)
    (laws.image_bytes is_observable old (disk.contents old) was) was (laws.reads_as_image is_observable new) (c.write.ensures.writes is_observable).images.unsynced
