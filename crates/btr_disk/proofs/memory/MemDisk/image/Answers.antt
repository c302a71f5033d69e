use Rattle.btr_disk.specs.CallRecord.{contents_of}
use Rattle.btr_disk.proofs.Filled.{made_has}
use Rattle.btr_disk.specs.contracts.memory.MemDiskDisk.TheImpl.{ghosts}
use Rattle.std.specs.Prelude.{length}
use Rattle.btr_disk.proofs.memory.MemDisk.image.Goals as goal

pub returns-clause-fill : goal.returns-clause-fill
returns-clause-fill c =
    let disk = c.args.self.now in
    made_has ghosts.contents c.from_bytes.result c.args.fill (contents_of disk.bytes.items) disk.made (length disk.bytes.items)
    c.in_ok-bytes.bytes.items c.in_ok-bytes.ensures.fill c.from_bytes.ensures.contents
