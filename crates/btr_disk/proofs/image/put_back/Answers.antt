use Rattle.std.proofs.Common.{arith}
use Rattle.btr_disk.proofs.Recording.{Has-middle}
use Rattle.btr_disk.proofs.image.put_back.Goals as goal

pub returns-clause-written : goal.returns-clause-written
returns-clause-written c =
    rw c.copy_from_slice.ensures.after
    (Has-middle c.args.at c.args.bytes.now c.args.part.now _ (omega (arith, c.requires)))
