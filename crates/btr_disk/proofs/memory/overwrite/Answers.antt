use Rattle.std.specs.Prelude.{◌+◌, ◌≤◌, length}
use Rattle.std.proofs.Common.{arith}
use Rattle.btr_disk.proofs.Recording.{Has-placed}
use Rattle.btr_disk.proofs.memory.overwrite.Goals as goal

pub returns-clause-written : goal.returns-clause-written
returns-clause-written c =
    let file = c.args.file.now in
    let fits : c.args.at + length c.args.bytes.now ≤ file.len = omega (arith, file.ok.0, c.requires) in
    rw c.copy_from_slice.ensures.after
    (Has-placed file.len c.args.at c.deref_mut.result.now c.args.bytes.now _ _ (omega (arith, c.deref_mut.ensures.len, file.ok.0, c.requires)) fits)
