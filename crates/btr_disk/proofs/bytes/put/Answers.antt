use Rattle.std.specs.Prelude.{◌+◌, ◌-◌, length}
use Rattle.std.proofs.Common.{arith}
use Rattle.std.proofs.lemmas.Slice.{drop-put_mid}
use Rattle.btr_disk.proofs.bytes.put.Goals as goal

pub returns-clause-rest : goal.returns-clause-rest
returns-clause-rest c =
    let n = length c.args.piece.now in
    drop-put_mid c.args.at (c.args.at + n - c.args.at) c.args.to.now c.copy_from_slice.new.self (c.args.at + n) (omega arith) (omega (arith, c.requires)) (omega (arith, c.copy_from_slice.ensures.len))
