use Rattle.std.proofs.Common.{◌≡◌, ◌+◌, ◌-◌, ◌*◌, arith}
use Rattle.btr_super.proofs.Prefix.{IsBlockOf-part}
use Rattle.btr_super.proofs.choosing.block_of.Goals as goal

pub returns-then-start-prefix-clause-there : goal.returns-then-start-prefix-clause-there
returns-then-start-prefix-clause-there c =
    let b = c.args.block in
    let e : 4096 * b + 4096 - 4096 * b ≡ 4096 = omega arith in
    IsBlockOf-part c.args.prefix.now b _ e (omega arith)
