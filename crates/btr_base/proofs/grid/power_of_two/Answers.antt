use Rattle.std.proofs.Common.{◌∙◌, arith}
use Rattle.std.proofs.Math.Pow.{shl_exact}
use Rattle.btr_base.proofs.grid.power_of_two.Goals as goal

pub returns : goal.returns
returns c = shl_exact {a = 1} 1 c.args.p 64 (omega arith) (omega arith) ∙ omega arith
