use Rattle.std.proofs.Common.{◌≡◌, ◌+◌, ◌*◌, ◌^◌, ap, ◌∙◌, arith}
use Rattle.std.proofs.Math.Pow.{shl_exact}
use Rattle.btr_base.specs.Span.{width}
use Rattle.btr_base.proofs.span.width.Goals as goal

pub returns : goal.returns
unfolding width
returns c =
    let e : 6 * c.from.result + 2 ≡ 6 * c.args.height + 2 = omega arith in
    shl_exact {a = 1} 1 (6 * c.from.result + 2) 64 (omega arith) (omega arith) ∙ ap (λ n. 1 * 2 ^ n) e ∙ omega arith
