use Rattle.std.proofs.Common.{◌≤◌, ◌-◌, length, drop, ◌∙◌, arith}
use Rattle.std.proofs.lemmas.List.{take-take}
use Rattle.btr_pages.proofs.blocks.block_at.Goals as goal

pub returns : goal.returns
returns c =
    let fits : 4096 ≤ length c.args.bytes.now - c.args.at = omega (arith, c.requires) in
    c.in-Some.ensures.cases.same ∙ take-take 4096 (length c.args.bytes.now - c.args.at) (drop c.args.at c.args.bytes.now) fits
