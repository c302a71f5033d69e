use Rattle.std.specs.Prelude.{◌≡◌, ◌-◌, length, take, drop, replicate}
use Rattle.std.proofs.Common.{◌∙◌, ap, arith, length-drop}
use Rattle.std.proofs.lemmas.List.{length-take}
use Rattle.btr_node.proofs.Filled.{zeros-put}
use Rattle.btr_node.proofs.filling.put_zeros.Goals as goal

pub returns : goal.returns
returns c =
    let rest = length c.args.to.now - c.args.at in
    let size = length-take rest (drop c.args.at c.args.to.now) in
    let left = length-drop c.args.at c.args.to.now in
    zeros-put c.args.at c.args.to.now c.fill.new.self _ c.requires c.told-to (c.fill.ensures.after (λ y e. e)) (omega (arith, size, left, c.told-to))
