use Rattle.btr_verify.proofs.SameLemmas.{leaf-fields, no-items}
use Rattle.btr_verify.proofs.own.is_same_leaf.Goals as goal

pub returns : goal.returns
returns c =
    leaf-fields c.args.own c.args.all.now c.args.version c.args.points.now c.args.slots.now c.eq.result c.if-own-version.false (no-items c.args.slots.now c.if-not-is_empty.ensures) c.eq.ensures
