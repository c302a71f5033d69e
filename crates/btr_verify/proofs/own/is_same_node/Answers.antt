use Rattle.btr_verify.proofs.SameLemmas.{inner-decides}
use Rattle.btr_verify.proofs.own.is_same_node.Goals as goal

pub returns-in-Inner : goal.returns-in-Inner
returns-in-Inner c span h is =
    inner-decides span h c.args.node c.in-Inner.own c.in-Inner.all c.args.version c.args.points.now c.args.slots.now c.is_same_inner.result c.in-Inner.is is c.is_same_inner.ensures
