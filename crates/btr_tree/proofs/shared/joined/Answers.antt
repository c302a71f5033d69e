use Rattle.btr_tree.proofs.SharedLemmas.{joined-more}
use Rattle.btr_tree.proofs.shared.joined.Goals as goal

pub loop-i-preserved : goal.loop-i-preserved
loop-i-preserved c =
    joined-more c.args.mid c.loop-i.i c.args.front.slots c.args.back.slots c.loop-i.slots c.put_from.new.self c.loop-i.auto.i c.in_ok-put_from.ensures c.loop-i.invariant
