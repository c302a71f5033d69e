use Rattle.btr_verify.proofs.OwnLemmas.{right-own, own-right}
use Rattle.btr_verify.proofs.laws.nodes_are_judged_once.Goals as goal

pub returns : goal.returns
returns c store h block node rising is placed =
    (λ right. right-own store h rising block node placed.aligned right, λ own. own-right store h rising block node is placed own.0 own.1)
