use Rattle.btr_verify.proofs.OwnLemmas.{right-own}
use Rattle.btr_verify.proofs.laws.right_nodes_are_own.Goals as goal

pub returns : goal.returns
returns c store h block node rising aligned right = right-own store h rising block node aligned right
