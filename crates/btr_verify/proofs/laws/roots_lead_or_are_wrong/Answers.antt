use Rattle.btr_verify.proofs.WrongLemmas.{known-root}
use Rattle.btr_verify.proofs.laws.roots_lead_or_are_wrong.Goals as goal

pub returns : goal.returns
returns c store h version block rising placed = known-root store h rising placed version block
