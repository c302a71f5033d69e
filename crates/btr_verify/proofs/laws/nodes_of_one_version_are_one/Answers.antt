use Rattle.btr_verify.specs.Judged.{IsIn}
use Rattle.btr_verify.proofs.PastLemmas.{one-version}
use Rattle.btr_verify.proofs.laws.nodes_of_one_version_are_one.Goals as goal

pub returns : goal.returns
returns c store height start above h block rising = one-version (IsIn store) height start above h block rising
