use Rattle.btr_tree.proofs.RootLemmas.{root-aligned}
use Rattle.btr_tree.proofs.root.root_span.Goals as goal

pub invariant_of-result : goal.invariant_of-result
invariant_of-result c = root-aligned
