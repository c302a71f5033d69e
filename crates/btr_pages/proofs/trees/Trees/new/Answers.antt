use Rattle.btr_pages.proofs.NumberLemmas.{table-new}
use Rattle.btr_pages.proofs.trees.Trees.new.Goals as goal

pub invariant_of-result : goal.invariant_of-result
invariant_of-result c = table-new c.new.result.items c.new-2.result.items c.new.ensures.items c.new-2.ensures.items
