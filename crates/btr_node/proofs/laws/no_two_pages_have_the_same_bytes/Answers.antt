use Rattle.btr_node.proofs.PageLemmas.{page-once}
use Rattle.btr_node.proofs.laws.no_two_pages_have_the_same_bytes.Goals as goal

pub returns : goal.returns
returns c = page-once
