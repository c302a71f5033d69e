use Rattle.btr_verify.specs.Trees.{past_of}
use Rattle.btr_verify.proofs.StreamPastLemmas.{tree-to}
use Rattle.btr_verify.proofs.judging.is_own_node.Goals as goal

pub returns-in-Some : goal.returns-in-Some
returns-in-Some c h of has =
    c.is_own.ensures.own (past_of h c.args.stream) (tree-to h c.args.stream c.args.version c.in-Some.tree.now (c.in-Some.ensures h of))
