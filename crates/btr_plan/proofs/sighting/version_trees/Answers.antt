-- The trees of two versions of a stream.
use Rattle.btr_plan.proofs.SightLemmas.{input-trees}
use Rattle.btr_plan.proofs.sighting.version_trees.Goals as goal

pub returns : goal.returns
returns c = λ h of known le low.
    input-trees h c.args.stream c.args.old c.args.new c.in_ok-tree.field-0.now c.in_ok-tree-2.field-0.now le low (c.in_ok-tree.ensures h of) (c.in_ok-tree-2.ensures h of)
