use Rattle.std.proofs.Common.{◌∙◌, ap}
use Rattle.btr_tree.specs.declared.node.NodeData.TheViews.{out-roll-Slots}
use Rattle.btr_tree.proofs.KeptSlotLemmas.{fit-same}
use Rattle.btr_tree.proofs.slots.Slots.fit.Goals as goal

pub returns : goal.returns
returns c =
    fit-same _ _ (ap (λ r. r.base) (out-roll-Slots _)) (ap (λ r. r.mask) (out-roll-Slots _)) (ap (λ r. r.kept.items) (out-roll-Slots _) ∙ c.shrink_to_fit.ensures.items)
