use Rattle.std.proofs.Common.{◌∙◌, ap}
use Rattle.btr_tree.specs.declared.node.Slot.{Slot}
use Rattle.btr_tree.specs.Slots.{block_of}
use Rattle.btr_tree.proofs.KeptSlotLemmas.{addressed-by}
use Rattle.btr_tree.proofs.slots.Slots.addressed.Goals as goal

pub returns : goal.returns
returns c =
    addressed-by c.args.self.now c.args.i _ _ _ (ap (λ (s : Slot). s.agg) c.slot-slot.ensures) (ap (λ (s : Slot). s.version) c.slot-slot.ensures) (c.block.ensures ∙ ap block_of c.child.ensures)
