use Rattle.std.proofs.Common.{◌∙◌, ap, not}
use Rattle.btr_tree.proofs.KeptSlotLemmas.{put-none, none-linked}
use Rattle.btr_tree.proofs.slots.Slots.put.Goals as goal

pub returns-then-is_none : goal.returns-then-is_none
returns-then-is_none c =
    put-none c.args.i c.args.slot _ c.args.self.now c.requires.filled (c.is_as_base.ensures c.if-is_as_base.true) (none-linked c.args.child (c.is_none.ensures ∙ ap not c.if-is_none.true))
