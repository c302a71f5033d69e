use Rattle.std.proofs.Common.{◌∙◌, sym}
use Rattle.btr_tree.proofs.KeptSlotLemmas.{kept-found, kept-missing, slot-some, slot-none}
use Rattle.btr_tree.proofs.slots.Slots.kept_slot.Goals as goal

pub returns-in-Some-clause-some : goal.returns-in-Some-clause-some
returns-in-Some-clause-some c =
    c.slot.ensures ∙ sym (slot-some c.args.self.now c.args.i c.in-Some.kept.now (kept-found c.args.self.now c.args.i c.kept_at.result c.in-Some.kept c.kept_at.ensures c.in-Some.is))

pub returns-in-None-clause-none : goal.returns-in-None-clause-none
returns-in-None-clause-none c _ =
    slot-none c.args.self.now c.args.i (kept-missing c.args.self.now c.args.i c.kept_at.result c.kept_at.ensures c.in-None.is)
