use Rattle.std.proofs.Common.{◌∙◌, sym}
use Rattle.btr_tree.proofs.KeptSlotLemmas.{kept-found, kept-missing, slot-some, slot-empty}
use Rattle.btr_tree.proofs.slots.Slots.slot.Goals as goal

pub returns-in-Some : goal.returns-in-Some
returns-in-Some c =
    c.slot.ensures ∙ sym (slot-some c.args.self.now c.args.i c.in-Some.kept.now (kept-found c.args.self.now c.args.i c.kept_at.result c.in-Some.kept c.kept_at.ensures c.in-Some.is))

pub returns-in-None : goal.returns-in-None
returns-in-None c =
    slot-empty c.args.self.now c.args.i c.none.result (kept-missing c.args.self.now c.args.i c.kept_at.result c.kept_at.ensures c.in-None.is) c.none.ensures
