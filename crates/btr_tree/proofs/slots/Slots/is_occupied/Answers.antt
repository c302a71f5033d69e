use Rattle.std.proofs.Common.{◌∙◌, sym, ap, nat_lt}
use Rattle.btr_tree.specs.declared.node.Slot.{Slot}
use Rattle.btr_tree.proofs.KeptSlotLemmas.{kept-found, kept-missing, slot-some, slot-none}
use Rattle.btr_tree.proofs.slots.Slots.is_occupied.Goals as goal

pub returns-in-Some : goal.returns-in-Some
returns-in-Some c =
    c.has_points.ensures ∙ sym (ap (λ (s : Slot). nat_lt 0 s.agg.count) (slot-some c.args.self.now c.args.i c.in-Some.kept.now (kept-found c.args.self.now c.args.i c.kept_at.result c.in-Some.kept c.kept_at.ensures c.in-Some.is)))

pub returns-in-None : goal.returns-in-None
returns-in-None c =
    sym (ap (λ (s : Slot). nat_lt 0 s.agg.count) (slot-none c.args.self.now c.args.i (kept-missing c.args.self.now c.args.i c.kept_at.result c.kept_at.ensures c.in-None.is)))
