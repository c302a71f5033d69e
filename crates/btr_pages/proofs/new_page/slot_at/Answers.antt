use Rattle.std.proofs.Common.{sym, ap, ◌∙◌}
use Rattle.btr_base.specs.Agg.{AggValue}
use Rattle.btr_node.specs.declared.page.PageSlot.{PageSlot}
use Rattle.btr_pages.proofs.PageOfLemmas.{slot-none, slot-some}
use Rattle.btr_pages.proofs.new_page.slot_at.Goals as goal

pub returns-in-None : goal.returns-in-None
returns-in-None c =
    ap (λ (a : AggValue). let s : PageSlot = record { agg = a; version = 0; child = 0 } in s) c.none.ensures
    ∙ sym (slot-none c.args.slots.now c.args.i (sym c.get.ensures ∙ c.in-None.is))

pub returns-in-Some : goal.returns-in-Some
returns-in-Some c = sym (slot-some c.args.slots.now c.args.i c.in-Some.slot (sym c.get.ensures ∙ c.in-Some.is))
