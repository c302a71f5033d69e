use Rattle.std.proofs.Common.{◌+◌, ◌^◌, ◌%◌, ap, ◌∙◌, arith}
use Rattle.std.specs.List.{sum_by}
use Rattle.btr_node.specs.declared.page.PageSlot.{PageSlot}
use Rattle.btr_pages.proofs.NewPageLemmas.{all-slots, slot-added}
use Rattle.btr_pages.proofs.new_page.total.Goals as goal

pub loop-i-preserved : goal.loop-i-preserved
loop-i-preserved c =
    ap (λ n. (c.loop-i.all + n) % 2 ^ 64) c.count-all.ensures
    ∙ slot-added c.args.slots.now c.loop-i.i c.loop-i.all c.slot_at.result c.loop-i-test.true c.slot_at.ensures c.loop-i.invariant

pub returns : goal.returns
returns c =
    c.loop-i.invariant
    ∙ ap (λ l. sum_by (λ (x : PageSlot). x.agg.count) l % 2 ^ 64) (all-slots c.args.slots.now c.loop-i.i (omega (arith, c.loop-i-test.false, c.loop-i.auto.i-end)))
