use Rattle.std.proofs.Common.{◌≡◌, ◌+◌, ◌*◌, ◌++◌, take, sym, ap, ◌∙◌, arith}
use Rattle.std.specs.List.{flat_map}
use Rattle.std.proofs.lemmas.List.{append-nil}
use Rattle.btr_node.specs.Page.{slot_bytes}
use Rattle.btr_pages.proofs.NewPageLemmas.{all-slots, slot-written}
use Rattle.btr_pages.proofs.new_page.put_slots.Goals as goal

pub loop-i-init : goal.loop-i-init
loop-i-init c = sym (append-nil (take 64 c.args.to.now))

pub loop-i-preserved : goal.loop-i-preserved
loop-i-preserved c =
    slot-written c.args.slots.now c.loop-i.i c.slot_at.result (take 64 c.args.to.now) c.loop-i.to c.put_slot.new.to c.loop-i-test.true c.slot_at.ensures c.loop-i.invariant c.put_slot.ensures

pub returns : goal.returns
returns c =
    let done : c.loop-i.i ≡ 64 = omega (arith, c.loop-i-test.false, c.loop-i.auto.i-end) in
    let end : 3648 ≡ 64 + 56 * c.loop-i.i = omega (arith, done) in
    ap (λ n. take n c.loop-i.to) end
    ∙ c.loop-i.invariant
    ∙ ap (λ l. take 64 c.args.to.now ++ flat_map slot_bytes l) (all-slots c.args.slots.now c.loop-i.i done)
