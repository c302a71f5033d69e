use Rattle.std.proofs.Common.{◌≡◌, ◌+◌, ◌∙◌, refl, sym, ap, arith}
use Rattle.btr_base.specs.Agg.{joined, AggValue}
use Rattle.btr_base.proofs.AggLemmas.{none-joined}
use Rattle.btr_tree.specs.declared.node.Slot.{Slot}
use Rattle.btr_tree.specs.Change.{joined_first}
use Rattle.btr_tree.specs.Slots.{slot_in}
use Rattle.btr_tree.proofs.NodeLemmas.{joined-none, joined-next}
use Rattle.btr_tree.proofs.aggregate.agg_of_slots.Goals as goal

pub loop-i-init : goal.loop-i-init
loop-i-init c = c.none-all.ensures ∙ sym (joined-none (slot_in c.args.slots.now))

pub loop-i-preserved : goal.loop-i-preserved
loop-i-preserved c =
    c.join-all.ensures.numbers
    ∙ ap (λ (s : Slot). joined c.loop-i.all s.agg) c.in-Some.ensures.some
    ∙ ap (λ a. joined a (slot_in c.args.slots.now c.loop-i.i).agg) c.loop-i.invariant
    ∙ sym (joined-next c.loop-i.i (slot_in c.args.slots.now))

pub loop-i-preserved-in_default : goal.loop-i-preserved-in_default
loop-i-preserved-in_default c =
    c.loop-i.invariant
    ∙ sym (none-joined (joined_first c.loop-i.i (slot_in c.args.slots.now)))
    ∙ sym (ap (λ (s : Slot). joined (joined_first c.loop-i.i (slot_in c.args.slots.now)) s.agg) (c.in_default.ensures.none refl))
    ∙ sym (joined-next c.loop-i.i (slot_in c.args.slots.now))

pub join-all-requires : goal.join-all-requires
join-all-requires c =
    let test = c.loop-i-test.true in
    let low = c.requires (c.loop-i.i + 1) (omega arith) in
    let next = ap (λ u. u.count) (joined-next c.loop-i.i (slot_in c.args.slots.now)) in
    let all = ap (λ (u : AggValue). u.count) c.loop-i.invariant in
    let here = ap (λ (s : Slot). s.agg.count) c.in-Some.ensures.some in
    omega arith

pub returns : goal.returns
returns c =
    let done : c.loop-i.i ≡ 64 = omega (arith, c.loop-i-test.false, c.loop-i.auto.i-end) in
    c.loop-i.invariant ∙ ap (λ n. joined_first n (slot_in c.args.slots.now)) done
