use Rattle.std.proofs.Common.{◌≡◌, ◌∙◌, ap, arith, get_or, option_map}
use Rattle.btr_tree.specs.declared.node.Slot.{Slot}
use Rattle.btr_tree.specs.Opened.{part_at, part_slot, part_node, joined_parts}
use Rattle.btr_tree.specs.Slots.{linked}
use Rattle.btr_tree.proofs.OpenedLemmas.{parts-first, parts-fit, parts-joined, parts-put, part-slot_agg}
use Rattle.btr_tree.proofs.PlaceLemmas.{part-placed}
use Rattle.btr_tree.proofs.opened.slots_of_parts.Goals as goal

pub loop-i-init : goal.loop-i-init
loop-i-init c = record {
  filled = c.in_ok-slots.ensures.filled;
  slots = λ i lt. absurd (omega arith);
  agg = parts-first c.none-agg.result c.args.children.now c.none-agg.ensures;
}

pub join-agg-requires : goal.join-agg-requires
join-agg-requires c =
    let i = c.loop-i.i in
    let parts = c.args.children.now in
    let version = get_or c.args.versions.now c.from-at.result 0 in
    let part = part-placed parts c.places_of-places.result i c.from-at.result (option_map (λ t. t.now) c.part_in.result) c.places_of-places.ensures c.loop-i-test.true c.from-at.ensures c.part_in.ensures in
    let slot : c.in_ok-slot.slot ≡ part_slot (part_at parts i) version = c.in_ok-slot.ensures.slot ∙ ap (λ o. part_slot o version) part in
    parts-fit i parts c.loop-i.agg c.in_ok-slot.slot.agg c.loop-i-test.true c.requires c.loop-i.invariant.agg (ap (λ (s : Slot). s.agg) slot ∙ part-slot_agg (part_at parts i) version)

pub loop-i-preserved : goal.loop-i-preserved
loop-i-preserved c =
    let i = c.loop-i.i in
    let parts = c.args.children.now in
    let versions = c.args.versions.now in
    let part = part-placed parts c.places_of-places.result i c.from-at.result (option_map (λ t. t.now) c.part_in.result) c.places_of-places.ensures c.loop-i-test.true c.from-at.ensures c.part_in.ensures in
    let slot : c.in_ok-slot.slot ≡ part_slot (part_at parts i) (get_or versions i 0) = c.in_ok-slot.ensures.slot ∙ ap (λ o. part_slot o (get_or versions c.from-at.result 0)) part ∙ ap (λ n. part_slot (part_at parts i) (get_or versions n 0)) c.from-at.ensures in
    let child : linked c.in_ok-slot.child ≡ part_node (part_at parts i) = c.in_ok-slot.ensures.child ∙ ap part_node part in
    record {
      filled = c.in_ok-put.ensures.filled;
      slots = parts-put i parts versions c.in_ok-slot.slot (linked c.in_ok-slot.child) c.loop-i.slots c.put.new.self c.in_ok-put.ensures slot child c.loop-i.invariant.slots;
      agg = parts-joined i parts c.loop-i.agg c.in_ok-slot.slot.agg c.join-agg.result c.join-agg.ensures.numbers c.loop-i.invariant.agg (ap (λ (s : Slot). s.agg) slot ∙ part-slot_agg (part_at parts i) (get_or versions i 0));
    }

pub returns-clause-agg : goal.returns-clause-agg
returns-clause-agg c =
    let done : c.loop-i.i ≡ 64 = omega arith in
    c.loop-i.invariant.agg ∙ ap (λ n. joined_parts n c.args.children.now) done
