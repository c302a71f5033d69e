use Rattle.std.specs.Prelude.{◌≡◌, ℕ, ◌+◌, ◌<◌, List, [], ◌∷◌, ◌++◌, length, take, map, get_or, slice_set}
use Rattle.std.proofs.Common.{sym, ap, ◌∙◌, arith}
use Rattle.std.proofs.Math.ListN.{length-set}
use Rattle.std.proofs.lemmas.List.{take_more, take_more_set, get_or-map, length-map}
use Rattle.btr_tree.specs.declared.node.Slot.{Slot}
use Rattle.btr_node.specs.declared.page.PageSlot.{PageSlot}
use Rattle.btr_tree.specs.PageNodes.{slot_of_page}
use Rattle.btr_verify.proofs.judging.tree_slots.Goals as goal

slots-more : (all : List Slot) (xs : List PageSlot) (i : ℕ) (s : PageSlot) (x : Slot) → i < 64 → length xs ≡ 64 → x ≡ slot_of_page (get_or xs i s) → (length all ≡ 64) × (take i all ≡ take i (map slot_of_page xs)) → (length (slice_set all i x) ≡ 64) × (take (i + 1) (slice_set all i x) ≡ take (i + 1) (map slot_of_page xs))
slots-more all xs i s x lt long is so_far =
    let len = so_far.0 in
    let within : i < length xs = omega arith in
    let many : i < length (map slot_of_page xs) = omega (arith, length-map xs slot_of_page) in (
      length-set all i x ∙ len,
      take_more_set all i x (omega arith)
          ∙ ap (λ l. l ++ x ∷ []) so_far.1
          ∙ ap (λ y. take i (map slot_of_page xs) ++ y ∷ []) (is ∙ sym (get_or-map slot_of_page xs i s x within))
          ∙ sym (take_more (map slot_of_page xs) i x many),
    )

pub loop-i-preserved : goal.loop-i-preserved
loop-i-preserved c =
    slots-more c.loop-i.all c.args.slots.now c.loop-i.i c.index-slots-i.result c.tree_slot.result c.loop-i-test.true c.type_inv.slots c.tree_slot.ensures c.loop-i.invariant
