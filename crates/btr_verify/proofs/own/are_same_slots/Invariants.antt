use Rattle.std.specs.Prelude.{◌≡◌, ℕ, ◌<◌, slice_get, Some, option_map}
use Rattle.btr_tree.specs.Packed.{without_address}
use Rattle.btr_tree.specs.Slots.{slot_in}
use Rattle.btr_verify.proofs.own.are_same_slots.Given as goal

abbrev pub invariant-loop-i : goal.invariant-loop-i
invariant-loop-i l =
    (j : ℕ) → j < l.i → option_map without_address (slice_get l.slots j) ≡ Some (without_address (slot_in l.all j))
