use Rattle.std.proofs.Common.{◌≡◌, length, take}
use Rattle.std.specs.Prelude.{min}
use Rattle.std.specs.List.{flat_map}
use Rattle.btr_distil.proofs.shared.room_for.Given as goal

-- The room for the bags so far.
abbrev pub invariant-loop-bag : goal.invariant-loop-bag
invariant-loop-bag l = l.room ≡ min 18446744073709551615 (length (flat_map (λ b. b) (take l.bag-index l.fn.bags)))
