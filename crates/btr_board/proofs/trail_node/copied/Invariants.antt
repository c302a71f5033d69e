use Rattle.std.proofs.Common.{◌≡◌, map, take}
use Rattle.btr_board.proofs.trail_node.copied.Given as goal

abbrev pub invariant-loop-value : goal.invariant-loop-value
invariant-loop-value g l =
    map (λ a. a.value) l.copy.items ≡ map (λ a. a.value) (take l.value-index l.values)
