use Rattle.std.proofs.Common.{map, take}
use Rattle.btr_open.specs.Checkpoint.{AreAllTrees}
use Rattle.btr_open.proofs.roll_trees.trees_of.Given as goal

-- The trees so far are those of the earlier streams.
abbrev pub invariant-loop-number : goal.invariant-loop-number
invariant-loop-number l = AreAllTrees l.nodes (take l.number l.streams) (map (λ ts. ts.items) l.trees.items)
