use Rattle.std.proofs.Common.{take}
use Rattle.btr_open.specs.Checkpoint.{AreFirstTrees}
use Rattle.btr_open.proofs.roll_trees.trees_of_stream.Given as goal

-- The trees so far are those of the earlier versions.
abbrev pub invariant-loop-k : goal.invariant-loop-k
invariant-loop-k l = AreFirstTrees l.nodes l.number (take l.k l.versions.items) l.trees.items
