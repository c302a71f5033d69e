use Rattle.std.proofs.Common.{◌≡◌, ◌++◌}
use Rattle.btr_streams.proofs.restoring.trail_of.Given as goal

-- The trees so far are the first, and the others are left.
abbrev pub invariant-loop-tree : goal.invariant-loop-tree
invariant-loop-tree l = l.trail ++ l.tree-iterator.rest.items ≡ l.fn.trees.items
