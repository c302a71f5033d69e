use Rattle.std.proofs.Common.{map}
use Rattle.btr_streams.proofs.RestoringLemmas.{IsRestoring}
use Rattle.btr_streams.proofs.board.Board.restored.Given as goal

-- The streams so far are the first of the roll, and the trees of the others are left.
abbrev pub invariant-loop-trees : goal.invariant-loop-trees
invariant-loop-trees l =
    IsRestoring l.roll (map (λ v. v.items) l.fn.trees.items) (map (λ v. v.items) l.trees-iterator.rest.items) l.entries l.board
