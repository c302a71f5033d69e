-- The trees of a board are stored in pages.
use Rattle.std.specs.Prelude.{ℕ, ◌<◌, List, IfSome, IsSome}
use Rattle.btr_base.specs.declared.limits.TheConstants.{FIRST}
use Rattle.btr_tree.specs.Stored.{IsBelow}
use Rattle.btr_tree.specs.PageNodes.{Pages, nodes_in}
use Rattle.btr_pages.specs.Reported.{AreKept}
use Rattle.btr_streams.specs.Board.{Versions, tree_at}

-- The pages keep their table and are below a gate, and the tree of each version of each stream is stored in them.
pub record AreStored (pages : Pages) (gate : ℕ) (streams : List Versions) : Type 0 where
  pub kept : AreKept pages
  pub below : (block : ℕ) → IsSome (pages block) → block < gate
  pub each : (stream version : ℕ)
      → IfSome (tree_at streams stream version) (λ t. IsBelow (nodes_in pages stream) gate 10 FIRST t.node)
