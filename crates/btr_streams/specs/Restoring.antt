-- The board of a roll, which an opening makes of the content of a checkpoint and of the trees that it has read.
use Rattle.std.specs.Prelude.{◌≡◌, ℕ, ◌+◌, List, [], ◌∷◌, length, map, slice_get, Some}
use Rattle.std.specs.List.{AllByRecursion}
use Rattle.btr_tree.specs.Root.{TreeValue}
use Rattle.btr_tree.specs.Slots.{block_of}
use Rattle.btr_roll.specs.declared.roll.RollVersion.{RollVersion}
use Rattle.btr_roll.specs.Roll.{RollStreamValue, reads_of_versions}
use Rattle.btr_streams.specs.Board.{Versions, HasPast}

-- A stream as a board keeps it: that of a roll, whose versions have these trees, from version 0 on.
abbrev pub restored_stream : RollStreamValue → List TreeValue → Versions
restored_stream s trees =
    record {
      id = s.id;
      spec = s.spec;
      trees = trees;
      reads = reads_of_versions s.versions;
      numbers = s.entry ∷ map (λ v. v.entry) s.versions;
      earliest = s.first;
    }

-- The streams of a roll with these trees, in order.
abbrev pub restored_streams : List RollStreamValue → List (List TreeValue) → List Versions
restored_streams [] trees = []
restored_streams (s ∷ roll) [] = []
restored_streams (s ∷ roll) (ts ∷ trees) = restored_stream s ts ∷ restored_streams roll trees

-- A stream of a roll may have these trees: one for each version and one for version 0, each of some past.
pub record FitTrees (s : RollStreamValue) (trees : List TreeValue) : Type 0 where
  pub counted : length trees ≡ length s.versions + 1
  pub pasts : AllByRecursion HasPast trees

-- The streams of a roll may have these trees: there are as many lists as streams, and each fits its stream.
pub record AllFitTrees (roll : List RollStreamValue) (trees : List (List TreeValue)) : Type 0 where
  pub counted : length trees ≡ length roll
  pub each : (stream : ℕ) (s : RollStreamValue) (ts : List TreeValue) → slice_get roll stream ≡ Some s → slice_get trees stream ≡ Some ts
      → FitTrees s ts

-- The tree of each version from version 1 on has the root that the roll says. The version at place n of the roll has the tree at
-- place n + 1.
abbrev pub HaveRolledRoots : List RollStreamValue → List (List TreeValue) → Type 0
HaveRolledRoots roll trees =
    (stream place : ℕ) (s : RollStreamValue) (v : RollVersion) (ts : List TreeValue) (t : TreeValue)
    → slice_get roll stream ≡ Some s → slice_get s.versions place ≡ Some v
    → slice_get trees stream ≡ Some ts → slice_get ts (place + 1) ≡ Some t
    → block_of t.node ≡ v.root
