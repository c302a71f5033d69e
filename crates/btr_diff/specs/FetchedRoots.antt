-- Two roots whose nodes are fetched: of which pasts a comparison speaks, and why it is refused.
use Rattle.std.specs.Prelude.{ℕ, ◌⊎◌}
use Rattle.btr_node.specs.declared.page.NodePage.{NodePage}
use Rattle.btr_tree.specs.declared.fetch.NodeFault.{NodeFault}
use Rattle.btr_tree.specs.declared.spot.Root.{Root}
use Rattle.btr_tree.specs.History.{Past}
use Rattle.btr_tree.specs.Spots.{StandsIn, IsRootAt, IsPossibleRoot, IsWalkCause}

-- P holds for each two pasts whose roots these are, with all their pages there.
abbrev pub AtBothRoots : (ℕ → NodePage → Type 0) → Root → Root → (Past → Past → Type 0) → Type 0
AtBothRoots has old new P = (h k : Past) → IsRootAt (StandsIn has) old h → IsRootAt (StandsIn has) new k → P h k

-- P holds for each two pasts whose roots these may be.
abbrev pub AtBothPossibleRoots : (ℕ → NodePage → Type 0) → Root → Root → (Past → Past → Type 0) → Type 0
AtBothPossibleRoots has old new P = (h k : Past) → IsPossibleRoot has old h → IsPossibleRoot has new k → P h k

-- Why a comparison of two roots is refused: a walk from one of them is refused.
abbrev pub IsCompareCause : (observable : Type 0) → Root → Root → (observable → ℕ → NodePage → Type 0) → ℕ → ℕ → NodeFault → Type 0
IsCompareCause observable old new has before after e =
    IsWalkCause observable old has before after e ⊎ IsWalkCause observable new has before after e
