-- What holds of all stored nodes and all pasts.
use Rattle.std.specs.Prelude.{◌≡◌, ◌↔◌, ◌⊎◌, ℕ, ℤ, Bool, true, List, []}
use Rattle.btr_base.specs.declared.limits.TheConstants.{FIRST}
use Rattle.btr_base.specs.declared.point.Point.{Point}
use Rattle.btr_base.specs.Span.{IsSpan}
use Rattle.btr_tree.specs.History.{Past, bag}
use Rattle.btr_tree.specs.Leads.{Leads}
use Rattle.btr_tree.specs.NewNodes.{NewNodeValue}
use Rattle.btr_tree.specs.Nodes.{points_of, above_root, node_version, up_to}
use Rattle.btr_tree.specs.Root.{root_part}
use Rattle.btr_tree.specs.Stored.{Store}
use Rattle.btr_verify.specs.Judged.{IsRising, is_node_in, version_in, IsIn, IsOwn, IsRight, HasRight, AreRightBelow, IsPlacedNode}
use Rattle.btr_verify.specs.FirstWrong.{IsFirstWrongIn}

-- A block leads to a node of a version exactly if it leads to it in the version that the node has. So the nodes of a span with one
-- version are one node in all versions of the stream.
abbrev pub NodesOfOneVersionAreOne : Type 0
NodesOfOneVersionAreOne =
    (store : Store) (height : ℕ) (start : ℤ) (above : List Point → Bool) (h : Past) (block : ℕ)
    → IsRising h
    → Leads (IsIn store) height start above h block
    ↔ Leads (IsIn store) height start above (up_to (node_version above height start h) h) block

-- A node that is right with all nodes below it has its own fields right, and so has each child of its slots.
abbrev pub RightNodesAreOwn : Type 0
RightNodesAreOwn =
    (store : Store) (h : Past) (block : ℕ) (node : NewNodeValue)
    → IsRising h
    → IsSpan node.span
    → IsRight store h block node
    → IsOwn h node × AreRightBelow store h node

-- A node is right with all nodes below it exactly if its own fields are right and the children of its slots are right.
abbrev pub NodesAreJudgedOnce : Type 0
NodesAreJudgedOnce =
    (store : Store) (h : Past) (block : ℕ) (node : NewNodeValue)
    → IsRising h
    → IsIn store block node
    → IsPlacedNode block node
    → IsRight store h block node ↔ IsOwn h node × AreRightBelow store h node

-- A node without slots is right exactly if its own fields are right.
abbrev pub LeavesAreJudged : Type 0
LeavesAreJudged =
    (store : Store) (h : Past) (block : ℕ) (node : NewNodeValue)
    → IsRising h
    → IsIn store block node
    → IsPlacedNode block node
    → node.slots ≡ []
    → IsRight store h block node ↔ IsOwn h node

-- If a version has a point, a block leads to the version's tree exactly if it has a node of the whole domain with the version of the
-- root, which is right with all nodes below it. If it has no point, exactly if the block is 0.
abbrev pub RootsAreRight : Type 0
RootsAreRight =
    (store : Store) (h : Past) (version block : ℕ)
    → IsRising h
    → (is_node_in root_part (up_to version h) ≡ true
    → Leads (IsIn store) 10 FIRST above_root (up_to version h) block
    ↔ HasRight store h root_part (version_in root_part (up_to version h)) block)
    × (points_of 10 FIRST (bag (up_to version h)) ≡ []
    → Leads (IsIn store) 10 FIRST above_root (up_to version h) block ↔ (block ≡ 0))

-- If the first wrong node of a version is in a block, the root does not lead to the version's tree, and no other block has it.
abbrev pub FirstWrongIsOne : Type 0
FirstWrongIsOne =
    (store : Store) (h : Past) (version block one : ℕ)
    → IsRising h
    → IsFirstWrongIn store h version block one
    → (Leads (IsIn store) 10 FIRST above_root (up_to version h) block → ⊥)
    × ((other : ℕ) → IsFirstWrongIn store h version block other → one ≡ other)

-- If each stored node is placed as a page is, the root of a version leads to the version's tree, or there is a first wrong node.
abbrev pub RootsLeadOrAreWrong : Type 0
RootsLeadOrAreWrong =
    (store : Store) (h : Past) (version block : ℕ)
    → IsRising h
    → ((at : ℕ) (node : NewNodeValue) → IsIn store at node → IsPlacedNode at node)
    → Leads (IsIn store) 10 FIRST above_root (up_to version h) block ⊎ ((named : ℕ) × IsFirstWrongIn store h version block named)
