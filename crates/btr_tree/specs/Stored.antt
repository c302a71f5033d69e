-- Which node is in which block of a store, and that a node in memory is stored there with each node below it.
use Rattle.std.specs.Prelude.{◌≡◌, ℕ, zero, suc, ◌+◌, ◌-◌, ◌<◌, ◌≤◌, ℤ, nat_lt, List, [], length, slice_get}
use Rattle.std.specs.Prelude.{Option, Some, MatchOption, if◌then◌else◌}
use Rattle.btr_base.specs.declared.point.Point.{Point}
use Rattle.btr_base.specs.Span.{SpanValue}
use Rattle.btr_tree.specs.declared.node.Link.{Link}
use Rattle.btr_tree.specs.declared.node.NodeData.{NodeData, out-NodeData}
use Rattle.btr_tree.specs.declared.node.NodeData.TheOpen.{NodeData-F}
use Rattle.btr_tree.specs.declared.slots.Kept.{Kept}
use Rattle.btr_tree.specs.declared.slots.Slots.{Slots}
use Rattle.btr_tree.specs.NewNodes.{NewNodeValue}
use Rattle.btr_tree.specs.Shape.{slot_start}
use Rattle.btr_tree.specs.Slots.{child_in, block_of, first_slots}

-- The node that is in each block, if there is one. It is a function, so that a clause can speak of every store.
abbrev pub Store : Type 0
Store = ℕ → Option NewNodeValue

-- A store below a block, and from there on these nodes, one in each block.
abbrev pub laid : Store → ℕ → List NewNodeValue → Store
laid store first nodes block = if nat_lt block first then store block else slice_get nodes (block - first)

-- A leaf, and an inner node, as they are stored.
abbrev pub leaf_node : SpanValue → ℕ → List Point → NewNodeValue
leaf_node span version points = record { span = span; version = version; points = points; slots = [] }

abbrev pub inner_node : SpanValue → ℕ → Slots → NewNodeValue
inner_node span version slots = record { span = span; version = version; points = []; slots = first_slots 64 slots }

-- A fact on the block, the version and the points of a leaf, and one on the block, the version and the slots of an inner node.
abbrev pub ByBlock : (ℕ → ℕ → List Point → Type 0) → (ℕ → ℕ → Slots → Type 0) → NodeData-F NodeData Link Kept Slots → Type 0
ByBlock leaf inner (NodeData-F.Leaf block version points) = leaf block version points.items
ByBlock leaf inner (NodeData-F.Inner block version slots) = inner block version slots

-- A leaf is in its block.
pub record IsStoredLeaf (store : Store) (span : SpanValue) (block version : ℕ) (points : List Point) : Type 0 where
  pub some : 1 ≤ block
  pub is : store block ≡ Some (leaf_node span version points)

-- An inner node is in its block, its children are in lower blocks, and each of them is stored.
pub record IsStoredInner (store : Store) (span : SpanValue) (block version : ℕ) (slots : Slots) (EachStored : ℕ → Type 0) : Type 0 where
  pub some : 1 ≤ block
  pub is : store block ≡ Some (inner_node span version slots)
  pub lower : (i : ℕ) → i < 64 → block_of (child_in slots i) < block
  pub each : (i : ℕ) → i < 64 → EachStored i

-- The node of a span, if there is one, is stored in its block, and so is each node below it.
abbrev pub IsStored : Store → ℕ → ℤ → Option NodeData → Type 0
IsStored store zero start child =
    MatchOption child (Unit {0})
    (λ n. ByBlock (IsStoredLeaf store (record { start = start; height = zero })) (λ block version slots. ⊥) (out-NodeData n))
IsStored store (suc below) start child =
    MatchOption child (Unit {0})
    (λ n. ByBlock (IsStoredLeaf store (record { start = start; height = suc below })) (λ block version slots.
    IsStoredInner store (record { start = start; height = suc below }) block version slots (λ i.
    IsStored store below (slot_start below start i) (child_in slots i))) (out-NodeData n))

-- The node is stored, and it is below a block.
pub record IsBelow (store : Store) (first height : ℕ) (start : ℤ) (child : Option NodeData) : Type 0 where
  pub stored : IsStored store height start child
  pub below : block_of child < first

-- The node is stored once these nodes are laid from a block on, and it is in none of the blocks after them.
pub record IsLaid (store : Store) (first : ℕ) (nodes : List NewNodeValue) (height : ℕ) (start : ℤ) (child : Option NodeData) : Type 0 where
  pub stored : IsStored (laid store first nodes) height start child
  pub below : block_of child < first + length nodes

-- The children of the 64 slots of a span are stored below a block.
abbrev pub AreBelow : Store → ℕ → ℕ → ℤ → Slots → Type 0
AreBelow store first below start slots =
    (i : ℕ) → i < 64 → IsBelow store first below (slot_start below start i) (child_in slots i)

-- The children of the first n slots of a span are stored once these nodes are laid.
abbrev pub AreLaid : ℕ → Store → ℕ → List NewNodeValue → ℕ → ℤ → Slots → Type 0
AreLaid n store first nodes below start slots =
    (i : ℕ) → i < n → IsLaid store first nodes below (slot_start below start i) (child_in slots i)
