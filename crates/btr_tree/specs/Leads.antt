-- To which nodes the block of a root leads on a device, and what was read from the blocks of a tree.
use Rattle.std.specs.Prelude.{◌≡◌, ◌⊎◌, ℕ, zero, suc, ◌<◌, ◌≤◌, ℤ, Bool, List, [], ◌∷◌, length, slice_get}
use Rattle.std.specs.Prelude.{Option, Some, None, MatchOption, if◌then◌else◌}
use Rattle.btr_base.specs.Agg.{AggValue, agg, no_points}
use Rattle.btr_base.specs.declared.limits.TheConstants.{LEAF_POINTS}
use Rattle.btr_base.specs.declared.point.Point.{Point}
use Rattle.btr_base.specs.Span.{SpanValue}
use Rattle.btr_tree.specs.declared.node.Link.{Link}
use Rattle.btr_tree.specs.declared.node.NodeData.{NodeData, out-NodeData}
use Rattle.btr_tree.specs.declared.node.NodeData.TheOpen.{NodeData-F}
use Rattle.btr_tree.specs.declared.node.Slot.{Slot}
use Rattle.btr_tree.specs.declared.slots.Kept.{Kept}
use Rattle.btr_tree.specs.declared.slots.Slots.{Slots}
use Rattle.btr_tree.specs.Change.{joined_first}
use Rattle.btr_tree.specs.History.{Past, bag}
use Rattle.btr_tree.specs.NewNodes.{NewNodeValue, concat_first, new_node}
use Rattle.btr_tree.specs.Nodes.{points_of, is_inner, node_version}
use Rattle.btr_tree.specs.Shape.{slot_start, slot_of_points}
use Rattle.btr_tree.specs.Slots.{slot_in, child_in, block_of}
use Rattle.btr_tree.specs.Stored.{Store, leaf_node, ByBlock}

-- ---- where a root leads

-- The slot with this address.
abbrev pub slot_to : ℕ → Slot → Slot
slot_to child slot = record { agg = slot.agg; version = slot.version; child = child }

-- The 64 slots of a span with these addresses.
abbrev pub slots_to : (ℕ → ℕ) → ℕ → ℤ → Past → List Slot
slots_to links below start h =
    concat_first 64 (λ i. slot_to (links i) (slot_of_points (suc below) start below (slot_start below start i) h) ∷ [])

-- The node of a span, whose slots have these addresses.
abbrev pub node_to : (ℕ → ℕ) → ℕ → ℤ → (List Point → Bool) → Past → NewNodeValue
node_to links zero start above h = new_node zero start above h
node_to links (suc below) start above h =
    record {
      span = record { start = start; height = suc below };
      version = node_version above (suc below) start h;
      points = if is_inner (suc below) start (bag h) then [] else points_of (suc below) start (bag h);
      slots = if is_inner (suc below) start (bag h) then slots_to links below start h else [];
    }

-- The span has no point, and its address is 0.
pub record LeadsNowhere (height : ℕ) (start : ℤ) (h : Past) (block : ℕ) : Type 0 where
  pub none : points_of height start (bag h) ≡ []
  pub is : block ≡ 0

-- The span has a point, and its node is in the block. The children of an inner node are in lower blocks.
pub record LeadsToNode (pages : ℕ → NewNodeValue → Type 0) (height : ℕ) (start : ℤ) (above : List Point → Bool) (h : Past) (block : ℕ)
    (LeadsOn : ℕ → ℕ → Type 0) : Type 0 where
  pub points : 0 < length (points_of height start (bag h))
  pub some : 1 ≤ block
  pub links : ℕ → ℕ
  pub is : pages block (node_to links height start above h)
  pub each : LEAF_POINTS < length (points_of height start (bag h)) → (i : ℕ) → i < 64 → (links i < block) × LeadsOn i (links i)

-- Over a relation of blocks and the nodes in them: a block leads to the node that a span has after a past, and to each node below.
abbrev pub Leads : (ℕ → NewNodeValue → Type 0) → ℕ → ℤ → (List Point → Bool) → Past → ℕ → Type 0
Leads pages zero start above h block =
    LeadsNowhere zero start h block ⊎ LeadsToNode pages zero start above h block (λ i link. Unit {0})
Leads pages (suc below) start above h block =
    LeadsNowhere (suc below) start h block ⊎ LeadsToNode pages (suc below) start above h block (λ i link.
    Leads pages below (slot_start below start i) (is_inner (suc below) start) h link)

-- ---- what was read

-- The aggregate of a node, by its points or by its slots.
abbrev pub total_of_kind : NodeData-F NodeData Link Kept Slots → AggValue
total_of_kind (NodeData-F.Leaf block version points) = agg points.items
total_of_kind (NodeData-F.Inner block version slots) = joined_first 64 (slot_in slots)

-- The aggregate of a child.
abbrev pub total_of : Option NodeData → AggValue
total_of None = no_points
total_of (Some n) = total_of_kind (out-NodeData n)

-- A slot in memory has the version and the address of the slot that was read, and its child's own aggregate.
abbrev pub IsSlotRead : Option Slot → Slot → Option NodeData → Type 0
IsSlotRead read slot child =
    MatchOption read ⊥ (λ r. (slot ≡ record { agg = total_of child; version = r.version; child = 0 }) × (r.child ≡ block_of child))

-- A leaf was read from its block.
pub record IsReadLeaf (store : Store) (span : SpanValue) (block version : ℕ) (points : List Point) : Type 0 where
  pub some : 1 ≤ block
  pub is : store block ≡ Some (leaf_node span version points)
  pub any : 0 < length points
  pub few : length points ≤ LEAF_POINTS

-- An inner node was read from its block, and so was each of its children. The sums and extremes in the block count for nothing.
pub record IsReadInner (store : Store) (span : SpanValue) (block version : ℕ) (slots : Slots) (EachRead : ℕ → Type 0) : Type 0 where
  pub some : 1 ≤ block
  pub page : NewNodeValue
  pub is : store block ≡ Some page
  pub its_span : page.span ≡ span
  pub its_version : page.version ≡ version
  pub its_points : page.points ≡ []
  pub its_slots : (i : ℕ) → i < 64 → IsSlotRead (slice_get page.slots i) (slot_in slots i) (child_in slots i)
  pub each : (i : ℕ) → i < 64 → EachRead i

-- The node of a span, if there is one, was read from its block, and so was each node below it.
abbrev pub IsRead : Store → ℕ → ℤ → Option NodeData → Type 0
IsRead store zero start child =
    MatchOption child (Unit {0})
    (λ n. ByBlock (IsReadLeaf store (record { start = start; height = zero })) (λ block version slots. ⊥) (out-NodeData n))
IsRead store (suc below) start child =
    MatchOption child (Unit {0})
    (λ n. ByBlock (IsReadLeaf store (record { start = start; height = suc below })) (λ block version slots.
    IsReadInner store (record { start = start; height = suc below }) block version slots (λ i.
    IsRead store below (slot_start below start i) (child_in slots i))) (out-NodeData n))
