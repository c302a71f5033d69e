-- The nodes of a tree that have a version, children before parents: those that a commit writes.
use Rattle.std.specs.Prelude.{ℕ, zero, suc, ℤ, Bool, ◌&&◌, nat_eq, List, [], ◌∷◌, ◌++◌, map, Option, Some, None, if◌then◌else◌}
use Rattle.btr_base.specs.declared.point.Point.{Point}
use Rattle.btr_tree.specs.declared.node.NodeData.{NodeData, out-NodeData}
use Rattle.btr_tree.specs.declared.node.NodeData.TheOpen.{NodeData-F}
use Rattle.btr_tree.specs.declared.node.Link.{Link}
use Rattle.btr_tree.specs.declared.slots.Kept.{Kept}
use Rattle.btr_tree.specs.declared.slots.Slots.{Slots}
use Rattle.btr_tree.specs.declared.node.Slot.{Slot}
use Rattle.btr_tree.specs.History.{Past, bag}
use Rattle.btr_base.specs.Span.{SpanValue}
use Rattle.btr_tree.specs.Nodes.{points_of, is_inner, is_node, node_version}
use Rattle.btr_tree.specs.Shape.{slot_start, slot_of_points}
use Rattle.btr_tree.specs.Packed.{without_address}
use Rattle.btr_tree.specs.Slots.{first_slots}

-- The slots of a node with the blocks of their children: 64 of an inner node, and none of a leaf.
abbrev pub slots_of_kind : NodeData-F NodeData Link Kept Slots → List Slot
slots_of_kind (NodeData-F.Leaf block version points) = []
slots_of_kind (NodeData-F.Inner block version slots) = first_slots 64 slots

-- The slots of a node, if there is one.
unfoldable pub slots_of_node : Option NodeData → List Slot
slots_of_node None = []
slots_of_node (Some n) = slots_of_kind (out-NodeData n)

-- The points of a leaf, and none of an inner node.
abbrev pub points_of_kind : NodeData-F NodeData Link Kept Slots → List Point
points_of_kind (NodeData-F.Leaf block version points) = points.items
points_of_kind (NodeData-F.Inner block version slots) = []

-- The points of a node, if there is one.
unfoldable pub points_of_node : Option NodeData → List Point
points_of_node None = []
points_of_node (Some n) = points_of_kind (out-NodeData n)

-- A node: its span and version, the points of a leaf, the slots of an inner node.
pub record NewNodeValue : Type 0 where
  pub span : SpanValue
  pub version : ℕ
  pub points : List Point
  pub slots : List Slot

-- The node without addresses in its slots.
abbrev pub bare : NewNodeValue → NewNodeValue
bare n = record { span = n.span; version = n.version; points = n.points; slots = map without_address n.slots }

-- The nodes without addresses in their slots.
abbrev pub bare_all : List NewNodeValue → List NewNodeValue
bare_all nodes = map bare nodes

-- The first n lists of a sequence, one after the other.
abbrev pub concat_first : {X : Type 0} → ℕ → (ℕ → List X) → List X
concat_first zero f = []
concat_first (suc n) f = concat_first n f ++ f n

-- The 64 slots of a span.
abbrev pub slots_of : ℕ → ℤ → Past → List Slot
slots_of below start h = concat_first 64 (λ i. slot_of_points (suc below) start below (slot_start below start i) h ∷ [])

-- The node of a span: a leaf has its points, and an inner node its slots.
abbrev pub new_node : ℕ → ℤ → (List Point → Bool) → Past → NewNodeValue
new_node zero start above h =
    record {
      span = record { start = start; height = zero };
      version = node_version above zero start h;
      points = points_of zero start (bag h);
      slots = [];
    }
new_node (suc below) start above h =
    record {
      span = record { start = start; height = suc below };
      version = node_version above (suc below) start h;
      points = if is_inner (suc below) start (bag h) then [] else points_of (suc below) start (bag h);
      slots = if is_inner (suc below) start (bag h) then slots_of below start h else [];
    }

-- The node of the span itself, if it is a node and has the version.
abbrev pub own_node : ℕ → ℤ → (List Point → Bool) → Past → ℕ → List NewNodeValue
own_node height start above h version =
    if is_node above height start (bag h) && nat_eq (node_version above height start h) version
    then new_node height start above h ∷ [] else []

-- The nodes in a span that have the version, children before parents and in order of time.
abbrev pub new_nodes : ℕ → ℤ → (List Point → Bool) → Past → ℕ → List NewNodeValue
new_nodes zero start above h version = own_node zero start above h version
new_nodes (suc below) start above h version =
    (if is_inner (suc below) start (bag h)
    then concat_first 64 (λ i. new_nodes below (slot_start below start i) (is_inner (suc below) start) h version) else [])
    ++ own_node (suc below) start above h version
