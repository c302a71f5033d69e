-- Which trees in memory are those of a stream's past, and what a walk learns of a node that it visits.
use Rattle.std.specs.Prelude.{◌≡◌, ℕ, zero, suc, ◌+◌, ◌*◌, ◌<◌, ◌≤◌, ℤ, pos}
use Rattle.std.specs.Prelude.{◌+ℤ◌, Bool, List, [], length, min, Option, MatchOption, IfSome, IsNone, IsSome}
use Rattle.btr_base.specs.declared.point.Point.{Point}
use Rattle.btr_base.specs.Span.{width}
use Rattle.btr_base.specs.Agg.{agg}
use Rattle.btr_base.specs.declared.limits.TheConstants.{LEAF_POINTS}
use Rattle.btr_tree.specs.declared.node.Link.{Link}
use Rattle.btr_tree.specs.declared.node.NodeData.{NodeData, out-NodeData}
use Rattle.btr_tree.specs.declared.node.NodeData.TheOpen.{NodeData-F}
use Rattle.btr_tree.specs.declared.node.Node.{Node}
use Rattle.btr_tree.specs.declared.node.Node.TheVariants.{Leaf, Inner}
use Rattle.btr_tree.specs.declared.node.Slot.{Slot}
use Rattle.btr_tree.specs.declared.slots.Kept.{Kept}
use Rattle.btr_tree.specs.declared.slots.Slots.{Slots}
use Rattle.btr_tree.specs.History.{Past, bag}
use Rattle.btr_tree.specs.Nodes.{points_of, is_inner, node_version, slot_version}
use Rattle.btr_tree.specs.Slots.{slot_in, child_in}

-- The start of a slot of this height.
abbrev pub slot_start : ℕ → ℤ → ℕ → ℤ
slot_start height start i = start +ℤ pos (i * width height)

-- The slot of a span: its aggregate and its version.
abbrev pub slot_of_points : ℕ → ℤ → ℕ → ℤ → Past → Slot
slot_of_points above begin height start h =
    record {
      agg = agg (points_of height start (bag h));
      version = slot_version above begin height start h;
      child = 0;
    }

-- A leaf has the points of its span, which are at least one and at most 252, and its version.
pub record IsLeaf (height : ℕ) (start : ℤ) (above : List Point → Bool) (h : Past) (carried : ℕ) (points : List Point) : Type 0 where
  pub same : points ≡ points_of height start (bag h)
  pub some : 0 < length points
  pub few : length points ≤ LEAF_POINTS
  pub version : carried ≡ node_version above height start h

-- Each of the 64 slots of a span is the slot of its own span.
abbrev pub AreSlots : ℕ → ℤ → Past → (ℕ → Slot) → Type 0
AreSlots below start h slots =
    (i : ℕ) → i < 64 → slots i ≡ slot_of_points (suc below) start below (slot_start below start i) h

-- The 64 slots of a span in memory, each of which is the slot of its own span.
pub record HasSlots (below : ℕ) (start : ℤ) (h : Past) (slots : Slots) : Type 0 where
  pub each : AreSlots below start h (slot_in slots)

-- An inner node has more points than a leaf holds, 64 slots, and its version.
pub record IsInner (below : ℕ) (start : ℤ) (above : List Point → Bool) (h : Past) (carried : ℕ) (slots : Slots) : Type 0 where
  pub many : LEAF_POINTS < length (points_of (suc below) start (bag h))
  pub version : carried ≡ node_version above (suc below) start h
  pub all : HasSlots below start h slots

-- A fact on the version and points of a leaf, and one on the version and slots of an inner node.
abbrev pub ByKind : (ℕ → List Point → Type 0) → (ℕ → Slots → Type 0) → NodeData-F NodeData Link Kept Slots → Type 0
ByKind leaf inner (NodeData-F.Leaf block version points) = leaf version points.items
ByKind leaf inner (NodeData-F.Inner block version slots) = inner version slots

-- A node in memory is that of a span after a past, and so is each node below it. A slot without a point has no child.
abbrev pub IsNodeData : ℕ → ℤ → (List Point → Bool) → Past → NodeData → Type 0
IsNodeData zero start above h n = ByKind (λ v ps. IsLeaf zero start above h v ps) (λ v slots. ⊥) (out-NodeData n)
IsNodeData (suc below) start above h n =
    ByKind (λ v ps. IsLeaf (suc below) start above h v ps) (λ v slots.
    IsInner below start above h v slots
    × ((i : ℕ) → i < 64 → MatchOption (child_in slots i)
    (points_of below (slot_start below start i) (bag h) ≡ [])
    (λ m. IsNodeData below (slot_start below start i) (is_inner (suc below) start) h m))) (out-NodeData n)

-- A child is that of a span after a past. There is none if the span has no point.
abbrev pub IsChild : ℕ → ℤ → (List Point → Bool) → Past → Option NodeData → Type 0
IsChild height start above h child =
    MatchOption child (points_of height start (bag h) ≡ []) (λ n. IsNodeData height start above h n)

-- The children of the 64 slots of a span.
abbrev pub HasChildren : ℕ → ℤ → Past → Slots → Type 0
HasChildren below start h slots =
    (i : ℕ) → i < 64 → IsChild below (slot_start below start i) (is_inner (suc below) start) h (child_in slots i)

-- A node that was visited is that of a span after a past.
abbrev pub IsNode : ℕ → ℤ → (List Point → Bool) → Past → Node → Type 0
IsNode height start above h (Leaf version points) = IsLeaf height start above h version points.now
IsNode zero start above h (Inner version slots) = ⊥
IsNode (suc below) start above h (Inner version slots) =
    IsInner below start above h version slots.now × HasChildren below start h slots.now

-- A visit of a child returns the span's node and counts one step, or returns none and counts none if the span has no point.
pub record IsVisit (child : Option NodeData) (result : Option Node) (before after : ℕ) : Type 0 where
  pub none : IsNone result → (height : ℕ) (start : ℤ) (above : List Point → Bool) (h : Past)
      → IsChild height start above h child → points_of height start (bag h) ≡ []
  pub node : IfSome result (λ n. (height : ℕ) (start : ℤ) (above : List Point → Bool) (h : Past)
      → IsChild height start above h child → IsNode height start above h n)
  pub free : IsNone result → after ≡ before
  pub counted : IsSome result → after ≡ min (before + 1) 18446744073709551615
  pub at_most : after ≤ before + 1
  pub never_falls : before ≤ after
