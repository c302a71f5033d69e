-- Premises that many clauses share: what holds for every past that a child, or the slots of an inner node, belong to.
use Rattle.std.specs.Prelude.{◌≡◌, ℕ, suc, Bool, List, Option}
use Rattle.btr_base.specs.declared.point.Point.{Point}
use Rattle.btr_base.specs.Span.{SpanValue}
use Rattle.btr_tree.specs.declared.node.NodeData.{NodeData}
use Rattle.btr_tree.specs.declared.slots.Slots.{Slots}
use Rattle.btr_tree.specs.History.{Past}
use Rattle.btr_tree.specs.Nodes.{points_of}
use Rattle.btr_tree.specs.Shape.{IsChild, HasSlots, HasChildren}

-- The points of a span.
abbrev pub points_in : SpanValue → List Point → List Point
points_in span b = points_of span.height span.start b

-- P holds for every past that the child of the span belongs to.
abbrev pub AtEachHistory : SpanValue → Option NodeData → (Past → Type 0) → Type 0
AtEachHistory span child P =
    (above : List Point → Bool) (h : Past) → IsChild span.height span.start above h child → P h

-- P holds for every past that the 64 slots of the span and their children belong to.
abbrev pub AtEachInner : SpanValue → Slots → (Past → Type 0) → Type 0
AtEachInner span slots P =
    (below : ℕ) (h : Past)
    → span.height ≡ suc below
    → HasSlots below span.start h slots
    → HasChildren below span.start h slots
    → P h
