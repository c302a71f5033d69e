-- When the slots of a stored node are those of a node in memory.
use Rattle.std.specs.Prelude.{◌≡◌, ℕ, ◌<◌, List, [], length, slice_get, Some, option_map}
use Rattle.btr_base.specs.Span.{SpanValue}
use Rattle.btr_base.specs.declared.point.Point.{Point}
use Rattle.btr_tree.specs.declared.node.Slot.{Slot}
use Rattle.btr_tree.specs.declared.slots.Slots.{Slots}
use Rattle.btr_tree.specs.History.{Past}
use Rattle.btr_tree.specs.NewNodes.{NewNodeValue, bare}
use Rattle.btr_tree.specs.Packed.{without_address}
use Rattle.btr_tree.specs.Slots.{slot_in}
use Rattle.btr_verify.specs.Judged.{node_in}

-- A node as it is stored.
abbrev pub stored_node : SpanValue → ℕ → List Point → List Slot → NewNodeValue
stored_node span version points slots = record { span = span; version = version; points = points; slots = slots }

-- The stored node is the span's node after a past. The addresses in its slots do not count.
abbrev pub IsSameNode : SpanValue → Past → ℕ → List Point → List Slot → Type 0
IsSameNode span h version points slots = bare (stored_node span version points slots) ≡ node_in span h

-- There are 64 slots, and each has the aggregate and the version of the slot of its number in memory.
pub record AreStoredSlots (x : Slots) (slots : List Slot) : Type 0 where
  pub all : length slots ≡ 64
  pub each : (i : ℕ) → i < 64 → option_map without_address (slice_get slots i) ≡ Some (without_address (slot_in x i))

-- The fields of a stored node are those of a leaf in memory.
pub record AreLeafFields (own : ℕ) (all : List Point) (version : ℕ) (points : List Point) (slots : List Slot) : Type 0 where
  pub same_version : own ≡ version
  pub same_points : all ≡ points
  pub none : slots ≡ []

-- The fields of a stored node are those of an inner node in memory.
pub record AreInnerFields (own : ℕ) (all : Slots) (version : ℕ) (points : List Point) (slots : List Slot) : Type 0 where
  pub same_version : own ≡ version
  pub none : points ≡ []
  pub same_slots : AreStoredSlots all slots
