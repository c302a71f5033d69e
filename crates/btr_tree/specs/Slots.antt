-- The 64 slots of an inner node in memory, of which only some are kept.
--
-- A node has a base version. It keeps a slot if the slot has a point, or a version other than the base version. A mask of 64
-- bits says which slots are kept: bit i is set if slot i is kept. The kept slots are in order.
use Rattle.std.specs.Prelude.{◌≡◌, ℕ, zero, suc, ◌+◌, ◌^◌, ◌<◌, ◌≤◌, ◌%◌, List, []}
use Rattle.std.specs.Prelude.{◌∷◌, ◌++◌, length, slice_get, Option, Some, None, option_map, nat_eq, count_ones, if◌then◌else◌}
use Rattle.std.specs.Int.{bit_at}
use Rattle.btr_base.specs.Agg.{no_points}
use Rattle.btr_tree.specs.declared.node.Child.{Child}
use Rattle.btr_tree.specs.declared.node.Link.{Link, out-Link}
use Rattle.btr_tree.specs.declared.node.NodeData.{NodeData, out-NodeData}
use Rattle.btr_tree.specs.declared.node.NodeData.TheOpen.{NodeData-F}
use Rattle.btr_tree.specs.declared.node.Slot.{Slot}
use Rattle.btr_tree.specs.declared.slots.Kept.{Kept, out-Kept}
use Rattle.btr_tree.specs.declared.slots.Slots.{Slots, out-Slots}
use Rattle.btr_tree.specs.Packed.{without_address}

-- The node of a link that a tree keeps, if there is one.
abbrev pub linked : Link → Option NodeData
linked link = option_map (λ a. a.value) (out-Link link).node

-- The node of a link that a walk sees, if there is one.
abbrev pub node_of : Child → Option NodeData
node_of child = option_map (λ a. a.now.value) child.node

-- The block of a node of either kind.
abbrev pub block_of_kind : NodeData-F NodeData Link Kept Slots → ℕ
block_of_kind (NodeData-F.Leaf block version points) = block
block_of_kind (NodeData-F.Inner block version slots) = block

-- The block of a node on the device, or 0 if there is no node.
abbrev pub block_of : Option NodeData → ℕ
block_of None = 0
block_of (Some n) = block_of_kind (out-NodeData n)

-- How many bits of a mask are set below bit i: the place of slot i among the kept slots.
abbrev pub rank : ℕ → ℕ → ℕ
rank mask i = count_ones (mask % 2 ^ i)

-- The base version, the mask, and the kept slots.
abbrev pub base_of : Slots → ℕ
base_of x = (out-Slots x).base

abbrev pub mask_of : Slots → ℕ
mask_of x = (out-Slots x).mask

abbrev pub all_kept : Slots → List Kept
all_kept x = (out-Slots x).kept.items

-- What is kept of slot i.
unfoldable pub kept_in : Slots → ℕ → Option Kept
kept_in x i = if nat_eq (bit_at (mask_of x) i) 1 then slice_get (all_kept x) (rank (mask_of x) i) else None

-- A slot without a point.
abbrev pub empty_slot : ℕ → Slot
empty_slot version = record { agg = no_points; version = version; child = 0 }

-- The slot that is kept, or else the empty slot of the base version.
abbrev pub slot_or_empty : ℕ → Option Kept → Slot
slot_or_empty base None = empty_slot base
slot_or_empty base (Some k) = (out-Kept k).slot

-- The child that is kept, or else none.
abbrev pub child_or_none : Option Kept → Option NodeData
child_or_none None = None
child_or_none (Some k) = linked (out-Kept k).child

-- Slot i.
unfoldable pub slot_in : Slots → ℕ → Slot
slot_in x i = slot_or_empty (base_of x) (kept_in x i)

-- The child of slot i.
unfoldable pub child_in : Slots → ℕ → Option NodeData
child_in x i = child_or_none (kept_in x i)

-- Slot i with the block of its child.
unfoldable pub addressed : Slots → ℕ → Slot
addressed x i = record { agg = (slot_in x i).agg; version = (slot_in x i).version; child = block_of (child_in x i) }

-- The first n slots with the blocks of their children, as a list.
unfoldable pub first_slots : ℕ → Slots → List Slot
first_slots zero x = []
first_slots (suc n) x = first_slots n x ++ addressed x n ∷ []

-- Slot i of these slots has a point.
abbrev pub IsOccupied : (ℕ → Slot) → ℕ → Type 0
IsOccupied slots i = 0 < (slots i).agg.count

-- No slot of those from one number up to, and without, another has a point.
abbrev pub AreEmpty : (ℕ → Slot) → ℕ → ℕ → Type 0
AreEmpty slots from to = (i : ℕ) → from ≤ i → i < to → (slots i).agg.count ≡ 0

-- The first slot from `from` on that has a point, or none.
abbrev pub IsNextOccupied : (ℕ → Slot) → ℕ → Option ℕ → Type 0
IsNextOccupied slots from None = AreEmpty slots from 64
IsNextOccupied slots from (Some i) = (from ≤ i) × (i < 64) × IsOccupied slots i × AreEmpty slots from i

-- The last slot below `to` that has a point, or none.
abbrev pub IsPreviousOccupied : (ℕ → Slot) → ℕ → Option ℕ → Type 0
IsPreviousOccupied slots to None = AreEmpty slots 0 to
IsPreviousOccupied slots to (Some i) = (i < to) × IsOccupied slots i × AreEmpty slots (i + 1) to

-- The two have the same slots and the same children.
pub record AreSameSlots (old new : Slots) : Type 0 where
  pub slots : (i : ℕ) → slot_in new i ≡ slot_in old i
  pub children : (i : ℕ) → child_in new i ≡ child_in old i

-- The slots from n on are still to be put: each kept slot is one of the first n.
pub record IsFilled (n : ℕ) (x : Slots) : Type 0 where
  pub mask : mask_of x < 2 ^ n
  pub kept : length (all_kept x) ≡ count_ones (mask_of x)

-- Slot n was put, without an address, together with its child. The slots before it and the base version are as before.
pub record IsPut (n : ℕ) (slot : Slot) (child : Option NodeData) (old new : Slots) : Type 0 where
  pub filled : IsFilled (n + 1) new
  pub is : slot_in new n ≡ without_address slot
  pub has : child_in new n ≡ child
  pub slots : (i : ℕ) → i < n → slot_in new i ≡ slot_in old i
  pub children : (i : ℕ) → i < n → child_in new i ≡ child_in old i
  pub base : base_of new ≡ base_of old
