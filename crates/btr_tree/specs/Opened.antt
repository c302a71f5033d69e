-- What the trees are that are made of nodes read from a device, and which children an inner node takes.
use Rattle.std.specs.Prelude.{◌≡◌, ℕ, zero, suc, ◌<◌, ◌≤◌, nat_eq, List, [], ◌∷◌, get_or, slice_get, if◌then◌else◌}
use Rattle.std.specs.Prelude.{Option, Some, None, IfSome, option_map}
use Rattle.btr_base.specs.Agg.{AggValue, agg, no_points, joined}
use Rattle.btr_base.specs.Span.{SpanValue, slot_of}
use Rattle.btr_base.specs.declared.limits.TheConstants.{LEAF_POINTS, MAX_POINTS}
use Rattle.btr_base.specs.declared.point.Point.{Point}
use Rattle.btr_tree.specs.declared.node.NodeData.{NodeData}
use Rattle.btr_tree.specs.declared.node.Slot.{Slot}
use Rattle.btr_tree.specs.declared.slots.Slots.{Slots}
use Rattle.btr_tree.specs.Change.{IsLeafOf, IsInnerOf}
use Rattle.btr_tree.specs.Root.{TreeValue, WasOpened, version_of}
use Rattle.btr_tree.specs.Slots.{slot_in, child_in, block_of, empty_slot}

-- The part of a number: the first, if there are several.
abbrev pub part_at : List (ℕ × TreeValue) → ℕ → Option TreeValue
part_at [] i = None
part_at (part ∷ parts) i = if nat_eq part.0 i then Some part.1 else part_at parts i

-- The slot and the child of a part, or those of a slot without a point.
abbrev pub part_slot : Option TreeValue → ℕ → Slot
part_slot None version = empty_slot version
part_slot (Some t) version = record { agg = t.total; version = version; child = 0 }

abbrev pub part_node : Option TreeValue → Option NodeData
part_node None = None
part_node (Some t) = t.node

-- The aggregate of a part.
abbrev pub part_total : Option TreeValue → AggValue
part_total None = no_points
part_total (Some t) = t.total

-- The aggregates of the parts with the first n numbers, joined.
unfoldable pub joined_parts : ℕ → List (ℕ × TreeValue) → AggValue
joined_parts zero parts = no_points
joined_parts (suc n) parts = joined (joined_parts n parts) (part_total (part_at parts n))

-- The first n slots and their children are those of the parts.
abbrev pub HasParts : ℕ → List (ℕ × TreeValue) → List ℕ → Slots → Type 0
HasParts n parts versions slots =
    (i : ℕ) → i < n
    → (slot_in slots i ≡ part_slot (part_at parts i) (get_or versions i 0)) × (child_in slots i ≡ part_node (part_at parts i))

-- A tree that is the child of slot i of a span, where the slot has this version.
pub record IsPart (span : SpanValue) (version i : ℕ) (t : TreeValue) : Type 0 where
  pub its_span : t.span ≡ slot_of span i
  pub its_version : version_of t.node ≡ version
  pub some : 0 < t.total.count
  pub opened : WasOpened t

-- The children of an inner node: each is that of its slot, no slot is newer than the node, and together they have more points
-- than a leaf holds, and at most as many as a version can have.
pub record AreParts (span : SpanValue) (version : ℕ) (parts : List (ℕ × TreeValue)) (versions : List ℕ) : Type 0 where
  pub each : (i : ℕ) → IfSome (part_at parts i) (IsPart span (get_or versions i 0) i)
  pub older : (i : ℕ) → get_or versions i 0 ≤ version
  pub many : LEAF_POINTS < (joined_parts 64 parts).count
  pub few : (joined_parts 64 parts).count ≤ MAX_POINTS

-- A tree that is one leaf.
pub record IsLeafTree (span : SpanValue) (version block : ℕ) (points : List Point) (t : TreeValue) : Type 0 where
  pub its_span : t.span ≡ span
  pub node : IsLeafOf version points t.node
  pub its_block : block_of t.node ≡ block
  pub total : t.total ≡ agg points

-- A tree that is an inner node over its parts.
pub record IsInnerTree (span : SpanValue) (version block : ℕ) (parts : List (ℕ × TreeValue)) (versions : List ℕ) (t : TreeValue)
    : Type 0 where
  pub its_span : t.span ≡ span
  pub slots : Slots
  pub node : IsInnerOf version slots t.node
  pub its_slots : HasParts 64 parts versions slots
  pub its_block : block_of t.node ≡ block
  pub total : t.total ≡ joined_parts 64 parts

-- The part at a place that is counted from 1, or none at place 0 and after the last part.
abbrev pub placed_part : List (ℕ × TreeValue) → ℕ → Option TreeValue
placed_part parts zero = None
placed_part parts (suc n) = option_map (λ (part : ℕ × TreeValue). part.1) (slice_get parts n)

-- At the place of each of the 64 slots is the part of its number, or none if there is no such part.
abbrev pub ArePlaces : List (ℕ × TreeValue) → List ℕ → Type 0
ArePlaces parts places = (i : ℕ) → i < 64 → placed_part parts (get_or places i 0) ≡ part_at parts i
