-- What a node of a trail has at each place, and the list that a trail is.
use Rattle.std.specs.Prelude.{ℕ, zero, suc, ◌+◌, ◌*◌, ◌/◌, ◌%◌, ◌^◌, ◌<◌, ◌≤◌, List, [], ◌++◌, slice_get, Option, None, Some, IsSome}
use Rattle.std.specs.Option.{option_map, option_to_list}
use denote.Ref.{Bor}
use Rattle.std.specs.declared.alloc.Global.{Global}
use Rattle.std.specs.declared.sync.Arc.{Arc}
use Rattle.btr_board.specs.declared.trail_node.TrailNode.{TrailNode, out-TrailNode}
use Rattle.btr_board.specs.declared.trail_node.TrailNode.TheOpen.{TrailNode-F}

-- The value at a place of a list of shared values, if there is one.
abbrev pub value_at : {X : Type 0} → List (Arc X Global) → ℕ → Option X
value_at xs i = option_map (λ a. a.value) (slice_get xs i)

-- The node of a link, if there is one.
abbrev pub node_of : {X : Type 0} → Option (Arc X Global) → Option X
node_of link = option_map (λ a. a.value) link

-- The node of a link that is lent, if there is one.
abbrev pub link_of : {X : Type 0} → Option (Bor (Arc X Global)) → Option X
link_of link = option_map (λ a. a.now.value) link

-- The items of a leaf. A node that is missing has none.
abbrev pub items_in : {T : Type 0} → TrailNode-F T (TrailNode T) → List (Arc T Global)
items_in (TrailNode-F.Leaf items) = items.items
items_in (TrailNode-F.Inner children) = []

abbrev pub items_of : {T : Type 0} → Option (TrailNode T) → List (Arc T Global)
items_of None = []
items_of {T = T} (Some n) = items_in (out-TrailNode T n)

-- The children of an inner node. A node that is missing has none.
abbrev pub children_in : {T : Type 0} → TrailNode-F T (TrailNode T) → List (Arc (TrailNode T) Global)
children_in (TrailNode-F.Leaf items) = []
children_in (TrailNode-F.Inner children) = children.items

abbrev pub children_of : {T : Type 0} → Option (TrailNode T) → List (Arc (TrailNode T) Global)
children_of None = []
children_of {T = T} (Some n) = children_in (out-TrailNode T n)

-- The number of places of each child of a node of this height.
unfoldable pub width : ℕ → ℕ
width height = 2 ^ (5 * height)

-- The item at a place of a node of this height, if there is one.
unfoldable pub found : {T : Type 0} → ℕ → Option (TrailNode T) → ℕ → Option T
found zero root i = value_at (items_of root) i
found (suc below) root i = found below (value_at (children_of root) (i / width (suc below))) (i % width (suc below))

-- There is an item at each place below n.
abbrev pub IsFilled : {T : Type 0} → (ℕ → Option T) → ℕ → Type 0
IsFilled f n = (i : ℕ) → i < n → IsSome (f i)

-- The items at the places below n, in order.
unfoldable pub listed : {T : Type 0} → ℕ → (ℕ → Option T) → List T
listed zero f = []
listed (suc n) f = listed n f ++ option_to_list (f n)

-- What a trail keeps: there is an item at each place below its length, and a root of its height has room for them.
pub record IsTrail {T : Type 0} (height len : ℕ) (items : ℕ → Option T) : Type 0 where
  pub low : height ≤ 12
  pub fits : len ≤ width (height + 1)
  pub filled : IsFilled items len
