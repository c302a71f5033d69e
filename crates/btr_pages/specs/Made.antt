-- What the private functions promise of the trees that are made of pages, and of the table that finds them.
use Rattle.std.specs.Prelude.{◌≡◌, ◌⊎◌, ℕ, zero, suc, ◌<◌, ◌≤◌, nat_eq, List, length, take, map, get_or, slice_get}
use Rattle.std.specs.Prelude.{Option, Some, None, IfSome, MatchOption, if◌then◌else◌, option_map}
use Rattle.std.specs.List.{AllByRecursion}
use Rattle.btr_base.specs.Bag.{IsInOrder}
use Rattle.btr_base.specs.Span.{SpanValue, slot_of}
use Rattle.btr_base.specs.declared.point.Point.{Point}
use Rattle.btr_tree.specs.Opened.{part_at, AreParts, IsLeafTree, IsInnerTree}
use Rattle.btr_tree.specs.Root.{TreeValue, WasOpened, version_of}
use Rattle.btr_node.specs.Page.{header, Spells, Fits, IsInside, span_of_page, slots_of_page}
use Rattle.btr_node.specs.declared.page.PageHeader.{PageHeader}
use Rattle.btr_node.specs.declared.page.NodePage.{NodePage}
use Rattle.btr_node.specs.declared.page.NodePage.TheVariants.{Leaf, Inner}
use Rattle.btr_node.specs.declared.page.PageSlot.{PageSlot}
use Rattle.btr_tree.specs.PageNodes.{Pages}
use Rattle.btr_pages.specs.Pages.{IsPageAt}
use Rattle.btr_pages.specs.Known.{KnownValue, TreesValue, node_at, ArePartOf, KnowsChildren, TakesPage}
use Rattle.btr_pages.specs.Blocks.{IsNoPage}

-- ---- a tree that was made, and the table

-- The tree was made of nodes that were read, and it has this number of points.
pub record IsReadTree (count : ℕ) (t : TreeValue) : Type 0 where
  pub opened : WasOpened t
  pub is : count ≡ t.total.count

-- What the table has for a block: the number of a tree of the list, counted from 1, or 0 for none.
abbrev pub table_number : List ℕ → ℕ → ℕ
table_number table block = get_or table block 0

-- The tree of a number, counted from 1.
abbrev pub numbered : TreesValue → ℕ → Option KnownValue
numbered nodes zero = None
numbered nodes (suc place) = slice_get nodes place

-- The table has the number of each tree, at the place of its block, and 0 for each other block.
pub record IsTable (nodes : TreesValue) (table : List ℕ) : Type 0 where
  pub each : (block : ℕ) → node_at nodes block ≡ numbered nodes (table_number table block)
  pub within : (block : ℕ) → table_number table block ≤ length nodes

-- ---- the children of a page

-- A tree that was made is that of the child of a slot of the page in a block: the child is in a lower block, and the tree is of the
-- stream, of the slot's span, and with the slot's version and count.
pub record IsKnownChild (block : ℕ) (place : SpanValue) (number : ℕ) (slot : PageSlot) (known : KnownValue) : Type 0 where
  pub lower : slot.child < block
  pub stream : known.stream ≡ number
  pub span : known.tree.span ≡ place
  pub version : version_of known.tree.node ≡ slot.version
  pub count : known.tree.total.count ≡ slot.agg.count
  pub opened : WasOpened known.tree

-- The tree of the slot's child was made.
pub record HasKnownChild (nodes : TreesValue) (block : ℕ) (place : SpanValue) (number : ℕ) (slot : PageSlot) : Type 0 where
  pub known : KnownValue
  pub is : node_at nodes slot.child ≡ Some known
  pub fits : IsKnownChild block place number slot known

-- If the slot has a point, the tree of its child was made.
abbrev pub MayHaveChild : TreesValue → ℕ → SpanValue → ℕ → PageSlot → Type 0
MayHaveChild nodes block place number slot = 0 < slot.agg.count → HasKnownChild nodes block place number slot

-- The trees of the children of all slots of a span were made, for a page in this block.
abbrev pub HaveKnownChildren : TreesValue → ℕ → SpanValue → ℕ → List PageSlot → Type 0
HaveKnownChildren nodes block span number slots =
    (i : ℕ) → IfSome (slice_get slots i) (MayHaveChild nodes block (slot_of span i) number)

-- The trees of the children of the page in a block were made.
abbrev pub IsBuildable : TreesValue → ℕ → NodePage → Type 0
IsBuildable nodes block page = HaveKnownChildren nodes block (span_of_page page) (header page).stream (slots_of_page page)

-- The tree of a slot's child, if the slot has a point.
abbrev pub part_of : TreesValue → Option PageSlot → Option TreeValue
part_of nodes None = None
part_of nodes (Some slot) = if nat_eq slot.agg.count 0 then None else option_map (λ k. k.tree) (node_at nodes slot.child)

-- The tree of the child of a slot that has a point was made, and is this one.
abbrev pub IsChildTree : TreesValue → ℕ → SpanValue → ℕ → PageSlot → TreeValue → Type 0
IsChildTree nodes block place number slot t =
    HasKnownChild nodes block place number slot × (part_of nodes (Some slot) ≡ Some t)

-- The parts are the trees of the children of the first n slots of the page in a block.
pub record ArePartsTo (n : ℕ) (nodes : TreesValue) (block : ℕ) (span : SpanValue) (number : ℕ) (slots : List PageSlot)
    (parts : List (ℕ × TreeValue)) : Type 0 where
  pub have : (i : ℕ) → i < n → IfSome (slice_get slots i) (MayHaveChild nodes block (slot_of span i) number)
  pub are : (i : ℕ) → i < n → part_at parts i ≡ part_of nodes (slice_get slots i)
  pub no_more : (i : ℕ) → n ≤ i → part_at parts i ≡ None

-- ---- the tree of a page

-- The versions of slots.
abbrev pub versions_of : List PageSlot → List ℕ
versions_of slots = map (λ s. s.version) slots

-- The span of a page with these fields.
abbrev pub header_span : PageHeader → SpanValue
header_span f = record { start = f.start; height = f.height }

-- The points of a leaf's page: at least one and at most 252, in order and in the span.
pub record AreLeafPoints (span : SpanValue) (points : List Point) : Type 0 where
  pub some : 0 < length points
  pub few : length points ≤ 252
  pub in_order : IsInOrder points
  pub inside : AllByRecursion (IsInside span.start span.height) points

-- A tree was made of the points of a leaf's page.
pub record IsLeafMade (block : ℕ) (span : SpanValue) (version : ℕ) (points : List Point) (t : TreeValue) : Type 0 where
  pub is : IsLeafTree span version block points t
  pub opened : WasOpened t

-- A tree was made of an inner node's page and of the trees of its children.
pub record IsInnerMade (nodes : TreesValue) (block : ℕ) (span : SpanValue) (number version : ℕ) (slots : List PageSlot) (t : TreeValue)
    : Type 0 where
  pub parts : List (ℕ × TreeValue)
  pub are : ArePartsTo 64 nodes block span number slots parts
  pub fit : AreParts span version parts (versions_of slots)
  pub is : IsInnerTree span version block parts (versions_of slots) t
  pub opened : WasOpened t

-- Of an inner node's page in a block, with this header and these slots, a tree was made, or the trees of its children were not all made.
abbrev pub IsInnerMadeOf : TreesValue → ℕ → PageHeader → List PageSlot → Option TreeValue → Type 0
IsInnerMadeOf nodes block f slots made =
    MatchOption made (HaveKnownChildren nodes block (header_span f) f.stream slots → ⊥)
    (IsInnerMade nodes block (header_span f) f.stream f.version slots)

-- The tree was made of a page.
abbrev pub IsTreeOfPage : TreesValue → ℕ → NodePage → TreeValue → Type 0
IsTreeOfPage nodes block (Leaf start height stream version count points) t =
    IsLeafMade block (record { start = start; height = height }) version (take count points) t
IsTreeOfPage nodes block (Inner start height stream version count slots) t =
    IsInnerMade nodes block (record { start = start; height = height }) stream version slots t

-- The page in a block, its stream and the tree that was made of it.
pub record IsMadeAt (nodes : TreesValue) (block : ℕ) (page : NodePage) (known : KnownValue) : Type 0 where
  pub its_block : known.block ≡ block
  pub stream : known.stream ≡ (header page).stream
  pub tree : IsTreeOfPage nodes block page known.tree

-- ---- the page that a block is

-- The bytes of a block are those of a page whose tree was added.
pub record IsAddedPage (old new : TreesValue) (block : ℕ) (bytes : List ℕ) : Type 0 where
  pub page : NodePage
  pub fits : Fits page
  pub spells : Spells bytes page
  pub added : TakesPage old new block page

-- The bytes of a block are those of a page that does not stand rightly.
pub record IsMisplaced (nodes : TreesValue) (block : ℕ) (bytes : List ℕ) : Type 0 where
  pub page : NodePage
  pub fits : Fits page
  pub spells : Spells bytes page
  pub wrong : (pages : Pages) → ArePartOf pages nodes → KnowsChildren pages nodes page → IsPageAt pages block page → ⊥

-- The block is no page that stands rightly.
abbrev pub IsDamagedPage : TreesValue → ℕ → List ℕ → Type 0
IsDamagedPage nodes block bytes = IsNoPage bytes ⊎ IsMisplaced nodes block bytes

-- ---- the tree of a root

-- The tree was made of a page of the stream, whose height is that of a root, and which is not newer than the version.
pub record IsKnownRoot (stream version : ℕ) (known : KnownValue) : Type 0 where
  pub height : known.tree.span.height ≡ 10
  pub its_stream : known.stream ≡ stream
  pub not_newer : version_of known.tree.node ≤ version
