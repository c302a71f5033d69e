-- The pages of nodes, and which pages in blocks stand rightly where they stand.
use Rattle.std.specs.Prelude.{◌≡◌, ◌⊎◌, ℕ, ◌+◌, ◌-◌, ◌^◌, ◌%◌, ◌<◌, pos, nat_lt, Bool, false, List, [], ◌∷◌, ◌++◌}
use Rattle.std.specs.Prelude.{length, take, replicate, map, slice_get, Some, None, IfSome, if◌then◌else◌}
use Rattle.std.specs.List.{sum_by}
use Rattle.btr_base.specs.Span.{SpanValue}
use Rattle.btr_base.specs.declared.point.Point.{Point}
use Rattle.btr_tree.specs.NewNodes.{NewNodeValue}
use Rattle.btr_tree.specs.PageNodes.{Pages, unused_slot, IsChildPage, IsRootPage}
use Rattle.btr_tree.specs.declared.node.Slot.{Slot}
use Rattle.btr_node.specs.Page.{Keeps, slots_of_page}
use Rattle.btr_node.specs.declared.page.NodePage.{NodePage}
use Rattle.btr_node.specs.declared.page.NodePage.TheVariants.{Leaf, Inner}
use Rattle.btr_node.specs.declared.page.PageSlot.{PageSlot}

-- ---- pages in blocks

-- No block has a page.
abbrev pub no_pages : Pages
no_pages block = None

-- The pages below a block, and from there on these, one in each block.
abbrev pub with_pages : Pages → ℕ → List NodePage → Pages
with_pages pages first new block = if nat_lt block first then pages block else slice_get new (block - first)

-- ---- a node as a page

-- The place of no point.
abbrev pub unused : Point
unused = record { time = pos 0; value = pos 0 }

-- The points, and unused places after them: 252 in all.
abbrev pub places_of : List Point → List Point
places_of points = take 252 (points ++ replicate 252 unused)

-- A slot of the tree, as a slot of a page.
abbrev pub page_slot : Slot → PageSlot
page_slot slot = record { agg = slot.agg; version = slot.version; child = slot.child }

-- The slots as those of a page: 64 in all.
abbrev pub page_slots_of : List Slot → List PageSlot
page_slots_of slots = take 64 (map page_slot slots ++ replicate 64 unused_slot)

-- The page of an inner node with these slots. Its count is their sum, as a number of 64 bits.
abbrev pub page_by : ℕ → SpanValue → ℕ → List PageSlot → NodePage
page_by stream span version slots = Inner span.start span.height stream version (sum_by (λ s. s.agg.count) slots % 2 ^ 64) slots

-- The page of a node with these points and slots: that of a leaf if there are no slots.
abbrev pub page_with : ℕ → SpanValue → ℕ → List Point → List Slot → NodePage
page_with stream span version points [] = Leaf span.start span.height stream version (length points) (places_of points)
page_with stream span version points (slot ∷ slots) = page_by stream span version (page_slots_of (slot ∷ slots))

-- The page of a node of a stream.
abbrev pub page_of : ℕ → NewNodeValue → NodePage
page_of stream node = page_with stream node.span node.version node.points node.slots

-- The pages of nodes of a stream.
abbrev pub pages_of : ℕ → List NewNodeValue → List NodePage
pages_of stream nodes = map (page_of stream) nodes

-- ---- pages that stand rightly

-- The child of slot i of the page in a block: it is in a lower block, and its page is that of the slot.
pub record HasChildPage (pages : Pages) (block : ℕ) (parent : NodePage) (i : ℕ) (slot : PageSlot) : Type 0 where
  pub lower : slot.child < block
  pub child : NodePage
  pub is : pages slot.child ≡ Some child
  pub fits : IsChildPage parent i slot child

-- A page keeps the table, and each of its slots that has a point has a child in a lower block, among these pages.
pub record IsPageAt (pages : Pages) (block : ℕ) (page : NodePage) : Type 0 where
  pub keeps : Keeps page
  pub children : (i : ℕ) → IfSome (slice_get (slots_of_page page) i) (λ slot. 0 < slot.agg.count → HasChildPage pages block page i slot)

-- The pages stand rightly from a block on, one in each block: children before their parents.
abbrev pub ArePages : Pages → ℕ → List NodePage → Type 0
ArePages pages first new =
    (i : ℕ) → IfSome (slice_get new i) (λ page. IsPageAt (with_pages pages first new) (first + i) page)

-- ---- the page of a root

-- The block has the page of the root of a version.
pub record HasRootPage (pages : Pages) (stream version block : ℕ) : Type 0 where
  pub page : NodePage
  pub is : pages block ≡ Some page
  pub fits : IsRootPage stream version page

-- The block may be that of the root of a version: 0 if its commit adds no point, or a block that has the page of such a root.
abbrev pub MayBeRoot : Pages → ℕ → ℕ → Bool → ℕ → Type 0
MayBeRoot pages stream version adds block =
    ((block ≡ 0) × (adds ≡ false)) ⊎ HasRootPage pages stream version block
