-- The pages of a device below a block: which of them stand rightly, and which block below a page breaks the format. An opening reads
-- them one by one, from the roots of a checkpoint on.
use Rattle.std.specs.Prelude.{◌≡◌, ◌⊎◌, ℕ, ◌*◌, ◌<◌, ◌≤◌, nat_lt, List, [], ◌∷◌, slice_get, Some, IfSome, if◌then◌else◌}
use Rattle.btr_disk.specs.Bytes.{Image, Has}
use Rattle.btr_node.specs.Page.{page_bytes, Fits, Keeps, slots_of_page}
use Rattle.btr_node.specs.declared.page.NodePage.{NodePage}
use Rattle.btr_node.specs.declared.page.PageSlot.{PageSlot}
use Rattle.btr_tree.specs.PageNodes.{Pages, IsChildPage}
use Rattle.btr_pages.specs.Pages.{IsPageAt}

-- ---- pages that stand rightly

-- The block of a device has this page, which fits in its bytes and keeps the table.
pub record IsStoredPage (image : Image) (block : ℕ) (page : NodePage) : Type 0 where
  pub fits : Fits page
  pub keeps : Keeps page
  pub stored : Has image (4096 * block) (page_bytes page)

-- The block of a device has no page.
abbrev pub HasNoPage : Image → ℕ → Type 0
HasNoPage image block = (page : NodePage) → IsStoredPage image block page → ⊥

-- Each of these pages that is below the limit is stored in its block, from block 1 on, and the children of its slots are among them.
-- Nothing is said of pages from the limit on, and it may be that not all pages below it are among them.
abbrev pub StandBelow : Image → ℕ → Pages → Type 0
StandBelow image limit pages =
    (block : ℕ) → block < limit → IfSome (pages block) (λ page. (1 ≤ block) × IsStoredPage image block page × IsPageAt pages block page)

-- Below the limit these pages, and from there on the others.
abbrev pub pages_joined : ℕ → Pages → Pages → Pages
pages_joined limit below pages block = if nat_lt block limit then below block else pages block

-- The wider pages have each page that the others have, and nothing more from the limit on.
pub record AreWider (limit : ℕ) (pages wider : Pages) : Type 0 where
  pub kept : (block : ℕ) → IfSome (pages block) (λ page. wider block ≡ Some page)
  pub same : (block : ℕ) → limit ≤ block → wider block ≡ pages block

-- ---- what breaks the format below a page

-- The child of slot i of the page in a block is wrong, and this block is named for it: the page's own block, if the slot's child is not in
-- a lower block, or is the page of another stream or span, or has another version or count than the slot; the child's block if it has no
-- page.
abbrev pub IsWrongChild : Image → ℕ → NodePage → ℕ → PageSlot → ℕ → Type 0
IsWrongChild image block page i slot named =
    ((block ≤ slot.child) × (named ≡ block))
    ⊎ (((slot.child < block) × HasNoPage image slot.child × (named ≡ slot.child))
    ⊎ ((slot.child < block) × (child : NodePage) × IsStoredPage image slot.child child × (IsChildPage page i slot child → ⊥)
    × (named ≡ block)))

-- Slot i of a page has a point, and its child is the page of the slot, in a lower block of the device.
pub record HasStoredChild (image : Image) (block : ℕ) (page : NodePage) (i : ℕ) (below : ℕ) (child : NodePage) : Type 0 where
  pub slot : PageSlot
  pub there : slice_get (slots_of_page page) i ≡ Some slot
  pub some : 0 < slot.agg.count
  pub is : slot.child ≡ below
  pub lower : below < block
  pub stored : IsStoredPage image below child
  pub fits : IsChildPage page i slot child

-- A page, or one that is reached from it by these slots, has a wrong child, for which this block is named.
abbrev pub BreaksAlong : Image → List ℕ → ℕ → NodePage → ℕ → Type 0
BreaksAlong image [] block page named =
    (i : ℕ) × (slot : PageSlot) × (slice_get (slots_of_page page) i ≡ Some slot) × (0 < slot.agg.count)
    × IsWrongChild image block page i slot named
BreaksAlong image (i ∷ slots) block page named =
    (below : ℕ) × (child : NodePage) × HasStoredChild image block page i below child × BreaksAlong image slots below child named

-- This block breaks the format, as it is found from the page in a block downwards.
abbrev pub BreaksBelow : Image → ℕ → NodePage → ℕ → Type 0
BreaksBelow image block page named = (slots : List ℕ) × BreaksAlong image slots block page named
