-- Blocks that are read as pages: which pages were added, and which block is damaged.
use Rattle.std.specs.Prelude.{◌≡◌, ◌⊎◌, ℕ, ◌+◌, ◌*◌, ◌<◌, List, length, take, drop, slice_get, Some, IfSome}
use Rattle.std.specs.List.{flat_map, AllByRecursion}
use Rattle.btr_node.specs.Page.{page_bytes, Spells, Fits}
use Rattle.btr_node.specs.declared.page.NodePage.{NodePage}
use Rattle.btr_tree.specs.PageNodes.{Pages}
use Rattle.btr_pages.specs.Pages.{with_pages, IsPageAt, ArePages}
use Rattle.btr_pages.specs.Known.{TreesValue, AreKnown, ArePartOf}

-- The bytes of a block. Blocks are counted from 0.
abbrev pub block_of_bytes : List ℕ → ℕ → List ℕ
block_of_bytes bytes n = take 4096 (drop (4096 * n) bytes)

-- These pages are among others, one in each block from `first` on.
abbrev pub AreAmong : Pages → ℕ → List NodePage → Type 0
AreAmong pages first new = (i : ℕ) → IfSome (slice_get new i) (λ page. pages (first + i) ≡ Some page)

-- The bytes are those of these pages, one in each block from `first` on. For all pages of which the old trees were made, these
-- pages stand rightly after them, and the new trees are those of both. If the old trees are those of some of all pages, and these
-- pages are among them, the new trees are so too.
pub record AreAdded (old new : TreesValue) (first : ℕ) (bytes : List ℕ) (added : List NodePage) : Type 0 where
  pub bytes_are : bytes ≡ flat_map page_bytes added
  pub fit : AllByRecursion Fits added
  pub stand : (pages : Pages) → AreKnown pages old → ArePages pages first added
  pub known : (pages : Pages) → AreKnown pages old → AreKnown (with_pages pages first added) new
  pub part : (pages : Pages) → ArePartOf pages old → AreAmong pages first added → ArePartOf pages new

-- The bytes are those of pages that were all added.
abbrev pub AllWereAdded : TreesValue → TreesValue → ℕ → List ℕ → Type 0
AllWereAdded old new first bytes = (added : List NodePage) × AreAdded old new first bytes added

-- No page has these bytes.
abbrev pub IsNoPage : List ℕ → Type 0
IsNoPage bytes = (page : NodePage) → Fits page → Spells bytes page → ⊥

-- The bytes are those of a page that does not stand rightly in a block, after the pages of which the old trees were made and those
-- that were added from `first` on.
pub record IsWrongPage (old : TreesValue) (first : ℕ) (added : List NodePage) (block : ℕ) (bytes : List ℕ) : Type 0 where
  pub page : NodePage
  pub fits : Fits page
  pub spells : Spells bytes page
  pub wrong : (pages : Pages) → AreKnown pages old → IsPageAt (with_pages pages first added) block page → ⊥

-- The block is damaged: all blocks before it are pages that were added, and it is no page, or one that does not stand rightly
-- after them.
pub record IsDamagedBlock (old new : TreesValue) (first : ℕ) (bytes : List ℕ) (block : ℕ) : Type 0 where
  pub before : List NodePage
  pub within : 4096 * length before < length bytes
  pub is : block ≡ first + length before
  pub added : AreAdded old new first (take (4096 * length before) bytes) before
  pub damaged :
      IsNoPage (block_of_bytes bytes (length before))
      ⊎ IsWrongPage old first before block (block_of_bytes bytes (length before))
