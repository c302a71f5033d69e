-- Trees that were made of pages: which block each one is of, and what was read from there.
use Rattle.std.specs.Prelude.{◌≡◌, ℕ, ◌<◌, ◌≤◌, nat_eq, List, [], ◌∷◌, Option, Some, None, IfSome, IsSome}
use Rattle.std.specs.Prelude.{IfOk, Result, slice_get, if◌then◌else◌}
use Rattle.btr_base.specs.declared.limits.TheConstants.{FIRST}
use Rattle.btr_tree.specs.Leads.{IsRead}
use Rattle.btr_tree.specs.Root.{TreeValue, WasOpened, root_part, version_of}
use Rattle.btr_tree.specs.Slots.{block_of}
use Rattle.btr_node.specs.Page.{header, Keeps, span_of_page, slots_of_page}
use Rattle.btr_node.specs.declared.page.NodePage.{NodePage}
use Rattle.btr_tree.specs.PageNodes.{Pages, nodes_in}
use Rattle.btr_pages.specs.Pages.{with_pages, HasRootPage, IsPageAt}

-- The tree that was made of the page in a block, and the stream of the page.
pub record KnownValue : Type 0 where
  pub block : ℕ
  pub stream : ℕ
  pub tree : TreeValue

-- The trees that were made, in the order in which they were made.
abbrev pub TreesValue : Type 0
TreesValue = List KnownValue

-- The tree of a block, if one was made.
abbrev pub node_at : TreesValue → ℕ → Option KnownValue
node_at [] block = None
node_at (known ∷ nodes) block = if nat_eq known.block block then Some known else node_at nodes block

-- What a tree has of the page that it was made of, and that it was read from there with all below it.
pub record CameFrom (pages : Pages) (page : NodePage) (known : KnownValue) : Type 0 where
  pub keeps : Keeps page
  pub stream : known.stream ≡ (header page).stream
  pub span : known.tree.span ≡ span_of_page page
  pub version : version_of known.tree.node ≡ (header page).version
  pub count : known.tree.total.count ≡ (header page).count
  pub opened : WasOpened known.tree
  pub its_block : block_of known.tree.node ≡ known.block
  pub read : IsRead (nodes_in pages known.stream) known.tree.span.height known.tree.span.start known.tree.node

-- The block has a page, and the tree was made of it.
pub record IsKnown (pages : Pages) (known : KnownValue) : Type 0 where
  pub page : NodePage
  pub is : pages known.block ≡ Some page
  pub made : CameFrom pages page known

-- The trees are those of the pages: each tree was made of the page in its block, and each block that has a page has a tree.
pub record AreKnown (pages : Pages) (nodes : TreesValue) : Type 0 where
  pub each : (block : ℕ) → IfSome (node_at nodes block) (IsKnown pages)
  pub all : (block : ℕ) → IsSome (pages block) → IsSome (node_at nodes block)

-- The trees are those of pages: each was made of the page in its block. Not every page needs to have a tree.
abbrev pub ArePartOf : Pages → TreesValue → Type 0
ArePartOf pages nodes = (block : ℕ) → IfSome (node_at nodes block) (IsKnown pages)

-- The trees of those children of a page are known that have a page: of each slot with a point.
abbrev pub KnowsChildren : Pages → TreesValue → NodePage → Type 0
KnowsChildren pages nodes page =
    (i : ℕ)
    → IfSome (slice_get (slots_of_page page) i)
    (λ slot. 0 < slot.agg.count → IsSome (pages slot.child) → IsSome (node_at nodes slot.child))

-- The tree of the page in a block was added to others: whatever pages the old trees were made of, the page stands rightly among them.
pub record TakesPage (old new : TreesValue) (block : ℕ) (page : NodePage) : Type 0 where
  -- if the block is above those of the old trees, and all pages have a tree, the new trees are those of the pages before and of this
  -- one
  pub known :
      (pages : Pages)
      → AreKnown pages old
      → ((k : ℕ) → IsSome (node_at old k) → k < block)
      → AreKnown (with_pages pages block (page ∷ [])) new
  -- the new trees are those of pages that have this page in its block
  pub part : (pages : Pages) → ArePartOf pages old → pages block ≡ Some page → ArePartOf pages new
  pub rightly : (pages : Pages) → ArePartOf pages old → IsPageAt pages block page
  -- the block has a tree
  pub stands : IsSome (node_at new block)
  -- the old trees are found as before
  pub kept : (k : ℕ) → IsSome (node_at old k) → node_at new k ≡ node_at old k

-- The tree of a version whose root is in this block: it is about the whole domain, its root is not newer than the version, and it
-- was read from the pages of the stream.
pub record IsReadRoot (pages : Pages) (stream version block : ℕ) (t : TreeValue) : Type 0 where
  pub its_span : t.span ≡ root_part
  pub its_block : block_of t.node ≡ block
  pub not_newer : version_of t.node ≤ version
  pub opened : WasOpened t
  pub read : IsRead (nodes_in pages stream) 10 FIRST t.node

-- If the block has the page of the root of a version among these pages, a call that succeeded returned the tree of the version.
abbrev pub ReturnsRoot : {E : Type 0} → Pages → ℕ → ℕ → ℕ → Result TreeValue E → Type 0
ReturnsRoot pages stream version block result =
    HasRootPage pages stream version block → IfOk result (IsReadRoot pages stream version block)

-- The block has a tree that was made, about the whole domain.
pub record HasWholeTree (nodes : TreesValue) (block : ℕ) : Type 0 where
  pub known : KnownValue
  pub is : node_at nodes block ≡ Some known
  pub opened : WasOpened known.tree
  pub height : known.tree.span.height ≡ 10
