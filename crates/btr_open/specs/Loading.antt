-- What the functions promise that read the extents of a log one by one.
use Rattle.std.specs.Prelude.{◌≡◌, ◌⊎◌, ℕ, ◌+◌, ◌*◌, ◌^◌, ◌<◌, ◌≤◌, max, List, [], ◌∷◌, ◌++◌, length, slice_get}
use Rattle.std.specs.Prelude.{Option, Some, None, IfSome, IsSome, IsNone, MatchOption}
use Rattle.btr_disk.specs.declared.disk.Disk.{Ghosts}
use Rattle.btr_disk.specs.Bytes.{Image, Has}
use Rattle.btr_log.specs.Piece.{IsPieceOf}
use Rattle.btr_log.specs.declared.head.Head.{Head}
use Rattle.btr_log.specs.Extents.{need}
use Rattle.btr_node.specs.Page.{Spells, Keeps, Fits, slots_of_page}
use Rattle.btr_node.specs.declared.page.NodePage.{NodePage}
use Rattle.btr_node.specs.declared.page.PageSlot.{PageSlot}
use Rattle.btr_tree.specs.PageNodes.{Pages}
use Rattle.btr_pages.specs.Pages.{HasRootPage}
use Rattle.btr_pages.specs.Blocks.{block_of_bytes}
use Rattle.btr_pages.specs.Known.{TreesValue, AreKnown, ArePartOf, IsReadRoot, node_at}
use Rattle.btr_tree.specs.History.{nothing}
use Rattle.btr_tree.specs.Root.{TreeValue, IsTree}
use Rattle.btr_hist.specs.declared.entry.Entry.{Entry}
use Rattle.btr_hist.specs.Legal.{rejection, Follows}
use Rattle.btr_streams.specs.declared.board.Staged.{Staged}
use Rattle.btr_entry.specs.Format.{format_of}
use Rattle.btr_engine.specs.Body.{Prefix, pages_after, with_extent, IsBodyOf, LeadTo}
use Rattle.btr_streams.specs.Board.{IsBoardOf}
use Rattle.btr_engine.specs.Roots.{IsRootOf}
use Rattle.btr_streams.specs.Stage.{ReadsEntry, IsTreeAfter, HasRoomFor}
use Rattle.btr_streams.specs.Rolling.{rolled}
use Rattle.btr_open.specs.declared.below.BlockReader.{BlockReader}
use Rattle.btr_open.specs.declared.below.Fetched.{Fetched}
use Rattle.btr_open.specs.declared.below.SlotAt.{SlotAt}
use Rattle.btr_open.specs.declared.below.Fetched.TheVariants.{Known, NoPage, Broken}
use Rattle.btr_open.specs.declared.judge.Judge.{Ghosts as Judging}
use Rattle.btr_open.specs.declared.loading.Loader.{Loader}
use Rattle.btr_open.specs.Reached.{Reached, with_entry, with_other_pages}
use Rattle.btr_roll.specs.declared.roll.RollVersion.{RollVersion}
use Rattle.btr_roll.specs.Roll.{RollStreamValue}
use Rattle.btr_open.specs.Start.{HasVersionAt}
use Rattle.btr_open.specs.Below.{StandBelow, AreWider, IsStoredPage, HasNoPage, BreaksBelow}
use Rattle.btr_open.specs.Content.{HasContent, node_blocks_of}
use Rattle.btr_open.specs.Walk.{FitsRoll, IsNextBody, IsCheckpointBody, IsNoNextBody, HasWrongRoot, HasWrongNode, BreaksBodyBy}
use Rattle.btr_open.specs.Seen.{Seen, with_seen, with_mark, Lets, LeadOnBy}
use Rattle.btr_open.specs.Reading.{IsReadInto, WasReadTo, IsStoredIn}
use Rattle.btr_log.specs.Reads.{OnlyReads}

-- ---- pages below the checkpoint, read one by one

-- The blocks that the reader holds are those of the device.
pub record IsReaderOf (image : Image) (reader : BlockReader) : Type 0 where
  pub ahead : IsPieceOf image reader.ahead
  pub one : IsPieceOf image reader.one

-- These are the bytes of a block of the device.
pub record IsDeviceBlock (image : Image) (block : ℕ) (bytes : List ℕ) : Type 0 where
  pub size : length bytes ≡ 4096
  pub has : Has image (4096 * block) bytes

-- Trees of pages below the limit were made. It is said of each device, also of one that does not tell its bytes: all old ones are there,
-- and no new one is from the limit on. If the old trees are those of some pages, the new ones are those of wider pages.
pub record GrowsBelow (limit : ℕ) (old new : TreesValue) : Type 0 where
  pub kept : (block : ℕ) → IfSome (node_at old block) (λ known. node_at new block ≡ Some known)
  pub only : (block : ℕ) → IsSome (node_at new block) → IsSome (node_at old block) ⊎ (block < limit)
  pub known : (pages : Pages) → AreKnown pages old → (wider : Pages) × AreWider limit pages wider × AreKnown wider new

-- Trees of pages of the device were made: the wider pages stand rightly below the limit if the others do.
pub record AddsBelow (image : Image) (limit : ℕ) (old new : TreesValue) : Type 0 where
  pub grows : GrowsBelow limit old new
  pub stands : (pages : Pages) (are : AreKnown pages old) → StandBelow image limit pages → StandBelow image limit (grows.known pages are).0

-- If all pages of a set are stored rightly and this block is among them, all trees that were made are of these pages.
abbrev pub StaysPart : Image → ℕ → ℕ → TreesValue → TreesValue → Type 0
StaysPart image limit block old new =
    (pages : Pages) → StandBelow image limit pages → IsSome (pages block) → ArePartOf pages old → ArePartOf pages new

-- What was found of the page in a block, after the trees were made that could be.
abbrev pub IsFetched : Image → ℕ → TreesValue → Fetched → Type 0
IsFetched image block new Known = IsSome (node_at new block)
IsFetched image block new NoPage = HasNoPage image block
IsFetched image block new (Broken named) = (page : NodePage) × IsStoredPage image block page × BreaksBelow image block page named

-- The tree of the page in a block, and those of the pages below it, were made as far as they stand rightly, and this was found of the page.
pub record FetchesPage (image : Image) (limit block : ℕ) (old new : TreesValue) (fetched : Fetched) : Type 0 where
  pub adds : AddsBelow image limit old new
  pub part : StaysPart image limit block old new
  pub found : IsFetched image block new fetched

-- The trees that were made are those of pages which stand rightly below the limit.
abbrev pub AreOfDevice : Image → ℕ → TreesValue → Type 0
AreOfDevice image limit nodes = (own : Pages) × StandBelow image limit own × AreKnown own nodes

module _ {D : Type 0} (disk : Ghosts D) where
  -- The reader can read the blocks below its limit: the device has them, and those that the reader holds are the device's.
  pub record CanRead (reader : BlockReader) (d : D) : Type 0 where
    pub inside : reader.limit ≤ disk.size d
    pub addressable : reader.limit ≤ 2 ^ 32
    pub holds : disk.is_observable → IsReaderOf (disk.contents d) reader

  -- Blocks below the limit were read, and nothing was written.
  pub record HasReadBelow (old new : BlockReader) (before after : D) : Type 0 where
    pub limit : new.limit ≡ old.limit
    pub reads : OnlyReads disk before after
    pub holds : disk.is_observable → IsReaderOf (disk.contents after) new

-- A page that was read of a block below the limit.
pub record IsReadPage (block limit : ℕ) (page : NodePage) : Type 0 where
  pub some : 1 ≤ block
  pub below : block < limit
  pub keeps : Keeps page
  pub fits : Fits page

-- The page is stored in its block, and the trees that were made are of pages of the device too.
pub record IsStoredWith (image : Image) (limit block : ℕ) (page : NodePage) (nodes : TreesValue) : Type 0 where
  pub stored : IsStoredPage image block page
  pub own : AreOfDevice image limit nodes

-- No block above this one has a tree that it had not before.
abbrev pub HasNoneAbove : ℕ → TreesValue → TreesValue → Type 0
HasNoneAbove block old new = (k : ℕ) → IsSome (node_at new k) → IsSome (node_at old k) ⊎ (k ≤ block)

-- No block from this one on has a tree that it had not before.
abbrev pub HasNoneFrom : ℕ → TreesValue → TreesValue → Type 0
HasNoneFrom block old new = (k : ℕ) → IsSome (node_at new k) → IsSome (node_at old k) ⊎ (k < block)

-- If the slot has a point, its child is in a lower block, and has a tree.
abbrev pub KnowsChild : ℕ → TreesValue → PageSlot → Type 0
KnowsChild block nodes slot = 0 < slot.agg.count → (slot.child < block) × IsSome (node_at nodes slot.child)

-- Trees of pages below the page in a block were made, and perhaps its own: what was to be done is done, or a block is named that breaks the
-- format, as it is found from the page downwards.
pub record MakesBelow (image : Image) (limit block : ℕ) (page : NodePage) (old new : TreesValue) (done : Type 0) (broken : Option ℕ)
    : Type 0 where
  pub adds : AddsBelow image limit old new
  pub part : StaysPart image limit block old new
  pub found : MatchOption broken done (BreaksBelow image block page)

-- It is a slot of its page.
abbrev pub IsSlotOf : SlotAt → Type 0
IsSlotOf at = slice_get (slots_of_page at.page.now) at.i ≡ Some at.slot.now

module _ {D : Type 0} (disk : Ghosts D) where
  -- The trees of the pages below the page in a block can be made: the reader can read them, and the page was read of its block.
  pub record CanMake (reader : BlockReader) (d : D) (block : ℕ) (page : NodePage) (nodes : TreesValue) : Type 0 where
    pub can : CanRead disk reader d
    pub page_read : IsReadPage block reader.limit page
    pub device : disk.is_observable → IsStoredWith (disk.contents d) reader.limit block page nodes

  -- The trees of the child of a slot, and of the pages below it, can be made: those below the slot's page can.
  pub record CanMakeChild (reader : BlockReader) (d : D) (at : SlotAt) (nodes : TreesValue) : Type 0 where
    pub below : CanMake reader d at.block at.page.now nodes
    pub slot : IsSlotOf at

  -- Trees of pages below the limit were made, and what was to be done is done, or a block is named that breaks the format.
  pub record Makes (d : D) (limit block : ℕ) (page : NodePage) (old new : TreesValue) (done : Type 0) (broken : Option ℕ) : Type 0 where
    pub grows : GrowsBelow limit old new
    pub made : disk.is_observable → MakesBelow (disk.contents d) limit block page old new done broken

  -- What was to be done is that the child of a slot with a point has a tree.
  abbrev pub MakesChild : D → ℕ → SlotAt → TreesValue → TreesValue → Option ℕ → Type 0
  MakesChild d limit at old new broken =
      Makes d limit at.block at.page.now old new (KnowsChild at.block new at.slot.now) broken

-- The slot has a point, and its child is in a lower block, of which no tree was made.
pub record HasUnknownChild (at : SlotAt) (nodes : TreesValue) : Type 0 where
  pub some : 0 < at.slot.now.agg.count
  pub lower : at.slot.now.child < at.block
  pub fresh : IsNone (node_at nodes at.slot.now.child)

-- ---- the pages that an extent needs

-- The extent with this root and these bytes of node blocks needs the page in a block: the block is the root, or the child of a slot with
-- a point, of a page that one of the node blocks is.
abbrev pub IsNeeded : List ℕ → ℕ → ℕ → Type 0
IsNeeded bytes root block =
    (block ≡ root)
    ⊎ ((n : ℕ) × (page : NodePage) × (i : ℕ) × (slot : PageSlot) × (4096 * n < length bytes) × Fits page
    × Spells (block_of_bytes bytes n) page × (slice_get (slots_of_page page) i ≡ Some slot) × (0 < slot.agg.count) × (block ≡ slot.child))

-- The pages have each page below the limit that the extent needs.
abbrev pub HaveNeeded : ℕ → List ℕ → ℕ → Pages → Type 0
HaveNeeded limit bytes root pages =
    (block : ℕ) → IsNeeded bytes root block → 1 ≤ block → block < limit → IsSome (pages block)

-- Of each page below the limit that the extent needs a tree was made, if it is among pages that stand rightly there.
abbrev pub AreFetched : Image → ℕ → List ℕ → ℕ → TreesValue → Type 0
AreFetched image limit bytes root nodes =
    (pages : Pages) → StandBelow image limit pages
    → (block : ℕ) → IsNeeded bytes root block → block < limit → IsSome (pages block) → IsSome (node_at nodes block)

-- It is this block.
abbrev pub IsBlock : ℕ → ℕ → Type 0
IsBlock block k = k ≡ block

-- The block is the child of one of these slots, which has a point.
abbrev pub IsSlotChild : List PageSlot → ℕ → Type 0
IsSlotChild slots k = (i : ℕ) × (slot : PageSlot) × (slice_get slots i ≡ Some slot) × (0 < slot.agg.count) × (k ≡ slot.child)

-- The trees of the pages in these blocks, and of the pages below them, were made, as far as they stand rightly below the limit.
pub record FetchesAll (image : Image) (limit : ℕ) (blocks : ℕ → Type 0) (old new : TreesValue) : Type 0 where
  pub adds : AddsBelow image limit old new
  pub part : (pages : Pages) → StandBelow image limit pages
      → ((block : ℕ) → blocks block → 1 ≤ block → block < limit → IsSome (pages block)) → ArePartOf pages old → ArePartOf pages new
  pub fetched : (pages : Pages) → StandBelow image limit pages
      → (block : ℕ) → blocks block → block < limit → IsSome (pages block) → IsSome (node_at new block)

-- ---- the tree of a root

-- The tree of a root: that of no commit if the root is 0; else the one that was read from the page of the root, whatever the pages and the
-- version are.
pub record IsTreeOfRoot (nodes : TreesValue) (root : ℕ) (t : TreeValue) : Type 0 where
  pub empty : root ≡ 0 → IsTree nothing t
  pub read : 0 < root → (pages : Pages) (stream version : ℕ) → ArePartOf pages nodes → IsSome (node_at nodes root)
      → HasRootPage pages stream version root → IsReadRoot pages stream version root t

-- The trees of streams: of each version from version 0 on, and each made of the version's root, whose page's tree was made.
pub record AreTreesOf (nodes : TreesValue) (roll : List RollStreamValue) (trees : List (List TreeValue)) : Type 0 where
  pub counted : length trees ≡ length roll
  pub long : (stream : ℕ) (s : RollStreamValue) (ts : List TreeValue) → slice_get roll stream ≡ Some s → slice_get trees stream ≡ Some ts
      → length ts ≡ length s.versions + 1
  pub first : (stream : ℕ) (ts : List TreeValue) (t : TreeValue) → slice_get trees stream ≡ Some ts → slice_get ts 0 ≡ Some t
      → IsTree nothing t
  pub others : (stream k : ℕ) (v : RollVersion) (ts : List TreeValue) (t : TreeValue) → HasVersionAt roll stream k v
      → slice_get trees stream ≡ Some ts → slice_get ts (k + 1) ≡ Some t
      → IsTreeOfRoot nodes v.root t × (0 < v.root → IsSome (node_at nodes v.root))

-- ---- one entry

-- The new board is the old one with an entry more, whose version has the tree of this root. The trees of the pages are as before.
pub record AddsTree (old : Loader) (e : Entry) (root : ℕ) (new : Loader) : Type 0 where
  pub same : new.nodes ≡ old.nodes
  pub least : new.least ≡ max old.least (format_of e)
  pub counted : new.board.entries ≡ old.board.entries + 1
  pub tree : TreeValue
  pub is : IsTreeOfRoot old.nodes root tree
  pub staged : Staged
  pub next : new.board ≡ staged.next
  pub reads : ReadsEntry old.board e tree staged
  pub of : (h : List Entry) → IsBoardOf h old.board → rejection h e ≡ None → IsTreeAfter h e tree → IsBoardOf (h ++ e ∷ []) new.board

-- The body after this gate was added, with this entry and this root: for what is before the gate, it is that of the next entry, and is read
-- now. And if the board was that of a prefix, and the entry and its root follow it, the board is that of the prefix with the entry.
pub record HasAdded (gate : ℕ) (body : List ℕ) (e : Entry) (root : ℕ) (old new : Loader) : Type 0 where
  pub pages : List NodePage
  pub is : (log : Reached) → log.gate ≡ gate → IsReadInto log old → IsNextBody log e root pages body
  pub into : (log : Reached) → log.gate ≡ gate → IsReadInto log old → IsReadInto (with_entry log e root pages body) new
  pub history : (log : Prefix) → log.gate ≡ gate → IsStoredIn log old → IsBodyOf log e root pages body → Follows (log.entries ++ e ∷ [])
      → IsRootOf (pages_after log e pages) log.entries e root pages → IsStoredIn (with_extent log e root pages body) new

-- The body has this entry, which may follow what was read.
pub record IsNextEntry (old : Loader) (e : Entry) (head : Head) (body : List ℕ) : Type 0 where
  pub content : HasContent (old.board.entries + 1) e head.root (node_blocks_of head body) body
  pub may : HasRoomFor old.board e
  pub allowed : FitsRoll (rolled old.board) e

-- For what is before the gate, the body has neither the next entry nor a checkpoint.
abbrev pub HasNothingNext : ℕ → List ℕ → Loader → ℕ → Type 0
HasNothingNext gate body old block = (log : Reached) → log.gate ≡ gate → IsReadInto log old → IsNoNextBody log body block

-- It is this entry with this root.
abbrev pub IsThisEntry : Entry → ℕ → Entry → ℕ → Type 0
IsThisEntry e root other at = (other ≡ e) × (at ≡ root)

-- For what is before the gate, this block of the body of an entry breaks the format: the root or a node block is wrong, if the tree of each
-- page that the extent needs was made, where that page stands.
abbrev pub BreaksEntry : ℕ → List ℕ → List ℕ → Entry → ℕ → Loader → ℕ → Type 0
BreaksEntry gate body bytes e root old block =
    (image : Image) (limit : ℕ) (log : Reached) → log.gate ≡ gate → IsReadInto log old → StandBelow image limit log.pages
    → AreFetched image limit bytes root old.nodes
    → HasWrongRoot (IsThisEntry e root) image limit log body block ⊎ HasWrongNode (IsThisEntry e root) image limit log body block

-- ---- one extent, with a judge

module _ {J : Type 0} (by : Judging J) where
  -- The body after this gate was added, and the judge let its entry follow.
  pub record HasJudged (gate : ℕ) (body : List ℕ) (old new : Loader) (before after : J) : Type 0 where
    pub entry : Entry
    pub root : ℕ
    pub added : HasAdded gate body entry root old new
    pub judged : (seen : Seen) → by.is_after seen before → by.may seen.entries entry root × by.is_after (with_seen seen entry root) after

  -- For what is before the gate, and what was seen of it, this block of the body breaks the format or the rule, if the tree of each page
  -- that the extent needs was made, where that page stands.
  abbrev pub BreaksNext : ℕ → List ℕ → List ℕ → ℕ → Loader → J → ℕ → Type 0
  BreaksNext gate body bytes root old before block =
      (image : Image) (limit : ℕ) (log : Reached) (seen : Seen) → log.gate ≡ gate → IsReadInto log old → StandBelow image limit log.pages
      → AreFetched image limit bytes root old.nodes → by.is_after seen before
      → BreaksBodyBy (Lets by.may log seen.entries) image limit log body block

  -- The body leads on from what is before it, with wider pages below the limit, and all was read up to the gate after it. The judge has
  -- seen what there was to see.
  pub record LeadsNext (image : Image) (limit : ℕ) (log : Reached) (seen : Seen) (body : List ℕ) (new : Loader) (after : J) : Type 0 where
    pub wider : Pages
    pub wide : AreWider limit log.pages wider
    pub stand : StandBelow image limit wider
    pub next : Reached
    pub all : Seen
    pub leads : LeadOnBy by.may (with_other_pages log wider) seen (body ∷ []) next all
    pub into : IsReadInto next new
    pub judged : by.is_after all after

  -- The body after a gate was read. It leads on from what is before the gate. If the board was that of a prefix of the device's history,
  -- and the body leads on to a longer one, the board is that of the longer one.
  pub record ReadsBody (image : Image) (limit gate : ℕ) (body : List ℕ) (old new : Loader) (before after : J) : Type 0 where
    pub leads : (log : Reached) (seen : Seen) → log.gate ≡ gate → IsReadInto log old → StandBelow image limit log.pages
        → by.is_after seen before → LeadsNext image limit log seen body new after
    pub stored : (log more : Prefix) → log.gate ≡ gate → IsStoredIn log old → StandBelow image limit log.pages
        → LeadTo IsRootOf log (body ∷ []) more → Follows more.entries → IsStoredIn more new

  -- This block of the body after a gate breaks the format or the rule, for what is before the gate, with wider pages below the limit.
  abbrev pub BreaksAfter : Image → ℕ → ℕ → List ℕ → Loader → J → ℕ → Type 0
  BreaksAfter image limit gate body old before block =
      (log : Reached) (seen : Seen) → log.gate ≡ gate → IsReadInto log old → StandBelow image limit log.pages → by.is_after seen before
      → (wider : Pages) × AreWider limit log.pages wider × StandBelow image limit wider
      × BreaksBodyBy (Lets by.may (with_other_pages log wider) seen.entries) image limit (with_other_pages log wider) body block

-- Something was read up to the gate after a body, with one entry more or none. It is said of each device.
pub record ReadsThrough (gate : ℕ) (body : List ℕ) (old new : Loader) : Type 0 where
  pub into : WasReadTo (gate + need body) new
  pub counted : new.board.entries ≤ old.board.entries + 1

-- For what is before, the body is that of a checkpoint.
abbrev pub IsCheckpointRead : List ℕ → Loader → Type 0
IsCheckpointRead body l = (log : Reached) → IsReadInto log l → IsCheckpointBody log body

-- The body of a checkpoint was read, and marked.
module _ {J : Type 0} (by : Judging J) where
  pub record HasMarked (gate : ℕ) (body : List ℕ) (l : Loader) (before after : J) : Type 0 where
    pub is : IsCheckpointRead body l
    pub judged : (seen : Seen) → by.is_after seen before → by.is_after (with_mark seen gate (gate + need body)) after
