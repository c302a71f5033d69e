-- What the private functions promise: which pages were judged, and how.
use Rattle.std.specs.Prelude.{◌≡◌, ℕ, ◌^◌, ◌<◌, ◌≤◌, List, length, slice_get, Option, Some, IfSome, IsSome, MatchOption}
use Rattle.btr_disk.specs.declared.disk.Disk.{Ghosts}
use Rattle.btr_disk.specs.Bytes.{Image}
use Rattle.btr_log.specs.Piece.{PieceValue, IsPieceOf}
use Rattle.btr_log.specs.Reads.{OnlyReads}
use Rattle.btr_tree.specs.History.{Past}
use Rattle.btr_tree.specs.NewNodes.{NewNodeValue}
use Rattle.btr_tree.specs.Root.{root_part}
use Rattle.btr_tree.specs.Stored.{Store}
use Rattle.btr_node.specs.Page.{header, span_of_page}
use Rattle.btr_node.specs.declared.page.NodePage.{NodePage}
use Rattle.btr_node.specs.declared.page.PageSlot.{PageSlot}
use Rattle.btr_tree.specs.PageNodes.{Pages, nodes_in, node_of_page}
use Rattle.btr_pages.specs.Known.{TreesValue, AreKnown, node_at}
use Rattle.btr_hist.specs.declared.entry.Entry.{Entry}
use Rattle.btr_streams.specs.declared.snapshot.Snapshot.{Snapshot}
use Rattle.btr_streams.specs.Board.{HasVersion}
use Rattle.btr_streams.specs.Past.{commits_to}
use Rattle.btr_streams.specs.Snapshot.{IsSnapshotOf}
use Rattle.btr_verify.specs.Judged.{version_in, IsOwn, IsRight}
use Rattle.btr_verify.specs.FirstWrong.{IsFirstWrong}
use Rattle.btr_verify.specs.declared.verifying.Made.{Made}
use Rattle.btr_verify.specs.declared.judging.Mark.{Mark}
use Rattle.btr_verify.specs.declared.judging.Mark.TheVariants.{Right, WrongBelow, Wrong}
use Rattle.btr_verify.specs.Trees.{IsStoredAt, AreStoredAt, AreTreesOf, AllLead, IsFirstThatFails, past_of, version_points}

-- ---- reading

module _ {D : Type 0} (disk : Ghosts D) where
  -- Blocks below the tail can be read into the piece, whose blocks are those of the device.
  pub record CanReadTo (tail : ℕ) (piece : PieceValue) (d : D) : Type 0 where
    pub inside : tail ≤ disk.size d
    pub addressable : tail ≤ 2 ^ 32
    pub holds : disk.is_observable → IsPieceOf (disk.contents d) piece

  -- The calls between two states of a device wrote nothing, and after them blocks below the tail can be read into the piece.
  pub record ReadsBelow (tail : ℕ) (old new : D) (piece : PieceValue) : Type 0 where
    pub reads : OnlyReads disk old new
    pub can : CanReadTo tail piece new

-- If the block has a page that stands rightly among others, it was read.
abbrev pub IsPageRead : Image → ℕ → Option NodePage → Type 0
IsPageRead image block read = (pages : Pages) (page : NodePage) → IsStoredAt image pages block page → read ≡ Some page

-- What was read is the page that the block has among pages of which trees were made, or none.
abbrev pub IsKnownPage : Image → TreesValue → ℕ → Option NodePage → Type 0
IsKnownPage image nodes block read = (pages : Pages) → AreKnown pages nodes → AreStoredAt image pages → pages block ≡ read

-- ---- marks

-- What the mark of a stored node says.
abbrev pub IsJudged : Store → Past → ℕ → NewNodeValue → Mark → Type 0
IsJudged store h block node Right = IsRight store h block node
IsJudged store h block node WrongBelow = IsOwn h node × (IsRight store h block node → ⊥)
IsJudged store h block node Wrong = IsOwn h node → ⊥

-- The history has the version of the page.
abbrev pub HasPageVersion : List Entry → NodePage → Type 0
HasPageVersion h page = HasVersion h (header page).stream (header page).version

-- If the history has the version of the page in a block, the mark says how the page's node is.
abbrev pub IsMarkOf : Pages → List Entry → ℕ → Mark → NodePage → Type 0
IsMarkOf pages h block mark page =
    HasPageVersion h page
    → IsJudged (nodes_in pages (header page).stream) (past_of h (header page).stream) block (node_of_page page) mark

-- Each block below n has a mark, which says how the node of its page is, if it has a page.
pub record AreMarked (pages : Pages) (h : List Entry) (n : ℕ) (marks : List Mark) : Type 0 where
  pub counted : length marks ≡ n
  pub each : (block : ℕ) → IfSome (slice_get marks block) (λ mark. IfSome (pages block) (IsMarkOf pages h block mark))

-- The child of the slot is right, if the slot has a point.
abbrev pub IsMarkedRight : List Mark → PageSlot → Type 0
IsMarkedRight marks slot = 0 < slot.agg.count → slice_get marks slot.child ≡ Some Right

-- The children of all slots are right.
abbrev pub AreMarkedRight : List Mark → List PageSlot → Type 0
AreMarkedRight marks slots = (i : ℕ) → IfSome (slice_get slots i) (IsMarkedRight marks)

-- The first slot whose child is not right has its child in this block.
pub record IsFirstNotRight (marks : List Mark) (slots : List PageSlot) (child : ℕ) : Type 0 where
  pub at : ℕ
  pub slot : PageSlot
  pub is : slice_get slots at ≡ Some slot
  pub some : 0 < slot.agg.count
  pub its_child : slot.child ≡ child
  pub not_right : slice_get marks child ≡ Some Right → ⊥
  pub before : (i : ℕ) → i < at → IfSome (slice_get slots i) (IsMarkedRight marks)

-- What page the block has, or none, can be judged: the blocks below it have marks.
pub record CanJudge (pages : Pages) (h : List Entry) (image : Image) (block : ℕ) (marks : List Mark) (snapshot : Snapshot)
    (page : Option NodePage) : Type 0 where
  pub of : IsSnapshotOf h snapshot
  pub is : pages block ≡ page
  pub stored : AreStoredAt image pages
  pub marked : AreMarked pages h block marks

-- Of any pages and any history that the trees are of, the blocks below n have marks.
abbrev pub AreMarksOf : Image → TreesValue → Snapshot → ℕ → List Mark → Type 0
AreMarksOf image nodes snapshot n marks =
    (pages : Pages) (h : List Entry) → AreTreesOf image pages h nodes snapshot → AreMarked pages h n marks

-- ---- roots

-- All pages were judged: the blocks below the tail have marks, and the pages are in these blocks.
pub record WereJudged (pages : Pages) (h : List Entry) (nodes : TreesValue) (snapshot : Snapshot) (marks : List Mark) : Type 0 where
  pub image : Image
  pub tail : ℕ
  pub trees : AreTreesOf image pages h nodes snapshot
  pub below : (block : ℕ) → IsSome (node_at nodes block) → block < tail
  pub marked : AreMarked pages h tail marks

-- Each root leads to the tree of its version, or the first one that does not is that of the commit that was found.
abbrev pub IsFirstFailure : Pages → List Entry → List Made → Option Made → Type 0
IsFirstFailure pages h made found = MatchOption found (AllLead pages h made) (IsFirstThatFails pages h made)

-- The version of a commit has a point, and the page of the root has the version of the root of the version's tree.
pub record HasTreeVersion (pages : Pages) (h : List Entry) (made : Made) : Type 0 where
  pub some : 0 < length (version_points h made.stream made.version)
  pub page : NodePage
  pub is : pages made.root ≡ Some page
  pub same : (header page).version ≡ version_in root_part (commits_to h made.stream made.version)

-- ---- the way down

-- From the page in a block, the first wrong node is in the block that is named.
abbrev pub IsFirstWrongFrom : Pages → List Entry → NodePage → ℕ → ℕ → Type 0
IsFirstWrongFrom pages h page block named =
    IsFirstWrong (nodes_in pages (header page).stream) (past_of h (header page).stream)
    (span_of_page page) (header page).version block named

-- The block has the page, which is of a version of the history, and is not right. The blocks below the tail have marks.
pub record IsPageNotRight (pages : Pages) (h : List Entry) (image : Image) (tail : ℕ) (marks : List Mark) (block : ℕ) (page : NodePage)
    : Type 0 where
  pub stored : AreStoredAt image pages
  pub marked : AreMarked pages h tail marks
  pub is : pages block ≡ Some page
  pub has : HasPageVersion h page
  pub not_right : slice_get marks block ≡ Some Right → ⊥

-- The first wrong node from a page is that from the page in another block, which is not right either.
pub record GoesDown (pages : Pages) (h : List Entry) (image : Image) (tail : ℕ) (marks : List Mark) (block : ℕ) (page : NodePage) (next : ℕ)
    : Type 0 where
  pub below : NodePage
  pub wrong : IsPageNotRight pages h image tail marks next below
  pub on : (named : ℕ) → IsFirstWrongFrom pages h below next named → IsFirstWrongFrom pages h page block named

-- From any page that the block may have and that is not right, the first wrong node is in the block that is named.
abbrev pub IsNamedFrom : Image → ℕ → List Mark → ℕ → ℕ → Type 0
IsNamedFrom image tail marks block named =
    (pages : Pages) (h : List Entry) (page : NodePage)
    → IsPageNotRight pages h image tail marks block page
    → IsFirstWrongFrom pages h page block named

-- From any page that the block may have and that is not right, the way goes on to the next block, or ends if there is none.
abbrev pub IsNextFrom : Image → ℕ → List Mark → ℕ → Option ℕ → Type 0
IsNextFrom image tail marks block next =
    (pages : Pages) (h : List Entry) (page : NodePage)
    → IsPageNotRight pages h image tail marks block page
    → MatchOption next (IsFirstWrongFrom pages h page block block) (GoesDown pages h image tail marks block page)
