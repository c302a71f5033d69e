-- What is verified: the pages on a device and the roots of commits, by the history whose trees they are to be. What is found: the first
-- wrong node.
use Rattle.std.specs.Prelude.{◌≡◌, ℕ, ◌*◌, ◌<◌, ◌≤◌, List, slice_get, Option, Some, IfSome, MatchOption}
use Rattle.btr_base.specs.declared.limits.TheConstants.{FIRST}
use Rattle.btr_base.specs.declared.point.Point.{Point}
use Rattle.btr_disk.specs.declared.disk.Disk.{Ghosts}
use Rattle.btr_disk.specs.Bytes.{Image, Has}
use Rattle.btr_disk.specs.Causes.{Rose}
use Rattle.btr_tree.specs.History.{Past, bag}
use Rattle.btr_tree.specs.Leads.{Leads}
use Rattle.btr_tree.specs.Nodes.{points_of, above_root}
use Rattle.btr_node.specs.Page.{page_bytes, Fits}
use Rattle.btr_node.specs.declared.page.NodePage.{NodePage}
use Rattle.btr_tree.specs.PageNodes.{Pages, nodes_in, Stand}
use Rattle.btr_pages.specs.Pages.{IsPageAt, HasRootPage}
use Rattle.btr_pages.specs.Known.{TreesValue, AreKnown}
use Rattle.btr_hist.specs.declared.entry.Entry.{Entry}
use Rattle.btr_hist.specs.History.{latest}
use Rattle.btr_streams.specs.declared.snapshot.Snapshot.{Snapshot}
use Rattle.btr_streams.specs.Past.{commits_to}
use Rattle.btr_streams.specs.Board.{HasVersion}
use Rattle.btr_streams.specs.Snapshot.{IsSnapshotOf}
use Rattle.btr_verify.specs.FirstWrong.{IsFirstWrongIn}
use Rattle.btr_verify.specs.declared.verifying.Made.{Made}
use Rattle.btr_verify.specs.declared.verifying.VerifyFault.{VerifyFault}
use Rattle.btr_verify.specs.declared.verifying.VerifyFault.TheVariants.{Fault, Want}

-- ---- the pages

-- The page is stored in its block of a device, from block 1 on, and stands rightly among these pages.
pub record IsStoredAt (image : Image) (pages : Pages) (block : ℕ) (page : NodePage) : Type 0 where
  pub some : 1 ≤ block
  pub fits : Fits page
  pub stored : Has image (4096 * block) (page_bytes page)
  pub stands : IsPageAt pages block page

-- Each of these pages is stored in its block of a device, and stands rightly there.
abbrev pub AreStoredAt : Image → Pages → Type 0
AreStoredAt image pages = (block : ℕ) → IfSome (pages block) (IsStoredAt image pages block)

-- ---- the commits

-- All commits of a stream.
abbrev pub past_of : List Entry → ℕ → Past
past_of h stream = commits_to h stream (latest h stream)

-- The history has the version. If the root is not 0, it is the block of the page of a root of the stream, which is not newer. It may be
-- 0 although the version has a point, or not 0 although it has none: then it does not lead to the tree of the version.
pub record IsCommitOf (pages : Pages) (h : List Entry) (made : Made) : Type 0 where
  pub has : HasVersion h made.stream made.version
  pub page : 0 < made.root → HasRootPage pages made.stream made.version made.root

-- The points of a version.
abbrev pub version_points : List Entry → ℕ → ℕ → List Point
version_points h stream version = points_of 10 FIRST (bag (commits_to h stream version))

-- The root leads to the tree of its version.
abbrev pub LeadsToTree : Pages → List Entry → Made → Type 0
LeadsToTree pages h made =
    Leads (Stand pages made.stream) 10 FIRST above_root (commits_to h made.stream made.version) made.root

-- These are commits of the history.
abbrev pub AreCommitsOf : Pages → List Entry → List Made → Type 0
AreCommitsOf pages h made = (i : ℕ) → IfSome (slice_get made i) (IsCommitOf pages h)

-- The trees are those of these pages, which are stored on the device. The snapshot has the entries of this history.
pub record AreTreesOf (image : Image) (pages : Pages) (h : List Entry) (nodes : TreesValue) (snapshot : Snapshot) : Type 0 where
  pub known : AreKnown pages nodes
  pub stored : AreStoredAt image pages
  pub of : IsSnapshotOf h snapshot

-- The trees are those of pages and of a history, and these are commits of the history.
pub record AreToVerify (image : Image) (pages : Pages) (h : List Entry) (nodes : TreesValue) (snapshot : Snapshot) (made : List Made)
    : Type 0 where
  pub trees : AreTreesOf image pages h nodes snapshot
  pub each : AreCommitsOf pages h made

-- ---- what is found

-- Each root leads to the tree of its version.
abbrev pub AllLead : Pages → List Entry → List Made → Type 0
AllLead pages h made = (i : ℕ) → IfSome (slice_get made i) (LeadsToTree pages h)

-- The first root that does not lead to the tree of its version is that of this commit.
pub record IsFirstThatFails (pages : Pages) (h : List Entry) (made : List Made) (first : Made) : Type 0 where
  pub at : ℕ
  pub is : slice_get made at ≡ Some first
  pub before : (i : ℕ) → i < at → IfSome (slice_get made i) (LeadsToTree pages h)
  pub fails : LeadsToTree pages h first → ⊥

-- From the first root that does not lead to the tree of its version, the first wrong node is in this block.
pub record IsFirstWrongNode (pages : Pages) (h : List Entry) (made : List Made) (block : ℕ) : Type 0 where
  pub first : Made
  pub fails : IsFirstThatFails pages h made first
  pub wrong : IsFirstWrongIn (nodes_in pages first.stream) (past_of h first.stream) first.version first.root block

-- Nothing is found exactly if each root leads to the tree of its version. Else the block of the first wrong node is found.
abbrev pub IsVerified : Pages → List Entry → List Made → Option ℕ → Type 0
IsVerified pages h made found = MatchOption found (AllLead pages h made) (IsFirstWrongNode pages h made)

-- ---- the device

module _ {D : Type 0} (disk : Ghosts D) where
  -- Why nothing was found out between two states of a device: it failed, or there was no memory.
  abbrev pub VerifyCause : D → D → VerifyFault → Type 0
  VerifyCause old new Fault = Rose (disk.faults old) (disk.faults new)
  VerifyCause old new Want = Unit {0}
