-- The pages of the nodes that a commit writes.
use Rattle.std.specs.Prelude.{◌≡◌, ℕ, ◌+◌, ◌^◌, ◌<◌, ◌≤◌, List, length, IfSome}
use Rattle.std.specs.Int.{w64}
use Rattle.std.specs.Int.RustNames.{FitsSigned}
use Rattle.std.specs.List.{AllByRecursion}
use Rattle.btr_base.specs.declared.limits.TheConstants.{FIRST}
use Rattle.btr_tree.specs.History.{Commit, Past, ◌▷◌, IsBefore}
use Rattle.btr_tree.specs.NewNodes.{NewNodeValue, bare_all, new_nodes}
use Rattle.btr_tree.specs.Nodes.{above_root}
use Rattle.btr_tree.specs.Root.{TreeValue, IsTree}
use Rattle.btr_tree.specs.Stored.{Store, IsBelow, IsLaid}
use Rattle.btr_node.specs.Page.{Keeps, Fits}
use Rattle.btr_tree.specs.PageNodes.{Pages, nodes_in}
use Rattle.btr_pages.specs.Pages.{with_pages, pages_of, ArePages}

-- Each page keeps the table, and its numbers fit their widths.
abbrev pub AreKept : Pages → Type 0
AreKept pages = (block : ℕ) → IfSome (pages block) (λ page. Keeps page × Fits page)

-- A tree that is stored in pages below a block, a commit that is newer than its past, and the numbers of both within their limits.
pub record IsReportedOf (pages : Pages) (stream first : ℕ) (h : Past) (c : Commit) (old : TreeValue) : Type 0 where
  pub some : 0 < c.version
  pub before : IsBefore c.version h
  pub tree : IsTree h old
  pub stored : IsBelow (nodes_in pages stream) first 10 FIRST old.node
  pub kept : AreKept pages
  pub values : AllByRecursion (λ p. FitsSigned w64 p.value) c.added
  pub stream_to : stream < 2 ^ 32
  pub version_to : c.version ≤ 4294967295

-- The tree after the commit, and the nodes that it wrote, for the blocks from `first` on.
pub record IsReportedBy (first : ℕ) (h : Past) (c : Commit) (old new : TreeValue) (reported : List NewNodeValue) : Type 0 where
  pub tree : IsTree (c ▷ h) new
  pub nodes : bare_all reported ≡ new_nodes 10 FIRST above_root (c ▷ h) c.version
  pub laid : (store : Store) → IsBelow store first 10 FIRST old.node → IsLaid store first reported 10 FIRST new.node
  pub blocks : first + length reported < 2 ^ 64

-- The pages of the nodes stand rightly from `first` on, their numbers fit, and the new tree is stored in them and the pages before.
pub record AreReported (pages : Pages) (stream first : ℕ) (reported : List NewNodeValue) (new : TreeValue) : Type 0 where
  pub stand : ArePages pages first (pages_of stream reported)
  pub fit : AllByRecursion Fits (pages_of stream reported)
  pub stored : IsBelow (nodes_in (with_pages pages first (pages_of stream reported)) stream) (first + length reported) 10 FIRST new.node

-- The pages of what any commit wrote stand rightly.
abbrev pub ReportedPagesStand : Type 0
ReportedPagesStand =
    (pages : Pages) (stream first : ℕ) (h : Past) (c : Commit) (old new : TreeValue) (reported : List NewNodeValue)
    → IsReportedOf pages stream first h c old
    → IsReportedBy first h c old new reported
    → AreReported pages stream first reported new
