-- What a commit to a tree gives.
use Rattle.std.specs.Prelude.{◌≡◌, ℕ, ◌+◌, ◌*◌, ◌<◌, ◌≤◌, List, length, min}
use Rattle.btr_base.specs.declared.point.Point.{Point}
use Rattle.btr_base.specs.Range.{RangeValue}
use Rattle.btr_base.specs.declared.limits.TheConstants.{FIRST, END}
use Rattle.btr_tree.specs.declared.commit.TreeCommit.{TreeCommit}
use Rattle.btr_tree.specs.declared.fault.TreeFault.{TreeFault}
use Rattle.btr_tree.specs.declared.tree.Applied.{Applied}
use Rattle.btr_tree.specs.History.{bag, ◌▷◌, IsBefore}
use Rattle.btr_tree.specs.Nodes.{above_root}
use Rattle.btr_tree.specs.Crowd.{HasNoCrowdedSpan}
use Rattle.btr_tree.specs.NewNodes.{new_nodes, bare_all}
use Rattle.btr_tree.specs.Stored.{Store, IsBelow, IsLaid}
use Rattle.btr_tree.specs.Root.{TreeValue, IsTree, IsTreeFault, AfterCommit}

-- The commit gives a tree and the nodes that it writes, one in each block from `first` on. It speaks of each past whose tree `old` is,
-- and of each store that holds it below `first`. A count of steps was `before`, and is `after`.
pub record IsCommitApplied (old : TreeValue) (version : ℕ) (cut : List RangeValue) (added : List Point) (first before after : ℕ)
    (a : Applied) : Type 0 where
  pub tree : AfterCommit old version cut added (λ h c. IsTree (c ▷ h) a.tree)
  -- The written nodes are those of the tree that have the version, children before parents.
  pub nodes : AfterCommit old version cut added (λ h c.
      0 < version → IsBefore version h → bare_all a.nodes.items ≡ new_nodes 10 FIRST above_root (c ▷ h) version)
  -- The tree is stored once they are in their blocks.
  pub stored : (store : Store) → IsBelow store first 10 FIRST old.node → IsLaid store first a.nodes.items 10 FIRST a.tree.node
  -- They are at most 11 for each end of a range of the cut, and 11 times 253 for each added point.
  pub few : AfterCommit old version cut added (λ h c.
      0 < version → IsBefore version h → length a.nodes.items ≤ 11 * (253 * length added + 2 * length cut))
  -- Each of them is counted as one step. The count stops at the greatest u64.
  pub steps : after ≡ min (before + length a.nodes.items) 18446744073709551615
  -- No bottom span has more than 252 points.
  pub room : AfterCommit old version cut added (λ h c. HasNoCrowdedSpan FIRST END (bag (c ▷ h)))

-- The commit, as a tree takes it, was applied to the tree.
abbrev pub IsAppliedTo : TreeValue → TreeCommit → ℕ → ℕ → Applied → Type 0
IsAppliedTo old commit before after a =
    IsCommitApplied old commit.version commit.cut.now commit.added.now commit.first before after a

-- Why the commit was not applied to the tree: why no version has the points after it, for each past whose tree this is.
abbrev pub IsApplyFault : TreeValue → TreeCommit → TreeFault → Type 0
IsApplyFault old commit e = AfterCommit old commit.version commit.cut.now commit.added.now (λ h c. IsTreeFault (bag (c ▷ h)) e)
