-- The tree of a stream's past, a tree that was opened by its nodes, and why a commit is not applied.
use Rattle.std.specs.Prelude.{◌≡◌, ◌⊎◌, ℕ, ◌<◌, ◌≤◌, ℤ, List, length, Option, Some, None}
use Rattle.btr_base.specs.declared.point.Point.{Point}
use Rattle.btr_base.specs.Point.{AreInDomain}
use Rattle.btr_base.specs.Range.{RangeValue}
use Rattle.btr_base.specs.Agg.{AggValue, agg}
use Rattle.btr_base.specs.declared.limits.TheConstants.{FIRST, END, ROOT_HEIGHT, MAX_POINTS}
use Rattle.btr_base.specs.Span.{SpanValue, IsSpan}
use Rattle.btr_tree.specs.declared.node.Link.{Link}
use Rattle.btr_tree.specs.declared.node.NodeData.{NodeData, out-NodeData}
use Rattle.btr_tree.specs.declared.node.NodeData.TheOpen.{NodeData-F}
use Rattle.btr_tree.specs.declared.slots.Kept.{Kept}
use Rattle.btr_tree.specs.declared.slots.Slots.{Slots}
use Rattle.btr_tree.specs.declared.fault.TreeFault.{TreeFault}
use Rattle.btr_tree.specs.declared.fault.TreeFault.TheVariants.{Crowded, TooManyPoints, Want}
use Rattle.btr_tree.specs.History.{Commit, Past, Opened, bag}
use Rattle.btr_tree.specs.Nodes.{points_of, above_root}
use Rattle.btr_tree.specs.Shape.{IsChild}
use Rattle.btr_tree.specs.Crowd.{HasNoCrowdedSpan, IsFirstCrowd}

-- The span of a version's root: the whole domain.
abbrev pub root_part : SpanValue
root_part = record { start = FIRST; height = 10 }

-- A tree: its span, the node of the span, if there is a point, and the aggregate of all points.
pub record TreeValue : Type 0 where
  pub span : SpanValue
  pub node : Option NodeData
  pub total : AggValue

-- The tree is that of the points after the past, and they are at most as many as a version can have.
pub record IsTree (h : Past) (t : TreeValue) : Type 0 where
  pub whole : t.span ≡ root_part
  pub node : IsChild ROOT_HEIGHT FIRST above_root h t.node
  pub total : t.total ≡ agg (bag h)
  pub times : AreInDomain (bag h)
  pub few : length (bag h) ≤ MAX_POINTS

-- The version of a node of either kind.
abbrev pub version_of_kind : NodeData-F NodeData Link Kept Slots → ℕ
version_of_kind (NodeData-F.Leaf block version points) = version
version_of_kind (NodeData-F.Inner block version slots) = version

-- The version of a node, or 0 if there is no node.
abbrev pub version_of : Option NodeData → ℕ
version_of None = 0
version_of (Some n) = version_of_kind (out-NodeData n)

-- The tree is that of a base alone, whose points all lie in its span, and whose dates are at most its node's version.
pub record IsOpened (b : List Point) (dates : ℕ → ℤ → ℕ) (t : TreeValue) : Type 0 where
  pub aligned : IsSpan t.span
  pub node : IsChild t.span.height t.span.start above_root (Opened b dates) t.node
  pub total : t.total ≡ agg (bag (Opened b dates))
  pub inside : points_of t.span.height t.span.start (bag (Opened b dates)) ≡ bag (Opened b dates)
  pub few : length (bag (Opened b dates)) ≤ MAX_POINTS
  pub dated : (height : ℕ) (start : ℤ) → dates height start ≤ version_of t.node

-- The tree is that of some base.
abbrev pub WasOpened : TreeValue → Type 0
WasOpened t = (b : List Point) × (dates : ℕ → ℤ → ℕ) × IsOpened b dates t

-- The tree is that of some past, or it was opened.
abbrev pub IsSomeTree : TreeValue → Type 0
IsSomeTree t = ((h : Past) × IsTree h t) ⊎ WasOpened t

-- Why no version has these points: the first crowded bottom span; or else too many points; or out of memory.
abbrev pub IsTreeFault : List Point → TreeFault → Type 0
IsTreeFault b (Crowded start) = (place : ℕ) × IsFirstCrowd FIRST END b start place
IsTreeFault b (TooManyPoints count) = (count ≡ length b) × (MAX_POINTS < count) × HasNoCrowdedSpan FIRST END b
IsTreeFault b Want = Unit {0}

-- P holds for each past whose tree this is.
abbrev pub AtEachTree : TreeValue → (Past → Type 0) → Type 0
AtEachTree t P = (h : Past) → IsTree h t → P h

-- P holds for each past whose tree this is, and this commit after it.
abbrev pub AfterCommit : TreeValue → ℕ → List RangeValue → List Point → (Past → Commit → Type 0) → Type 0
AfterCommit t version cut added P =
    (h : Past) → IsTree h t → P h (record { version = version; cut = cut; added = added })
