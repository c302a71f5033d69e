-- What the private functions promise that build a tree in several threads: the slots of a span are built in parts.
use Rattle.std.specs.Prelude.{◌≡◌, ◌⊎◌, ℕ, suc, ◌+◌, ◌-◌, ◌*◌, ◌^◌, ◌<◌, ◌≤◌, min, ℤ, true, List, ◌++◌, length, Option}
use Rattle.btr_base.specs.declared.point.Point.{Point}
use Rattle.btr_base.specs.Bag.{IsInOrder, within}
use Rattle.btr_base.specs.Span.{SpanValue}
use Rattle.btr_base.specs.declared.limits.TheConstants.{LEAF_POINTS}
use Rattle.btr_tree.specs.declared.fault.TreeFault.{TreeFault}
use Rattle.btr_tree.specs.declared.node.NodeData.{NodeData}
use Rattle.btr_tree.specs.declared.slots.Slots.{Slots}
use Rattle.btr_tree.specs.declared.work.Halves.{Halves}
use Rattle.btr_tree.specs.declared.work.PartWork.{PartWork}
use Rattle.btr_tree.specs.declared.work.Work.{Work}
use Rattle.btr_tree.specs.History.{Commit, Past, ◌▷◌, bag}
use Rattle.btr_tree.specs.Nodes.{points_of, is_inner}
use Rattle.btr_tree.specs.Crowd.{HasNoCrowdedSpan, IsCrowdedFault}
use Rattle.btr_tree.specs.NewNodes.{NewNodeValue, bare_all, concat_first, new_nodes}
use Rattle.btr_tree.specs.Change.{end_of, AtEachFresh}
use Rattle.btr_tree.specs.Shape.{slot_start, slot_of_points, IsChild}
use Rattle.btr_tree.specs.Packed.{without_address}
use Rattle.btr_tree.specs.Slots.{slot_in, child_in, base_of, IsFilled}
use Rattle.btr_tree.specs.Stored.{Store, IsLaid}

-- The start of slot i of a span.
abbrev pub slot_from : SpanValue → ℕ → ℤ
slot_from span i = slot_start (span.height - 1) span.start i

-- The points of the slots from one up to, and without, another, of a span that was no inner node before a commit and is one after.
pub record IsSplitPart (below : ℕ) (span : SpanValue) (from to : ℕ) (h : Past) (c : Commit) (version : ℕ) (points : List Point)
    : Type 0 where
  pub height : span.height ≡ suc below
  pub number : version ≡ c.version
  pub same : points ≡ within (slot_start below span.start from) (slot_start below span.start to) (bag (c ▷ h))
  pub few : length (points_of (suc below) span.start (bag h)) ≤ LEAF_POINTS
  pub many : LEAF_POINTS < length (points_of (suc below) span.start (bag (c ▷ h)))

-- P holds for each history and commit that makes the span an inner node and leaves these points in the slots.
abbrev pub AtEachPart : SpanValue → ℕ → ℕ → ℕ → List Point → (ℕ → Past → Commit → Type 0) → Type 0
AtEachPart span from to version points P =
    (below : ℕ) (h : Past) (c : Commit) → IsSplitPart below span from to h c version points → P below h c

-- The nodes that a commit writes in slot i of a span.
abbrev pub slot_nodes : ℕ → ℤ → Past → ℕ → ℕ → List NewNodeValue
slot_nodes below start h version i =
    new_nodes below (slot_start below start i) (is_inner (suc below) start) h version

-- The slots from one up to, and without, another get this many nodes.
abbrev pub IsNodeCount : ℕ → ℤ → ℕ → ℕ → Past → ℕ → ℕ → Type 0
IsNodeCount below start from to h version count =
    length (concat_first to (slot_nodes below start h version))
    ≡ length (concat_first from (slot_nodes below start h version)) + count

-- The points of a span, for which nodes are to be built from a block on.
pub record IsWork (span : SpanValue) (points : List Point) (first : ℕ) : Type 0 where
  pub order : IsInOrder points
  pub inside : within span.start (end_of span) points ≡ points
  pub some : 1 ≤ first
  pub room : first + 11 * length points ≤ 2 ^ 62

-- The points of some slots of a span, for which nodes are to be built from a block on.
pub record IsPartWork (span : SpanValue) (from to : ℕ) (points : List Point) (first : ℕ) : Type 0 where
  pub height : 1 ≤ span.height
  pub some_slot : from < to
  pub place : to ≤ 64
  pub order : IsInOrder points
  pub inside : within (slot_from span from) (slot_from span to) points ≡ points
  pub some : 1 ≤ first
  pub room : first + 11 * length points ≤ 2 ^ 62

-- The root of a span, and the nodes that were built for it, the n-th of them for the block `first + n`.
pub record IsBuilt (span : SpanValue) (version first : ℕ) (points : List Point) (root : Option NodeData) (nodes_built : List NewNodeValue)
    : Type 0 where
  pub child : AtEachFresh span version points (λ above h c. IsChild span.height span.start above (c ▷ h) root)
  pub nodes : AtEachFresh span version points (λ above h c. above (bag (c ▷ h)) ≡ true
      → bare_all nodes_built ≡ new_nodes span.height span.start above (c ▷ h) version)
  pub stored : (store : Store) → IsLaid store first nodes_built span.height span.start root
  pub few : length nodes_built ≤ (span.height + 1) * length points
  pub room : HasNoCrowdedSpan span.start (end_of span) points

-- Some slots of a span with their children, and the nodes that were built for them, the n-th of them for the block `first + n`.
pub record IsBuiltPart (span : SpanValue) (from to version first : ℕ) (points : List Point) (x : Slots) (nodes_built : List NewNodeValue)
    : Type 0 where
  pub filled : IsFilled to x
  pub base : base_of x ≡ version
  pub slots : AtEachPart span from to version points (λ below h c. (i : ℕ) → from ≤ i → i < to
      → slot_in x i ≡ slot_of_points (suc below) span.start below (slot_start below span.start i) (c ▷ h))
  pub children : AtEachPart span from to version points (λ below h c. (i : ℕ) → from ≤ i → i < to
      → IsChild below (slot_start below span.start i) (is_inner (suc below) span.start) (c ▷ h) (child_in x i))
  pub nodes : AtEachPart span from to version points (λ below h c.
      concat_first to (slot_nodes below span.start (c ▷ h) version)
      ≡ concat_first from (slot_nodes below span.start (c ▷ h) version) ++ bare_all nodes_built)
  pub stored : (store : Store) (below : ℕ) → span.height ≡ suc below → (i : ℕ) → from ≤ i → i < to
      → IsLaid store first nodes_built below (slot_start below span.start i) (child_in x i)
  pub few : length nodes_built ≤ span.height * length points
  pub room : HasNoCrowdedSpan (slot_from span from) (slot_from span to) points

-- A counter has one step more for each of these nodes, and stops at the greatest u64.
abbrev pub CountsAll : ℕ → ℕ → List NewNodeValue → Type 0
CountsAll before after nodes_built = after ≡ min (before + length nodes_built) 18446744073709551615

-- Why no part has these points.
abbrev pub IsPartFault : SpanValue → ℕ → ℕ → List Point → TreeFault → Type 0
IsPartFault span from to points e = IsCrowdedFault (slot_from span from) (slot_from span to) points e

-- Why two parts are not built of which the second begins where the first ends. The second one's cause stands only if the first has none.
abbrev pub IsFaultOfTwo : SpanValue → ℕ → ℕ → ℕ → List Point → List Point → TreeFault → Type 0
IsFaultOfTwo span from mid to front back e =
    IsPartFault span from mid front e
    ⊎ (HasNoCrowdedSpan (slot_from span from) (slot_from span mid) front × IsPartFault span mid to back e)

-- The two parts as one: the slots up to, and without, one of the first, and those from it on of the second.
pub record AreJoined (mid to : ℕ) (front back all : Slots) : Type 0 where
  pub filled : IsFilled to all
  pub base : base_of all ≡ base_of front
  pub front_slots : (i : ℕ) → i < mid → slot_in all i ≡ slot_in front i
  pub front_children : (i : ℕ) → i < mid → child_in all i ≡ child_in front i
  pub back_slots : (i : ℕ) → mid ≤ i → i < to → slot_in all i ≡ without_address (slot_in back i)
  pub back_children : (i : ℕ) → mid ≤ i → i < to → child_in all i ≡ child_in back i

-- ---- what the functions take, what they return, and why they fail

-- The subtree can be built.
abbrev pub CanBuildAll : Work → Type 0
CanBuildAll w = IsWork w.span w.points.now w.numbering.first

-- The part can be built.
abbrev pub CanBuildPart : PartWork → Type 0
CanBuildPart w = IsPartWork w.span w.from w.to w.points.now w.numbering.first

-- Each half can be built from the first block on, and the second one after the first.
pub record CanBuildHalves (w : Halves) : Type 0 where
  pub front : IsPartWork w.span w.from w.mid w.front.now w.numbering.first
  pub back : IsPartWork w.span w.mid w.to w.back.now w.numbering.first
  pub room : w.numbering.first + 11 * (length w.front.now + length w.back.now) ≤ 2 ^ 62

-- The subtree was built.
abbrev pub IsBuiltFor : Work → Option NodeData → List NewNodeValue → Type 0
IsBuiltFor w root nodes_built = IsBuilt w.span w.numbering.version w.numbering.first w.points.now root nodes_built

-- The part was built.
abbrev pub IsPartFor : PartWork → Slots → List NewNodeValue → Type 0
IsPartFor w x nodes_built = IsBuiltPart w.span w.from w.to w.numbering.version w.numbering.first w.points.now x nodes_built

-- The first half was built.
abbrev pub IsFrontFor : Halves → Slots → List NewNodeValue → Type 0
IsFrontFor w x nodes_built = IsBuiltPart w.span w.from w.mid w.numbering.version w.numbering.first w.front.now x nodes_built

-- The second half was built. Its blocks follow those of the first half, which has this many nodes.
abbrev pub IsBackFor : Halves → ℕ → Slots → List NewNodeValue → Type 0
IsBackFor w count x nodes_built =
    IsBuiltPart w.span w.mid w.to w.numbering.version (w.numbering.first + count) w.back.now x nodes_built

-- Why the part was not built.
abbrev pub IsFaultFor : PartWork → TreeFault → Type 0
IsFaultFor w e = IsPartFault w.span w.from w.to w.points.now e

-- Why the halves were not built.
abbrev pub IsFaultOfHalves : Halves → TreeFault → Type 0
IsFaultOfHalves w e = IsFaultOfTwo w.span w.from w.mid w.to w.front.now w.back.now e
