-- What the private functions that apply a commit promise, and the premises that their clauses share.
use Rattle.std.specs.Prelude.{◌≡◌, ℕ, zero, suc, ◌+◌, ◌<◌, ◌≤◌, ◌^◌, ℤ, pos, ◌+ℤ◌}
use Rattle.std.specs.Prelude.{◌≤ℤ◌, ◌<ℤ◌, Bool, true, not, ◌||◌, List, ◌++◌, length, slice_get, Option, MatchOption, min, ◌-◌}
use Rattle.btr_base.specs.declared.point.Point.{Point}
use Rattle.btr_base.specs.Bag.{IsInOrder, within}
use Rattle.btr_base.specs.Range.{RangeValue, IsCut, covered}
use Rattle.btr_base.specs.Span.{width, SpanValue}
use Rattle.btr_base.specs.declared.limits.TheConstants.{LEAF_POINTS}
use Rattle.btr_tree.specs.declared.commit.OldSlot.{OldSlot}
use Rattle.btr_tree.specs.declared.commit.SpanCommit.{SpanCommit}
use Rattle.btr_tree.specs.declared.node.NodeData.{NodeData, out-NodeData}
use Rattle.btr_tree.specs.declared.node.Slot.{Slot}
use Rattle.btr_tree.specs.declared.slots.Slots.{Slots}
use Rattle.btr_tree.specs.History.{Commit, Past, ◌▷◌, bag, IsBefore}
use Rattle.btr_tree.specs.Nodes.{points_of, touches, is_node, is_inner, last_change}
use Rattle.btr_base.specs.Agg.{agg, AggValue, no_points, joined}
use Rattle.btr_tree.specs.NewNodes.{NewNodeValue, bare_all, concat_first, new_nodes}
use Rattle.btr_tree.specs.EachHistory.{points_in}
use Rattle.btr_tree.specs.Shape.{slot_start, ByKind, IsChild, HasSlots, HasChildren}
use Rattle.btr_tree.specs.Slots.{slot_in, node_of, AreSameSlots}
use Rattle.btr_tree.specs.Stored.{Store, IsBelow, IsLaid, AreBelow}

-- The end of a span.
abbrev pub end_of : SpanValue → ℤ
end_of s = s.start +ℤ pos (width s.height)

-- The aggregates of the first n slots, joined.
unfoldable pub joined_first : ℕ → (ℕ → Slot) → AggValue
joined_first zero slots = no_points
joined_first (suc n) slots = joined (joined_first n slots) (slots n).agg

-- The aggregates of a node's slots can be joined.
abbrev pub IsCounted : Option NodeData → Type 0
IsCounted child =
    MatchOption child (Unit {0})
    (λ n. ByKind (λ v ps. Unit {0}) (λ v slots. (i : ℕ) → i ≤ 64 → (joined_first i (slot_in slots)).count < 2 ^ 64) (out-NodeData n))

-- Some history has this child, and its points in the span can be counted together with `more` others.
pub record IsSomeChild (height : ℕ) (start : ℤ) (child : Option NodeData) (more : ℕ) : Type 0 where
  pub above : List Point → Bool
  pub commits : Past
  pub holds : IsChild height start above commits child
  pub few : length (points_of height start (bag commits)) + more < 2 ^ 64

-- Some history has these slots and their children, and its points in the span can be counted together with `more` others.
pub record AreSomeSlots (below : ℕ) (start : ℤ) (slots : Slots) (more : ℕ) : Type 0 where
  pub commits : Past
  pub holds : HasSlots below start commits slots
  pub each : HasChildren below start commits slots
  pub few : length (points_of (suc below) start (bag commits)) + more < 2 ^ 64

-- The points of a span after a commit that makes its node. If they are more than a leaf holds, there was no inner node.
pub record IsFresh (height : ℕ) (start : ℤ) (above : List Point → Bool) (h : Past) (c : Commit) (version : ℕ)
    (points : List Point) : Type 0 where
  pub number : version ≡ c.version
  pub same : points ≡ points_of height start (bag (c ▷ h))
  pub fresh : (touches c height start (bag h) || not (is_node above height start (bag h))) ≡ true
  pub small : LEAF_POINTS < length points → length (points_of height start (bag h)) ≤ LEAF_POINTS

-- The part of a commit that is in a span.
pub record IsChange (height : ℕ) (start : ℤ) (c : Commit) (cut : List RangeValue) (added : List Point) (version : ℕ) : Type 0 where
  pub number : version ≡ c.version
  pub points : added ≡ points_of height start c.added
  pub times : (t : ℤ) → start ≤ℤ t → t <ℤ (start +ℤ pos (width height)) → covered cut t ≡ covered c.cut t

-- The child is a leaf of this version with these points.
abbrev pub IsLeafOf : ℕ → List Point → Option NodeData → Type 0
IsLeafOf version points child =
    MatchOption child ⊥ (λ n. ByKind (λ v ps. (v ≡ version) × (ps ≡ points)) (λ v slots. ⊥) (out-NodeData n))

-- The child is an inner node of this version with the slots and children of these slots.
abbrev pub IsInnerOf : ℕ → Slots → Option NodeData → Type 0
IsInnerOf version slots child =
    MatchOption child ⊥ (λ n. ByKind (λ v ps. ⊥) (λ v x. (v ≡ version) × AreSameSlots slots x) (out-NodeData n))

-- Nodes were appended, and the counter rose by their number, up to the end of its type.
pub record CountsNodes (before after : ℕ) (old new : List NewNodeValue) : Type 0 where
  pub grows : length old ≤ length new
  pub keeps : (i : ℕ) → i < length old → slice_get new i ≡ slice_get old i
  pub none : length new ≡ length old → after ≡ before
  pub some : length old < length new → after ≡ min (before + (length new - length old)) 18446744073709551615

-- The points of a span that was no inner node before a commit and is one after it.
pub record IsSplit (below : ℕ) (span : SpanValue) (h : Past) (c : Commit) (version : ℕ) (points : List Point) : Type 0 where
  pub height : span.height ≡ suc below
  pub number : version ≡ c.version
  pub same : points ≡ points_of (suc below) span.start (bag (c ▷ h))
  pub few : length (points_of (suc below) span.start (bag h)) ≤ LEAF_POINTS

-- Some history has this slot and child, and its points in the span can be counted together with `more` others.
pub record IsSomeSlot (height : ℕ) (start : ℤ) (slot : Slot) (child : Option NodeData) (more : ℕ) : Type 0 where
  pub above : List Point → Bool
  pub commits : Past
  pub holds : IsChild height start above commits child
  pub counted : slot.agg ≡ agg (points_of height start (bag commits))
  pub few : length (points_of height start (bag commits)) + more < 2 ^ 64

-- The slot of a span after commits. Its version counts from the commit that made the span above an inner node.
abbrev pub slot_at : (List Point → Bool) → ℕ → ℤ → Past → Slot
slot_at was height start h =
    record { agg = agg (points_of height start (bag h)); version = last_change was height start h; child = 0 }

-- An inner node of a history, and the part of a commit that is in its span.
pub record IsApplied (below : ℕ) (span : SpanValue) (h : Past) (c : Commit) (cut : List RangeValue) (added : List Point)
    (version : ℕ) (slots : Slots) : Type 0 where
  pub height : span.height ≡ suc below
  pub many : LEAF_POINTS < length (points_of (suc below) span.start (bag h))
  pub all : HasSlots below span.start h slots
  pub each : HasChildren below span.start h slots
  pub change : IsChange (suc below) span.start c cut added version

-- Points of a span, for which nodes can be built from a block on.
pub record CanBuild (span : SpanValue) (points : List Point) (block : ℕ) : Type 0 where
  pub order : IsInOrder points
  pub inside : within span.start (end_of span) points ≡ points
  pub first : (1 ≤ block) × (block ≤ 2 ^ 62)

-- The part of a commit in a span, which can be applied to the span.
pub record CanApply (span : SpanValue) (commit : SpanCommit) : Type 0 where
  pub cut : IsCut commit.cut.now
  pub order : IsInOrder commit.added.now
  pub inside : within span.start (end_of span) commit.added.now ≡ commit.added.now
  pub first : (1 ≤ commit.numbering.first) × (commit.numbering.first ≤ 2 ^ 33)

-- The slot of a span after a commit. If the slot before was that of the history, then this one is that of the history and the commit.
pub record IsNewSlot (span : SpanValue) (was new : Slot) (above : List Point → Bool) (h : Past) (c : Commit) : Type 0 where
  pub agg : new.agg ≡ agg (points_in span (bag (c ▷ h)))
  pub is : was ≡ slot_at above span.height span.start h → new ≡ slot_at above span.height span.start (c ▷ h)

-- ---- premises that the clauses of the walk share

-- Whether a commit changes the points of a span.
abbrev pub is_touched : SpanValue → Past → Commit → Bool
is_touched span h c = touches c span.height span.start (bag h)

-- P holds for each history and commit after which the span has these points.
abbrev pub AtEachFresh : SpanValue → ℕ → List Point → ((List Point → Bool) → Past → Commit → Type 0) → Type 0
AtEachFresh span version points P =
    (above : List Point → Bool) (h : Past) (c : Commit)
    → IsFresh span.height span.start above h c version points
    → P above h c

-- P holds for each history and commit that makes the span an inner node of these points.
abbrev pub AtEachSplit : SpanValue → ℕ → List Point → (ℕ → Past → Commit → Type 0) → Type 0
AtEachSplit span version points P =
    (below : ℕ) (h : Past) (c : Commit) → IsSplit below span h c version points → P below h c

-- P holds for each history that the child belongs to, and each commit with this part in the span.
abbrev pub AtEachCommit : SpanValue → Option NodeData → SpanCommit → ((List Point → Bool) → Past → Commit → Type 0) → Type 0
AtEachCommit span child part P =
    (above : List Point → Bool) (h : Past) (c : Commit)
    → IsChild span.height span.start above h child
    → IsChange span.height span.start c part.cut.now part.added.now part.numbering.version
    → P above h c

-- P holds for each history that the child belongs to, and each commit with this part in the span that changes points there.
abbrev pub AtEachTouch : SpanValue → Option NodeData → SpanCommit → ((List Point → Bool) → Past → Commit → Type 0) → Type 0
AtEachTouch span child part P = AtEachCommit span child part (λ above h c. is_touched span h c ≡ true → P above h c)

-- P holds for each history that the slot belongs to, below an inner node, and each commit with this part in the span.
abbrev pub AtEachSlotCommit : SpanValue → OldSlot → SpanCommit → ((List Point → Bool) → Past → Commit → Type 0) → Type 0
AtEachSlotCommit span was part P =
    (above : List Point → Bool) (h : Past) (c : Commit)
    → above (bag h) ≡ true
    → IsChild span.height span.start above h (node_of was.child)
    → was.slot.agg ≡ agg (points_in span (bag h))
    → IsChange span.height span.start c part.cut.now part.added.now part.numbering.version
    → P above h c

-- P holds for each history that the inner node belongs to, and each commit with this part in the span.
abbrev pub AtEachInnerCommit : SpanValue → Slots → SpanCommit → (ℕ → Past → Commit → Type 0) → Type 0
AtEachInnerCommit span slots part P =
    (below : ℕ) (h : Past) (c : Commit)
    → IsApplied below span h c part.cut.now part.added.now part.numbering.version slots
    → P below h c

-- P holds for each history that the inner node belongs to, and each commit with this part in the span that changes points there.
abbrev pub AtEachInnerTouch : SpanValue → Slots → SpanCommit → ((List Point → Bool) → Past → Commit → Type 0) → Type 0
AtEachInnerTouch span slots part P = AtEachInnerCommit span slots part (λ below h c.
    (above : List Point → Bool) → is_touched span h c ≡ true → P above h c)

-- P holds for each store that has the children of the 64 slots of a span below a block.
abbrev pub AtEachStore : SpanValue → ℕ → Slots → (Store → ℕ → Type 0) → Type 0
AtEachStore span first slots P =
    (store : Store) (below : ℕ) → span.height ≡ suc below → AreBelow store first below span.start slots → P store below

-- ---- what is appended

-- The nodes that a commit writes below an inner node.
abbrev pub new_below : ℕ → ℤ → Past → ℕ → List NewNodeValue
new_below below start h version =
    concat_first 64 (λ i. new_nodes below (slot_start below start i) (is_inner (suc below) start) h version)

-- The nodes that the commit writes in the span were appended, if its version is above those of all commits before.
abbrev pub AppendsNew : SpanValue → SpanCommit → List NewNodeValue → List NewNodeValue → (List Point → Bool) → Past → Commit → Type 0
AppendsNew span part old new above h c =
    above (bag (c ▷ h)) ≡ true → 0 < part.numbering.version → IsBefore part.numbering.version h
    → bare_all new ≡ bare_all old ++ new_nodes span.height span.start above (c ▷ h) part.numbering.version

-- The nodes that the commit writes below an inner node were appended, if its version is above those of all commits before.
abbrev pub AppendsBelow : SpanValue → SpanCommit → List NewNodeValue → List NewNodeValue → ℕ → Past → Commit → Type 0
AppendsBelow span part old new below h c =
    LEAF_POINTS < length (points_of (suc below) span.start (bag (c ▷ h))) → 0 < part.numbering.version
    → IsBefore part.numbering.version h
    → bare_all new ≡ bare_all old ++ new_below below span.start (c ▷ h) part.numbering.version

-- The nodes of a span whose points are new were appended.
abbrev pub AppendsFresh : SpanValue → ℕ → List Point → List NewNodeValue → List NewNodeValue → Type 0
AppendsFresh span version points old new = AtEachFresh span version points (λ above h c. above (bag (c ▷ h)) ≡ true
    → bare_all new ≡ bare_all old ++ new_nodes span.height span.start above (c ▷ h) version)

-- The nodes below a new inner node were appended.
abbrev pub AppendsSplit : SpanValue → ℕ → List Point → List NewNodeValue → List NewNodeValue → Type 0
AppendsSplit span version points old new = AtEachSplit span version points (λ below h c. LEAF_POINTS < length points
    → bare_all new ≡ bare_all old ++ new_below below span.start (c ▷ h) version)

-- In each store that has the old child below a block, the new child is stored once these nodes are laid.
abbrev pub KeepsStored : SpanValue → ℕ → List NewNodeValue → Option NodeData → Option NodeData → Type 0
KeepsStored span first nodes old new =
    (store : Store) → IsBelow store first span.height span.start old → IsLaid store first nodes span.height span.start new
