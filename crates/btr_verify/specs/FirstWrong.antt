-- The first wrong node of a version: parents before their children, and slots in order.
use Rattle.std.specs.Prelude.{◌≡◌, ◌⊎◌, ℕ, ◌<◌, ◌≤◌, true, List, [], ◌∷◌, slice_get, Some, IfSome}
use Rattle.btr_base.specs.declared.limits.TheConstants.{FIRST}
use Rattle.btr_base.specs.Span.{SpanValue, slot_of}
use Rattle.btr_tree.specs.declared.node.Slot.{Slot}
use Rattle.btr_tree.specs.History.{Past, bag}
use Rattle.btr_tree.specs.NewNodes.{NewNodeValue}
use Rattle.btr_tree.specs.Nodes.{points_of, up_to}
use Rattle.btr_tree.specs.Root.{root_part}
use Rattle.btr_tree.specs.Stored.{Store}
use Rattle.btr_verify.specs.Judged.{IsIn, IsOwn, IsRightSlot, is_node_in, version_in}

-- The block has a node of this span and version, whose own fields are right.
pub record HasOwn (store : Store) (h : Past) (span : SpanValue) (version block : ℕ) (node : NewNodeValue) : Type 0 where
  pub stored : IsIn store block node
  pub its_span : node.span ≡ span
  pub its_version : node.version ≡ version
  pub own : IsOwn h node

-- The block has no node of this span and version whose own fields are right.
abbrev pub IsWrongHere : Store → Past → SpanValue → ℕ → ℕ → Type 0
IsWrongHere store h span version block = (node : NewNodeValue) → HasOwn store h span version block node → ⊥

-- The way goes on through slot i of a node whose own fields are right. All slots before it are right.
pub record WayGoesOn (store : Store) (h : Past) (span : SpanValue) (version block i : ℕ) (Next : Slot → Type 0) : Type 0 where
  pub node : NewNodeValue
  pub here : HasOwn store h span version block node
  pub before : (j : ℕ) → j < i → IfSome (slice_get node.slots j) (IsRightSlot store h span j)
  pub slot : Slot
  pub is : slice_get node.slots i ≡ Some slot
  pub some : 0 < slot.agg.count
  pub next : Next slot

-- On a way, which is a list of slot numbers, from a block that is to have a node of this span and version, the first wrong node is in
-- the block that is named.
abbrev pub IsFirstWrongOn : Store → Past → SpanValue → ℕ → ℕ → List ℕ → ℕ → Type 0
IsFirstWrongOn store h span version block [] named = (named ≡ block) × IsWrongHere store h span version block
IsFirstWrongOn store h span version block (i ∷ way) named =
    WayGoesOn store h span version block i (λ slot. IsFirstWrongOn store h (slot_of span i) slot.version slot.child way named)

-- From a block that is to have a node of this span and version, the first wrong node is in the block that is named.
abbrev pub IsFirstWrong : Store → Past → SpanValue → ℕ → ℕ → ℕ → Type 0
IsFirstWrong store h span version block named = (way : List ℕ) × IsFirstWrongOn store h span version block way named

-- The block of a version's root is not 0, and the version has no point.
pub record IsRootOfNone (h : Past) (version block named : ℕ) : Type 0 where
  pub none : points_of 10 FIRST (bag (up_to version h)) ≡ []
  pub some : 1 ≤ block
  pub is : named ≡ block

-- The version has a point, and from the block of its root the first wrong node is in the block that is named.
pub record IsWrongRoot (store : Store) (h : Past) (version block named : ℕ) : Type 0 where
  pub points : is_node_in root_part (up_to version h) ≡ true
  pub first : IsFirstWrong store h root_part (version_in root_part (up_to version h)) block named

-- The first wrong node of a version, whose root is to be in the block, is in the block that is named.
abbrev pub IsFirstWrongIn : Store → Past → ℕ → ℕ → ℕ → Type 0
IsFirstWrongIn store h version block named = IsRootOfNone h version block named ⊎ IsWrongRoot store h version block named
