-- What the functions promise that read a checkpoint: its streams, the trees of its roots, and the trees of its versions.
use Rattle.std.specs.Prelude.{◌≡◌, ◌⊎◌, ℕ, ◌+◌, ◌/◌, ◌<◌, ◌≤◌, ◌^◌, ◌&&◌, nat_lt, List, [], ◌∷◌, length, slice_get}
use Rattle.std.specs.Prelude.{Some, IsSome, IsNone, if◌then◌else◌}
use Rattle.std.specs.List.{flat_map}
use Rattle.btr_disk.specs.declared.disk.Disk.{Ghosts}
use Rattle.btr_disk.specs.Bytes.{Image}
use Rattle.btr_disk.specs.Causes.{Rose}
use Rattle.btr_super.specs.declared.superblock.Super.{Super}
use Rattle.btr_node.specs.declared.page.NodePage.{NodePage}
use Rattle.btr_tree.specs.PageNodes.{Pages}
use Rattle.btr_pages.specs.Pages.{HasRootPage}
use Rattle.btr_pages.specs.Known.{TreesValue, AreKnown, ArePartOf, node_at}
use Rattle.btr_tree.specs.Root.{TreeValue}
use Rattle.btr_roll.specs.declared.roll.RollVersion.{RollVersion}
use Rattle.btr_roll.specs.Roll.{RollStreamValue, IsRoll, roll_bytes}
use Rattle.btr_engine.specs.Body.{MayStandUnder}
use Rattle.btr_streams.specs.Board.{HasPast}
use Rattle.btr_streams.specs.Restoring.{restored_streams}
use Rattle.btr_open.specs.declared.loading.Loader.{Loader}
use Rattle.btr_open.specs.declared.opening.OpenCause.{OpenCause}
use Rattle.btr_open.specs.declared.opening.OpenCause.TheVariants.{NotAStore, Damaged, Fault, Want}
use Rattle.btr_open.specs.Content.{HasCheckpoint}
use Rattle.btr_open.specs.Below.{StandBelow, IsStoredPage, HasNoPage, BreaksBelow}
use Rattle.btr_open.specs.Start.{HasRoll, HasVersionAt, IsCheckpointExtent, HasWrongVersionRoot, place_of_root}
use Rattle.btr_open.specs.Loading.{IsTreeOfRoot}

-- ---- the streams

-- The body has these streams, after this number of entries, as its content.
pub record IsContent (entries : ℕ) (roll : List RollStreamValue) (body : List ℕ) : Type 0 where
  pub has : HasCheckpoint 1 entries (λ format. roll_bytes format roll) body
  pub is_roll : IsRoll has.format roll

-- The body has no streams as its content.
abbrev pub HasNoContentOf : List ℕ → Type 0
HasNoContentOf body = (entries : ℕ) (roll : List RollStreamValue) → entries < 2 ^ 64 → IsContent entries roll body → ⊥

-- The checkpoint of a superblock has these streams, after this number of entries, in this format. Its extent, of two blocks or more, is
-- before the tail. If `observable` holds, the device has the extent.
pub record IsRollRead (observable : Type 0) (image : Image) (s : Super) (entries format : ℕ) (roll : List RollStreamValue) : Type 0 where
  pub body : List ℕ
  pub has : HasRoll s.checkpoint entries roll body
  pub same_format : has.format ≡ format
  pub after : s.checkpoint + 2 ≤ s.tail
  pub under : MayStandUnder s.format body
  pub extent : observable → IsCheckpointExtent image s body

-- ---- the roots

-- The root of a version, if it is not 0 and below a block.
abbrev pub root_in : ℕ → RollVersion → List ℕ
root_in limit v = if nat_lt 0 v.root && nat_lt v.root limit then v.root ∷ [] else []

-- The roots of versions that are below a block.
abbrev pub roots_in : ℕ → List RollVersion → List ℕ
roots_in limit versions = flat_map (root_in limit) versions

-- The roots of the versions of streams that are below a block.
abbrev pub roots_among : ℕ → List RollStreamValue → List ℕ
roots_among limit roll = flat_map (λ s. roots_in limit s.versions) roll

-- A version of the streams has this root.
pub record IsRootIn (roll : List RollStreamValue) (root : ℕ) : Type 0 where
  pub stream : ℕ
  pub k : ℕ
  pub v : RollVersion
  pub at : HasVersionAt roll stream k v
  pub is : v.root ≡ root

-- The list has the roots of the streams that are not 0 and below a block, and no others.
pub record AreRootsBelow (limit : ℕ) (roll : List RollStreamValue) (roots : List ℕ) : Type 0 where
  pub only : (n root : ℕ) → slice_get roots n ≡ Some root → (1 ≤ root) × (root < limit) × IsRootIn roll root
  pub all : (root : ℕ) → IsRootIn roll root → 1 ≤ root → root < limit → (n : ℕ) × (slice_get roots n ≡ Some root)

-- The trees that were made are those of some pages below the limit. It is said of each device, also of one that does not tell its bytes.
abbrev pub AreOfSome : ℕ → TreesValue → Type 0
AreOfSome limit nodes = (own : Pages) × AreKnown own nodes × ((block : ℕ) → limit ≤ block → IsNone (own block))

-- The trees of the pages at these roots were made. They are those of pages that stand rightly below the limit, and those of each set of
-- such pages that has the roots.
pub record AreRootsFetched (image : Image) (limit : ℕ) (roots : List ℕ) (nodes : TreesValue) : Type 0 where
  pub own : Pages
  pub stand : StandBelow image limit own
  pub beyond : (block : ℕ) → limit ≤ block → IsNone (own block)
  pub known : AreKnown own nodes
  pub there : (n root : ℕ) → slice_get roots n ≡ Some root → IsSome (node_at nodes root)
  pub part : (pages : Pages) → StandBelow image limit pages → ((n root : ℕ) → slice_get roots n ≡ Some root → IsSome (pages root))
      → ArePartOf pages nodes

-- This block is named for a root below the limit: the root itself, if it has no page; or a block below its page that breaks the format.
abbrev pub IsWrongBelow : Image → ℕ → ℕ → Type 0
IsWrongBelow image root block =
    (HasNoPage image root × (block ≡ root))
    ⊎ ((page : NodePage) × IsStoredPage image root page × BreaksBelow image root page block)

-- ---- the trees

-- The tree is that of the root of a version, and that of some past. If the root is not 0, the tree of its page was made.
pub record IsVersionTree (nodes : TreesValue) (root : ℕ) (t : TreeValue) : Type 0 where
  pub past : HasPast t
  pub is : IsTreeOfRoot nodes root t
  pub there : 0 < root → IsSome (node_at nodes root)

-- The root of a version of a stream may be this one, whatever the pages are.
abbrev pub MayBeRootOf : TreesValue → ℕ → ℕ → ℕ → Type 0
MayBeRootOf nodes stream version root =
    (pages : Pages) → AreKnown pages nodes → (root ≡ 0) ⊎ HasRootPage pages stream version root

-- The root of a version of a stream may not be this one: it is not below the limit, or, whatever the pages are, it is the page of no such
-- root.
pub record IsWrongRootOf (nodes : TreesValue) (limit stream version root : ℕ) : Type 0 where
  pub some : 0 < root
  pub wrong : (limit ≤ root) ⊎ ((pages : Pages) → AreKnown pages nodes → HasRootPage pages stream version root → ⊥)

-- The trees are those of the first versions of a stream, from version 0 on.
pub record AreFirstTrees (nodes : TreesValue) (stream : ℕ) (versions : List RollVersion) (trees : List TreeValue) : Type 0 where
  pub counted : length trees ≡ length versions + 1
  pub first : (t : TreeValue) → slice_get trees 0 ≡ Some t → IsVersionTree nodes 0 t
  pub others : (k : ℕ) (v : RollVersion) (t : TreeValue) → slice_get versions k ≡ Some v → slice_get trees (k + 1) ≡ Some t
      → IsVersionTree nodes v.root t
  pub may : (k : ℕ) (v : RollVersion) → slice_get versions k ≡ Some v → MayBeRootOf nodes stream (k + 1) v.root

-- The trees are those of the versions of the streams.
pub record AreAllTrees (nodes : TreesValue) (roll : List RollStreamValue) (trees : List (List TreeValue)) : Type 0 where
  pub counted : length trees ≡ length roll
  pub each : (stream : ℕ) (s : RollStreamValue) (ts : List TreeValue) → slice_get roll stream ≡ Some s → slice_get trees stream ≡ Some ts
      → AreFirstTrees nodes stream s.versions ts

-- A version of the streams has a root that it may not have, and the block is that in which the address begins.
pub record NamesWrongRoot (nodes : TreesValue) (limit format : ℕ) (roll : List RollStreamValue) (block : ℕ) : Type 0 where
  pub stream : ℕ
  pub k : ℕ
  pub v : RollVersion
  pub at : HasVersionAt roll stream k v
  pub wrong : IsWrongRootOf nodes limit stream (k + 1) v.root
  pub named : block ≡ limit + 1 + (64 + place_of_root format roll stream at.its k) / 4096

-- Why the trees of the versions are not returned.
abbrev pub TreesCause : TreesValue → ℕ → ℕ → List RollStreamValue → OpenCause → Type 0
TreesCause nodes limit format roll NotAStore = ⊥
TreesCause nodes limit format roll (Damaged block) = NamesWrongRoot nodes limit format roll block
TreesCause nodes limit format roll Fault = ⊥
TreesCause nodes limit format roll Want = Unit {0}

-- ---- all that a checkpoint has

-- The board of the streams was made, with the trees of their roots, of which each may be the root of its version.
pub record IsLoaded (image : Image) (limit : ℕ) (roll : List RollStreamValue) (entries : ℕ) (l : Loader) : Type 0 where
  pub roots : List ℕ
  pub below : AreRootsBelow limit roll roots
  pub fetched : AreRootsFetched image limit roots l.nodes
  pub trees : List (List TreeValue)
  pub are : AreAllTrees l.nodes roll trees
  pub board : l.board ≡ record { streams = restored_streams roll trees; entries = entries }
  pub least : l.least ≡ 1

module _ {D : Type 0} (disk : Ghosts D) where
  -- Why the tree of a root was not made.
  abbrev pub RootCause : ℕ → D → D → OpenCause → Type 0
  RootCause root old new NotAStore = ⊥
  RootCause root old new (Damaged block) = disk.is_observable → IsWrongBelow (disk.contents old) root block
  RootCause root old new Fault = Rose (disk.faults old) (disk.faults new)
  RootCause root old new Want = Unit {0}

  -- Why the trees of roots were not made.
  abbrev pub RootsCause : List ℕ → D → D → OpenCause → Type 0
  RootsCause roots old new NotAStore = ⊥
  RootsCause roots old new (Damaged block) =
      disk.is_observable → (n : ℕ) × (root : ℕ) × (slice_get roots n ≡ Some root) × IsWrongBelow (disk.contents old) root block
  RootsCause roots old new Fault = Rose (disk.faults old) (disk.faults new)
  RootsCause roots old new Want = Unit {0}

  -- Why the board of the streams of a checkpoint was not made.
  abbrev pub StartCause : Super → ℕ → List RollStreamValue → D → D → OpenCause → Type 0
  StartCause found format roll old new NotAStore = ⊥
  StartCause found format roll old new (Damaged block) =
      disk.is_observable → HasWrongVersionRoot (disk.contents old) found format roll block
  StartCause found format roll old new Fault = Rose (disk.faults old) (disk.faults new)
  StartCause found format roll old new Want = Unit {0}
