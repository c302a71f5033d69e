-- What the functions promise that stage an entry: why none is staged, what each stream of the next board has, and what the entry
-- writes.
use Rattle.std.specs.Prelude.{◌≡◌, ℕ, ◌+◌, ◌-◌, ◌*◌, ◌^◌, ◌<◌, ◌≤◌, Bool, true, false, List, [], ◌∷◌, ◌++◌, length}
use Rattle.std.specs.Prelude.{slice_get, slice_set, Option, Some, None, IfSome}
use Rattle.std.specs.Option.{option_to_list, is_some}
use Rattle.btr_base.specs.declared.limits.TheConstants.{FIRST, MAX_STREAMS, MAX_VERSIONS}
use Rattle.btr_base.specs.declared.point.Point.{Point}
use Rattle.btr_base.specs.Point.{AreInDomain}
use Rattle.btr_base.specs.Range.{RangeValue}
use Rattle.btr_base.specs.Commit.{Change}
use Rattle.btr_tree.specs.History.{nothing, ◌▷◌, IsBefore}
use Rattle.btr_tree.specs.Nodes.{above_root}
use Rattle.btr_tree.specs.NewNodes.{NewNodeValue, bare_all, new_nodes}
use Rattle.btr_tree.specs.Slots.{block_of}
use Rattle.btr_tree.specs.Stored.{Store, IsBelow, IsLaid}
use Rattle.btr_tree.specs.Root.{TreeValue, IsTree, AfterCommit}
use Rattle.btr_tree.specs.declared.commit.TreeCommit.{TreeCommit}
use Rattle.btr_hist.specs.declared.entry.Entry.{Entry}
use Rattle.btr_hist.specs.declared.entry.Entry.TheVariants.{Create, Define, Commit, Distillate, Retire}
use Rattle.btr_hist.specs.declared.kernel.Spec.{Spec}
use Rattle.btr_hist.specs.declared.kernel.Reads.{Reads}
use Rattle.btr_hist.specs.declared.rejection.Rejection.{Rejection}
use Rattle.btr_hist.specs.declared.rejection.Rejection.TheVariants.{Crowded, TooManyPoints}
use Rattle.btr_hist.specs.History.{latest, new_id, new_kind, change_of, read_of, first_of}
use Rattle.btr_hist.specs.Legal.{rejection, version_rejection}
use Rattle.btr_hist.specs.Machine as machine
use Rattle.btr_streams.specs.declared.board.Receipt.{Receipt}
use Rattle.btr_streams.specs.declared.board.Staged.{Staged}
use Rattle.btr_streams.specs.declared.board.PushFault.{PushFault}
use Rattle.btr_streams.specs.declared.staging.NewVersion.{NewVersion}
use Rattle.btr_streams.specs.declared.board.PushFault.TheVariants.{Rejected, Want}
use Rattle.btr_streams.specs.Past.{commits_to}
use Rattle.btr_streams.specs.Readers.{AreInputsBelow}
use Rattle.btr_streams.specs.Board.{Versions, Kept, IsGrown, IsBoardOf, HasTrees, HasGoodSpec, place_of, ids_of}

-- Memory may run out before the entry is rejected only while the points are tested that the stream would have. All other tests
-- come first and take no memory.
abbrev pub MayLackMemory : Option Rejection → Type 0
MayLackMemory None = Unit {0}
MayLackMemory (Some (Crowded start)) = Unit {0}
MayLackMemory (Some (TooManyPoints count)) = Unit {0}
MayLackMemory (Some why) = ⊥

-- The entry is rejected for this cause, or there was not enough memory.
abbrev pub PushCause : Option Rejection → PushFault → Type 0
PushCause rejection (Rejected why) = rejection ≡ Some why
PushCause rejection Want = MayLackMemory rejection

-- The receipt is the machine's.
pub record IsReceipt (h : List Entry) (e : Entry) (receipt : Receipt) : Type 0 where
  pub number : receipt.number ≡ (machine.receipt h e).number
  pub stream : receipt.stream ≡ (machine.receipt h e).stream
  pub version : receipt.version ≡ (machine.receipt h e).version

-- The staged entry may follow these entries: the next board is that of them and the entry, and the receipt is the entry's.
pub record IsStagedEntry (h : List Entry) (e : Entry) (s : Staged) : Type 0 where
  pub allowed : rejection h e ≡ None
  pub next : IsBoardOf (h ++ e ∷ []) s.next
  pub receipt : IsReceipt h e s.receipt

-- The next board and the receipt have the number of the entry.
pub record IsNumbered (b : Kept) (s : Staged) : Type 0 where
  pub entries : s.next.entries ≡ b.entries + 1
  pub number : s.receipt.number ≡ b.entries + 1

-- The change of a commit with these ranges and points.
abbrev pub change : List RangeValue → List Point → Change
change cut added = record { cut = cut; added = added }

-- The change of a commit as a tree takes it.
abbrev pub change_in : TreeCommit → Change
change_in commit = change commit.cut.now commit.added.now

-- ---- what an entry makes

-- The entry makes a stream with this id: an output of this spec, or a plain stream.
pub record MakesStream (e : Entry) (id : ℕ) (spec : Option Spec) : Type 0 where
  pub named : new_id e ≡ Some id
  pub kind : new_kind e ≡ Some spec
  pub no_change : (stream : ℕ) → change_of stream e ≡ None
  pub no_read : (stream : ℕ) → read_of stream e ≡ None
  pub no_first : (stream : ℕ) → first_of stream e ≡ None

-- The entry makes a version of this stream: it is a commit of this change, which has read these versions or none.
pub record MakesVersion (e : Entry) (stream : ℕ) (c : Change) (read : Option Reads) : Type 0 where
  pub no_id : new_id e ≡ None
  pub no_kind : new_kind e ≡ None
  pub changes : change_of stream e ≡ Some c
  pub reads : read_of stream e ≡ Some read
  pub no_other_change : (other : ℕ) → (stream ≡ other → ⊥) → change_of other e ≡ None
  pub no_other_read : (other : ℕ) → (stream ≡ other → ⊥) → read_of other e ≡ None
  pub no_first : (other : ℕ) → first_of other e ≡ None

-- The entry retires the versions of this stream before the first. It makes no stream and no version.
pub record RetiresVersions (e : Entry) (stream first : ℕ) : Type 0 where
  pub no_id : new_id e ≡ None
  pub no_kind : new_kind e ≡ None
  pub no_change : (other : ℕ) → change_of other e ≡ None
  pub no_read : (other : ℕ) → read_of other e ≡ None
  pub leaves : first_of stream e ≡ Some first
  pub no_other_first : (other : ℕ) → (stream ≡ other → ⊥) → first_of other e ≡ None

-- ---- the next version of a stream

-- The tree of the version that a commit makes.
abbrev pub IsNextTree : List Entry → ℕ → Change → TreeValue → Type 0
IsNextTree h stream c t =
    IsTree (record { version = latest h stream + 1; cut = c.cut; added = c.added } ▷ commits_to h stream (latest h stream)) t

-- The entry may follow, and makes the next version of this stream, which has read these versions or none and has this tree.
pub record MakesNext (h : List Entry) (e : Entry) (stream : ℕ) (read : Option Reads) (t : TreeValue) : Type 0 where
  pub change_made : Change
  pub makes : MakesVersion e stream change_made read
  pub tree : IsNextTree h stream change_made t
  pub allowed : rejection h e ≡ None

-- P holds of each stream of a history whose versions have these trees.
abbrev pub OfEachStream : List TreeValue → (List Entry → ℕ → Type 0) → Type 0
OfEachStream trees P = (h : List Entry) (stream : ℕ) → HasTrees h stream trees → P h stream

-- The commit makes the next version of a stream with these trees. Its points lie in the domain, and its nodes are for blocks that can be.
pub record IsNextCommit (trees : List TreeValue) (commit : TreeCommit) : Type 0 where
  pub version : commit.version ≡ length trees
  pub times : AreInDomain commit.added.now
  pub first : (1 ≤ commit.first) × (commit.first ≤ 2 ^ 33)

-- Each stream with these trees may have a next version with this change, and this is its tree.
abbrev pub IsAllowedNext : List TreeValue → Change → TreeValue → Type 0
IsAllowedNext trees c t =
    OfEachStream trees (λ h stream. (version_rejection h stream c ≡ None) × IsNextTree h stream c t)

-- The version can be made of a stream of the board: it is that after the ones that are kept. An output's version has read versions, and
-- one of a plain stream has not.
pub record IsNewVersion (b : Kept) (v : NewVersion) : Type 0 where
  pub there : slice_get b.streams v.stream ≡ Some v.kept.now
  pub grown : IsGrown v.kept.now
  pub of_kind : is_some v.read ≡ is_some v.kept.now.spec
  pub commit : IsNextCommit v.kept.now.trees v.commit

-- Of a history that the board is of, the stream may have the version, and the board is that of the history with each entry that makes it.
pub record IsBoardWith (h : List Entry) (v : NewVersion) (next : Kept) : Type 0 where
  pub allowed : version_rejection h v.stream (change_in v.commit) ≡ None
  pub of : (e : Entry) → MakesVersion e v.stream (change_in v.commit) v.read → rejection h e ≡ None → IsBoardOf (h ++ e ∷ []) next

-- The entry may follow, and the board is that of the history with it.
pub record IsNextBoard (h : List Entry) (e : Entry) (next : Kept) : Type 0 where
  pub allowed : rejection h e ≡ None
  pub of : IsBoardOf (h ++ e ∷ []) next

-- The stream with one version more, which has this tree, has read these versions or none, and was made by the entry of this number.
abbrev pub with_version : Versions → TreeValue → Option Reads → ℕ → Versions
with_version s t read number = record {
  id = s.id;
  spec = s.spec;
  trees = s.trees ++ t ∷ [];
  reads = s.reads ++ option_to_list read;
  numbers = s.numbers ++ number ∷ [];
  earliest = s.earliest;
}

-- The stream at version 0, which has this tree and was made by the entry of this number: an output of this spec, or a plain stream.
abbrev pub new_stream : ℕ → Option Spec → TreeValue → ℕ → Versions
new_stream id spec t number =
    record { id = id; spec = spec; trees = t ∷ []; reads = []; numbers = number ∷ []; earliest = 0 }

-- The stream with its versions before the first retired.
abbrev pub with_earliest : Versions → ℕ → Versions
with_earliest s first =
    record { id = s.id; spec = s.spec; trees = s.trees; reads = s.reads; numbers = s.numbers; earliest = first }

-- ---- what an entry writes

-- What a version writes whose tree is that of `old` after a commit: the new nodes of its tree, one in each block from `first` on, and
-- the block of its root. It speaks of each past whose tree `old` is, and of each store that holds it below `first`.
pub record WritesVersion (first version : ℕ) (c : Change) (old new : TreeValue) (nodes : List NewNodeValue) (root : ℕ) : Type 0 where
  pub tree : AfterCommit old version c.cut c.added (λ h commit. IsTree (commit ▷ h) new)
  pub new_ones : AfterCommit old version c.cut c.added (λ h commit.
      0 < version → IsBefore version h → bare_all nodes ≡ new_nodes 10 FIRST above_root (commit ▷ h) version)
  pub few : AfterCommit old version c.cut c.added (λ h commit.
      0 < version → IsBefore version h → length nodes ≤ 11 * (253 * length c.added + 2 * length c.cut))
  pub laid : (store : Store) → IsBelow store first 10 FIRST old.node → IsLaid store first nodes 10 FIRST new.node
  pub root_is : root ≡ block_of new.node

-- What the next version of a stream writes that has these trees, from version 0 on.
abbrev pub WritesNext : ℕ → List TreeValue → Change → TreeValue → List NewNodeValue → ℕ → Type 0
WritesNext first trees c new nodes root =
    (last : TreeValue) × (slice_get trees (length trees - 1) ≡ Some last)
    × WritesVersion first (length trees) c last new nodes root

-- The next board has one version more of a stream, which has read these versions or none, and the version writes these nodes.
pub record WritesCommit (b : Kept) (first stream : ℕ) (c : Change) (read : Option Reads) (next : Kept) (nodes : List NewNodeValue)
    (root : ℕ) : Type 0 where
  pub kept : Versions
  pub there : slice_get b.streams stream ≡ Some kept
  pub last : TreeValue
  pub last_is : slice_get kept.trees (length kept.trees - 1) ≡ Some last
  pub new : TreeValue
  pub streams : next.streams ≡ slice_set b.streams stream (with_version kept new read (b.entries + 1))
  pub writes : WritesVersion first (length kept.trees) c last new nodes root

-- The next board has one stream more, at version 0.
pub record AddsStream (b : Kept) (id : ℕ) (spec : Option Spec) (next : Kept) : Type 0 where
  pub tree : TreeValue
  pub empty : IsTree nothing tree
  pub streams : next.streams ≡ b.streams ++ new_stream id spec tree (b.entries + 1) ∷ []

-- The next board has one stream more, at version 0, which has no node and no root.
pub record WritesStream (b : Kept) (id : ℕ) (spec : Option Spec) (next : Kept) (nodes : List NewNodeValue) (root : ℕ) : Type 0 where
  pub adds : AddsStream b id spec next
  pub none : nodes ≡ []
  pub no_root : root ≡ 0

-- The next board has this first version of a stream, and all else of its streams as before.
pub record SetsEarliest (b : Kept) (stream first : ℕ) (next : Kept) : Type 0 where
  pub kept : Versions
  pub there : slice_get b.streams stream ≡ Some kept
  pub streams : next.streams ≡ slice_set b.streams stream (with_earliest kept first)

-- The next board has this first version of a stream, and the entry has no node and no root.
pub record WritesRetirement (b : Kept) (stream first : ℕ) (next : Kept) (nodes : List NewNodeValue) (root : ℕ) : Type 0 where
  pub sets : SetsEarliest b stream first next
  pub none : nodes ≡ []
  pub no_root : root ≡ 0

-- What an entry makes of a board, and which nodes and which root it writes, if its first node is for the block `first`.
abbrev pub WritesOn : Kept → Entry → ℕ → Kept → List NewNodeValue → ℕ → Type 0
WritesOn b (Create id) first = WritesStream b id None
WritesOn b (Define id spec) first = WritesStream b id (Some spec)
WritesOn b (Commit stream cut added) first = WritesCommit b first stream (change cut added) None
WritesOn b (Distillate stream cut added reads) first = WritesCommit b first stream (change cut added) (Some reads)
WritesOn b (Retire stream least) first = WritesRetirement b stream least

-- The staged entry has the board that it makes, the nodes that it writes, and the block of the new root.
abbrev pub WritesEntry : Kept → Entry → ℕ → Staged → Type 0
WritesEntry b e first s = WritesOn b e first s.next s.nodes.items s.root

-- ---- an entry whose tree was read

-- The board may have one stream more, with this id: an output of this spec, whose inputs it has, or a plain stream.
pub record HasRoomForStream (b : Kept) (id : ℕ) (spec : Option Spec) : Type 0 where
  pub few : length b.streams < MAX_STREAMS
  pub fresh : place_of (ids_of b.streams) id ≡ None
  pub good : HasGoodSpec spec
  pub inputs : IfSome spec (AreInputsBelow (length b.streams))

-- The stream may have one version more, and keeps what each stream of a board keeps. It is an output, or a plain stream.
pub record HasRoomForVersion (b : Kept) (stream : ℕ) (output : Bool) : Type 0 where
  pub kept : Versions
  pub there : slice_get b.streams stream ≡ Some kept
  pub grown : IsGrown kept
  pub kind : is_some kept.spec ≡ output
  pub few : length kept.trees ≤ MAX_VERSIONS

-- The stream has the version that is to be its first, and keeps what each stream of a board keeps.
pub record HasRoomForFirst (b : Kept) (stream first : ℕ) : Type 0 where
  pub kept : Versions
  pub there : slice_get b.streams stream ≡ Some kept
  pub grown : IsGrown kept
  pub made : first < length kept.trees

-- The board may have what the entry makes.
abbrev pub HasRoomFor : Kept → Entry → Type 0
HasRoomFor b (Create id) = HasRoomForStream b id None
HasRoomFor b (Define id spec) = HasRoomForStream b id (Some spec)
HasRoomFor b (Commit stream cut added) = HasRoomForVersion b stream false
HasRoomFor b (Distillate stream cut added reads) = HasRoomForVersion b stream true
HasRoomFor b (Retire stream first) = HasRoomForFirst b stream first

-- The next board has one version more of a stream, with this tree, which has read these versions or none. No node is written, and the
-- root is that of the tree.
pub record ReadsVersion (b : Kept) (stream : ℕ) (read : Option Reads) (t : TreeValue) (next : Kept) (nodes : List NewNodeValue)
    (root : ℕ) : Type 0 where
  pub kept : Versions
  pub there : slice_get b.streams stream ≡ Some kept
  pub streams : next.streams ≡ slice_set b.streams stream (with_version kept t read (b.entries + 1))
  pub none : nodes ≡ []
  pub root_is : root ≡ block_of t.node

-- What an entry makes of a board, if the version that it makes has this tree. An entry that makes no version does not take the tree.
abbrev pub ReadsOn : Kept → Entry → TreeValue → Kept → List NewNodeValue → ℕ → Type 0
ReadsOn b (Create id) t = WritesStream b id None
ReadsOn b (Define id spec) t = WritesStream b id (Some spec)
ReadsOn b (Commit stream cut added) t = ReadsVersion b stream None t
ReadsOn b (Distillate stream cut added reads) t = ReadsVersion b stream (Some reads) t
ReadsOn b (Retire stream first) t = WritesRetirement b stream first

-- The staged entry has the board that it makes with this tree.
abbrev pub ReadsEntry : Kept → Entry → TreeValue → Staged → Type 0
ReadsEntry b e t s = ReadsOn b e t s.next s.nodes.items s.root

-- The tree is that of the version that an entry makes. An entry that makes no version has no tree.
abbrev pub IsTreeAfter : List Entry → Entry → TreeValue → Type 0
IsTreeAfter h (Create id) t = Unit {0}
IsTreeAfter h (Define id spec) t = Unit {0}
IsTreeAfter h (Commit stream cut added) t = IsNextTree h stream (change cut added) t
IsTreeAfter h (Distillate stream cut added reads) t = IsNextTree h stream (change cut added) t
IsTreeAfter h (Retire stream first) t = Unit {0}
