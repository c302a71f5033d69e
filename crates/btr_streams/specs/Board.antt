-- What a board keeps of a history: of each stream the id, the spec, the trees of its versions, what they have read, the numbers of the
-- entries that made them, and the first version that is not retired; and the number of entries.
use Rattle.std.specs.Prelude.{◌≡◌, ℕ, zero, suc, ◌+◌, ◌-◌, ◌<◌, ◌≤◌, nat_eq, nat_le, List, length}
use Rattle.std.specs.Prelude.{map, slice_get, slice_index_or, Option, Some, None, IfSome, true, if◌then◌else◌}
use Rattle.std.specs.List.{position_from, AllByRecursion}
use Rattle.std.specs.Option.{option_and_then}
use Rattle.btr_base.specs.declared.limits.TheConstants.{MAX_STREAMS, MAX_VERSIONS}
use Rattle.btr_tree.specs.History.{Past}
use Rattle.btr_tree.specs.Root.{TreeValue, IsTree}
use Rattle.btr_hist.specs.declared.entry.Entry.{Entry}
use Rattle.btr_hist.specs.declared.kernel.Spec.{Spec}
use Rattle.btr_hist.specs.declared.kernel.Reads.{Reads}
use Rattle.btr_hist.specs.Kernel.{is_good}
use Rattle.btr_hist.specs.History.{ids, spec_of, latest, read_by, earliest}
use Rattle.btr_hist.specs.Legal.{Follows}
use Rattle.btr_streams.specs.Past.{commits_to, stream_numbers}
use Rattle.btr_streams.specs.Readers.{AreReaders}

-- A stream: its id, the spec of an output, the trees of its versions, from version 0 on, what the versions of an output have read, from
-- version 1 on, the numbers of the entries that made its versions, from version 0 on, and the first version that is not retired, 0 if none
-- is. A plain stream has no spec and no reads. The trees of retired versions are kept.
pub record Versions : Type 0 where
  pub id : ℕ
  pub spec : Option Spec
  pub trees : List TreeValue
  pub reads : List Reads
  pub numbers : List ℕ
  pub earliest : ℕ

-- What contracts see of a board: the streams in order of creation, and the number of entries.
pub record Kept : Type 0 where
  pub streams : List Versions
  pub entries : ℕ

-- The tree of a version of a stream, if the board has it.
abbrev pub tree_at : List Versions → ℕ → ℕ → Option TreeValue
tree_at streams stream version = option_and_then (λ s. slice_get s.trees version) (slice_get streams stream)

-- The number of versions of a stream, with version 0; 0 if there is no stream.
abbrev pub trees_count : Option Versions → ℕ
trees_count None = 0
trees_count (Some s) = length s.trees

-- The number of versions of the stream with this number.
abbrev pub versions_in : List Versions → ℕ → ℕ
versions_in streams stream = trees_count (slice_get streams stream)

-- The place of an id among ids: that of the first that is equal.
abbrev pub place_of : List ℕ → ℕ → Option ℕ
place_of ids id = position_from (nat_eq id) 0 ids

-- The ids of streams, in order of creation.
abbrev pub ids_of : List Versions → List ℕ
ids_of streams = map (λ s. s.id) streams

-- The specs of streams, in order of creation: none of a plain stream.
abbrev pub specs_of : List Versions → List (Option Spec)
specs_of streams = map (λ s. s.spec) streams

-- The tree is that of some past.
abbrev pub HasPast : TreeValue → Type 0
HasPast t = (past : Past) × IsTree past t

-- The trees of the versions of a stream, from version 0 on: each is that of some past.
pub record AreTrees (trees : List TreeValue) : Type 0 where
  pub some : 1 ≤ length trees
  pub pasts : AllByRecursion HasPast trees

-- The number of reads of a stream with this number of trees: an output has one for each version but version 0, a plain stream has none.
abbrev pub reads_count : Option Spec → ℕ → ℕ
reads_count None trees = 0
reads_count (Some spec) trees = trees - 1

-- The spec of an output is good. A plain stream has none.
abbrev pub HasGoodSpec : Option Spec → Type 0
HasGoodSpec spec = IfSome spec (λ s. is_good s ≡ true)

-- What holds of each stream of each board: it has a version, not too many versions, and each tree is that of some past; it has a number
-- for each version, and of an output the reads of each version but version 0, and a good spec; and its latest version is not retired.
pub record IsGrown (s : Versions) : Type 0 where
  pub some : 1 ≤ length s.trees
  pub limited : length s.trees ≤ MAX_VERSIONS + 1
  pub pasts : AllByRecursion HasPast s.trees
  pub numbered : length s.numbers ≡ length s.trees
  pub read : length s.reads ≡ reads_count s.spec (length s.trees)
  pub good : HasGoodSpec s.spec
  pub present : s.earliest < length s.trees

-- What holds of each board, whatever its history is: there are not too many streams, `number` gives each id the place of the first stream
-- with it, and `readers` are the readers of each stream.
pub record IsWellFormed (streams : List Versions) (number : ℕ → Option ℕ) (readers : List (List ℕ)) : Type 0 where
  pub few : length streams ≤ MAX_STREAMS
  pub each : (place : ℕ) (d : Versions) → place < length streams → IsGrown (slice_index_or streams place d)
  pub numbered : (id : ℕ) → number id ≡ place_of (ids_of streams) id
  pub read : AreReaders (specs_of streams) readers

-- The trees of a stream's versions, from version 0 on.
pub record HasTrees (h : List Entry) (stream : ℕ) (trees : List TreeValue) : Type 0 where
  pub counted : length trees ≡ latest h stream + 1
  pub each : (version : ℕ) (d : TreeValue) → version ≤ latest h stream
      → IsTree (commits_to h stream version) (slice_index_or trees version d)

-- What a version has read, if the versions from 1 on have read these. Version 0 has read none.
abbrev pub read_at : List Reads → ℕ → Option Reads
read_at reads zero = None
read_at reads (suc before) = slice_get reads before

-- The reads of a stream's versions. A version that the stream does not have has none.
pub record HasReads (h : List Entry) (stream : ℕ) (s : Versions) : Type 0 where
  pub counted : length s.reads ≡ reads_count s.spec (length s.trees)
  pub each : (version : ℕ) → read_by h stream version ≡ read_at s.reads version

-- The stream of this number is kept as the history has it: its id, its spec, the trees of its versions, what they have read, the
-- numbers of the entries that made them, and the first version that is not retired.
pub record IsStreamOf (h : List Entry) (stream : ℕ) (s : Versions) : Type 0 where
  pub named : slice_get (ids h) stream ≡ Some s.id
  pub defined : spec_of h stream ≡ s.spec
  pub kept : HasTrees h stream s.trees
  pub read : HasReads h stream s
  pub numbered : s.numbers ≡ stream_numbers h stream
  pub retired : s.earliest ≡ earliest h stream

-- The stream of this number has what the history has of it beside its points: its id, its spec, the number of its versions, what they
-- have read, the numbers of the entries that made them, and the first version that is not retired.
pub record HasStreamOf (h : List Entry) (stream : ℕ) (s : Versions) : Type 0 where
  pub named : slice_get (ids h) stream ≡ Some s.id
  pub defined : spec_of h stream ≡ s.spec
  pub counted : length s.trees ≡ latest h stream + 1
  pub read : HasReads h stream s
  pub numbered : s.numbers ≡ stream_numbers h stream
  pub retired : s.earliest ≡ earliest h stream

-- The board has the streams of the history, and the number of its entries, whatever its trees are. No other number has a version, or one
-- that is retired.
pub record HasStreamsOf (h : List Entry) (b : Kept) : Type 0 where
  pub counted : length b.streams ≡ length (ids h)
  pub each : (stream : ℕ) (d : Versions) → stream < length (ids h) → HasStreamOf h stream (slice_index_or b.streams stream d)
  pub entries : b.entries ≡ length h
  pub beyond : (stream : ℕ) → length (ids h) ≤ stream → latest h stream ≡ 0
  pub unretired : (stream : ℕ) → length (ids h) ≤ stream → earliest h stream ≡ 0

-- The board is that of the history: it has its streams, and the number of its entries. Each entry is accepted after those before
-- it: it may follow them as to streams, versions, reads and numbers of points, which is what the board tests.
pub record IsBoardOf (h : List Entry) (b : Kept) : Type 0 where
  pub counted : length b.streams ≡ length (ids h)
  pub each : (stream : ℕ) (d : Versions) → stream < length (ids h) → IsStreamOf h stream (slice_index_or b.streams stream d)
  pub entries : b.entries ≡ length h
  pub follows : Follows h

-- The latest version of a stream, if the history has the stream.
abbrev pub latest_of : List Entry → ℕ → Option ℕ
latest_of h stream = if nat_le (length (ids h)) stream then None else Some (latest h stream)

-- The history has this version of this stream.
abbrev pub HasVersion : List Entry → ℕ → ℕ → Type 0
HasVersion h stream version = (stream < length (ids h)) × (version ≤ latest h stream)

-- The history has this version of this stream, and the tree is that of the stream's commits up to it.
pub record IsTreeOf (h : List Entry) (stream version : ℕ) (t : TreeValue) : Type 0 where
  pub has : HasVersion h stream version
  pub tree : IsTree (commits_to h stream version) t
