-- Rolls, which are the content of checkpoints: the bytes of streams with their versions, and which streams a checkpoint can have.
use Rattle.std.specs.Prelude.{◌≡◌, ◌≢◌, ℕ, ◌<◌, ◌≤◌, ◌^◌, nat_le, Bool, true, false, List, [], ◌∷◌, ◌++◌, length, map, slice_get}
use Rattle.std.specs.Prelude.{Option, Some, None, IfSome, IsTrue, is_some}
use Rattle.std.specs.Int.{w32, w64, w128}
use Rattle.std.specs.List.{flat_map, filter_map, AllByRecursion, AllPairs}
use Rattle.btr_base.specs.declared.limits.TheConstants.{MAX_STREAMS, MAX_VERSIONS}
use Rattle.btr_hist.specs.declared.kernel.Spec.{Spec}
use Rattle.btr_hist.specs.declared.kernel.Reads.{Reads}
use Rattle.btr_hist.specs.Kernel.{is_good}
use Rattle.btr_hist.specs.History.{nothing_read}
use Rattle.btr_roll.specs.declared.roll.RollVersion.{RollVersion}
use Rattle.btr_entry.specs.Grammar.{number, spec_bytes, reads_bytes, IsSpec, AreVersions}
use Rattle.btr_entry.specs.Format.{spec_format}

-- A stream: its id, the number of the entry that made it, the spec of an output, the first version that is not retired, and its
-- versions from version 1 on.
pub record RollStreamValue : Type 0 where
  pub id : ℕ
  pub entry : ℕ
  pub spec : Option Spec
  pub first : ℕ
  pub versions : List RollVersion

-- A checkpoint of this format has the first versions that are not retired.
abbrev pub has_firsts : ℕ → Bool
has_firsts format = nat_le 2 format

-- The format of a stream: that of the spec of an output, and 1 for a plain stream.
abbrev pub kind_format : Option Spec → ℕ
kind_format None = 1
kind_format (Some s) = spec_format s

-- ---- the bytes

-- What a version has read: the reads of an output's version, and nothing for a plain stream's.
abbrev pub some_reads_bytes : Option Reads → List ℕ
some_reads_bytes None = []
some_reads_bytes (Some r) = reads_bytes r

-- A version: the number of its entry, the block of its root, and what it has read.
abbrev pub version_bytes : RollVersion → List ℕ
version_bytes v = number w64 v.entry ++ (number w64 v.root ++ some_reads_bytes v.reads)

-- The kind of a stream: 0 for a plain stream, 1 and the spec for an output.
abbrev pub kind_bytes : Option Spec → List ℕ
kind_bytes None = 0 ∷ []
kind_bytes (Some s) = 1 ∷ spec_bytes s

-- The first version that is not retired in eight bytes, if the checkpoint has it.
abbrev pub first_bytes : Bool → ℕ → List ℕ
first_bytes false first = []
first_bytes true first = number w64 first

-- The number of the versions of a stream in eight bytes, the first one that is not retired, if the format has it, and each version.
abbrev pub versions_bytes : ℕ → RollStreamValue → List ℕ
versions_bytes format s = number w64 (length s.versions) ++ (first_bytes (has_firsts format) s.first ++ flat_map version_bytes s.versions)

-- A stream: its id, the number of its entry, its kind, and its versions.
abbrev pub stream_bytes : ℕ → RollStreamValue → List ℕ
stream_bytes format s = number w128 s.id ++ (number w64 s.entry ++ (kind_bytes s.spec ++ versions_bytes format s))

-- The number of streams in four bytes, and each stream.
abbrev pub roll_bytes : ℕ → List RollStreamValue → List ℕ
roll_bytes format streams = number w32 (length streams) ++ flat_map (stream_bytes format) streams

-- ---- what fits in the bytes

-- A version of an output has read versions that streams can have, and a version of a plain stream has read nothing.
abbrev pub ReadsFit : Bool → Option Reads → Type 0
ReadsFit false None = Unit {0}
ReadsFit true (Some r) = AreVersions r
ReadsFit output reads = ⊥

-- A version that has a spelling, of an output or of a plain stream.
pub record VersionFits (output : Bool) (v : RollVersion) : Type 0 where
  pub entry_fits : v.entry < 2 ^ 64
  pub root_fits : v.root < 2 ^ 64
  pub reads_fit : ReadsFit output v.reads

-- A first version that is not retired which a stream with this latest version can have: one that it has, and 0 if the checkpoint
-- has none.
pub record FirstFits (has : Bool) (latest first : ℕ) : Type 0 where
  pub there : first ≤ latest
  pub none : has ≡ false → first ≡ 0

-- A stream that has a spelling in a checkpoint of this format, which is at least the stream's, with no more versions than are allowed.
pub record StreamFits (format : ℕ) (s : RollStreamValue) : Type 0 where
  pub id_fits : s.id < 2 ^ 128
  pub entry_fits : s.entry < 2 ^ 64
  pub spec_fits : IfSome s.spec IsSpec
  pub kind_fits : kind_format s.spec ≤ format
  pub few_versions : length s.versions ≤ MAX_VERSIONS
  pub first_fits : FirstFits (has_firsts format) (length s.versions) s.first
  pub versions_fit : AllByRecursion (VersionFits (is_some s.spec)) s.versions

-- Streams that have a spelling, not more than are allowed.
pub record RollFits (format : ℕ) (streams : List RollStreamValue) : Type 0 where
  pub few_streams : length streams ≤ MAX_STREAMS
  pub each_fits : AllByRecursion (StreamFits format) streams

-- ---- the table

-- The number of versions of a stream, which is its latest version, or 0 if there is no stream.
abbrev pub versions_count : Option RollStreamValue → ℕ
versions_count None = 0
versions_count (Some s) = length s.versions

-- A new version of an input may be read after an old one: it is not an earlier one, and the input has it.
abbrev pub ReadsNext : List RollStreamValue → ℕ → ℕ → ℕ → Type 0
ReadsNext streams input old new = (old ≤ new) × (new ≤ versions_count (slice_get streams input))

-- A version of a second input is read exactly if there is a second input, and it may be read after the old one.
abbrev pub ReadsSecond : List RollStreamValue → Option ℕ → Option ℕ → Option ℕ → Type 0
ReadsSecond streams None None None = Unit {0}
ReadsSecond streams (Some input) (Some old) (Some new) = ReadsNext streams input old new
ReadsSecond streams input old new = ⊥

-- A version of an output may have read the new versions, one of each input, if the version before it has read the old ones.
pub record MayReadNext (streams : List RollStreamValue) (spec : Spec) (old new : Reads) : Type 0 where
  pub first : ReadsNext streams spec.first old.first new.first
  pub second : ReadsSecond streams spec.second old.second new.second

-- Each of the reads may follow those before it, and the first of them may follow the old ones.
abbrev pub ReadInTurn : List RollStreamValue → Spec → Reads → List Reads → Type 0
ReadInTurn streams spec old [] = Unit {0}
ReadInTurn streams spec old (new ∷ more) = MayReadNext streams spec old new × ReadInTurn streams spec new more

-- What the versions have read, of those that have.
abbrev pub reads_of_versions : List RollVersion → List Reads
reads_of_versions versions = filter_map (λ v. v.reads) versions

-- An output at a place of the list: its inputs are streams before it, and its versions have read in turn, from version 0 on.
pub record IsOutputAt (streams : List RollStreamValue) (place : ℕ) (spec : Spec) (versions : List RollVersion) : Type 0 where
  pub first_before : spec.first < place
  pub second_before : IfSome spec.second (λ input. input < place)
  pub in_turn : ReadInTurn streams spec (nothing_read spec) (reads_of_versions versions)

-- A stream at a place of the list keeps the table: it is plain, or it is an output at this place.
abbrev pub KeepsTableAt : List RollStreamValue → ℕ → RollStreamValue → Type 0
KeepsTableAt streams place s = IfSome s.spec (λ spec. IsOutputAt streams place spec s.versions)

-- The ids differ, and each stream keeps the table at its place.
pub record KeepsTable (streams : List RollStreamValue) : Type 0 where
  pub ids_differ : AllPairs (λ a b. a ≢ b) (map (λ s. s.id) streams)
  pub each_keeps : (place : ℕ) → IfSome (slice_get streams place) (KeepsTableAt streams place)

-- ---- the grammar

-- Streams that a checkpoint of this format can have.
pub record IsRoll (format : ℕ) (streams : List RollStreamValue) : Type 0 where
  pub fits : RollFits format streams
  pub table : KeepsTable streams

-- The bytes are those of these streams in a checkpoint of this format, and nothing follows.
pub record IsRollBytes (format : ℕ) (bytes : List ℕ) (streams : List RollStreamValue) : Type 0 where
  pub is_roll : IsRoll format streams
  pub bytes_are : bytes ≡ roll_bytes format streams

-- Streams that can be encoded: their number fits in four bytes, and each spec is good.
pub record IsRollWithinBounds (streams : List RollStreamValue) : Type 0 where
  pub few_streams : length streams < 2 ^ 32
  pub good_specs : AllByRecursion (λ s. IfSome s.spec (λ spec. IsTrue (is_good spec))) streams
