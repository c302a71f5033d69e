-- What shows of a history beside its points, its outline; the outline of a roll; and why an entry may not follow a history, by the
-- outline and by the points.
use Rattle.std.specs.Prelude.{◌≡◌, ℕ, ◌+◌, Bool, true, false, not, ◌&&◌, ◌||◌, nat_eq, nat_lt, nat_le, List, [], ◌∷◌, length, map}
use Rattle.std.specs.Prelude.{slice_index_or, Option, Some, None}
use Rattle.std.specs.List.{list_any}
use Rattle.std.specs.Option.{unwrap_or, is_some}
use Rattle.btr_base.specs.declared.limits.TheConstants.{MAX_STREAMS, MAX_VERSIONS}
use Rattle.btr_base.specs.Commit.{Change}
use Rattle.btr_hist.specs.declared.entry.Entry.{Entry}
use Rattle.btr_hist.specs.declared.entry.Entry.TheVariants.{Create, Commit, Define, Distillate, Retire}
use Rattle.btr_hist.specs.declared.kernel.Spec.{Spec}
use Rattle.btr_hist.specs.declared.kernel.Reads.{Reads}
use Rattle.btr_hist.specs.declared.rejection.Rejection.{Rejection}
use Rattle.btr_hist.specs.declared.rejection.Rejection.TheVariants.{NoStream, StreamExists, NotWritable}
use Rattle.btr_hist.specs.declared.rejection.Rejection.TheVariants.{StreamLimit, VersionLimit, BadSpec, BadFirst}
use Rattle.btr_hist.specs.Kernel.{is_good}
use Rattle.btr_hist.specs.History.{ids, spec_of, latest, read_by, nothing_read, earliest}
use Rattle.btr_hist.specs.Legal.{first_some, when, next_bag, least_read, held_at}
use Rattle.btr_hist.specs.Legal.{change_rejection, distillate_change_rejection, points_rejection}
use Rattle.btr_roll.specs.Roll.{RollStreamValue}
use Rattle.btr_roll.specs.declared.roll.RollVersion.{RollVersion}

-- ---- an outline

-- A stream of an outline: its id, the spec of an output, its latest version, what that version has read, and the first version that is not
-- retired.
pub record Outlined : Type 0 where
  pub id : ℕ
  pub spec : Option Spec
  pub latest : ℕ
  pub reads : Option Reads
  pub earliest : ℕ

-- The stream of a history with this number and this id.
abbrev pub outlined : List Entry → ℕ → ℕ → Outlined
outlined h stream id =
    record {
      id = id;
      spec = spec_of h stream;
      latest = latest h stream;
      reads = read_by h stream (latest h stream);
      earliest = earliest h stream;
    }

-- The streams of a history with these ids, of which the first has this number.
abbrev pub outline_from : List Entry → ℕ → List ℕ → List Outlined
outline_from h stream [] = []
outline_from h stream (id ∷ more) = outlined h stream id ∷ outline_from h (stream + 1) more

-- The streams of a history, in order of creation.
abbrev pub outline_of : List Entry → List Outlined
outline_of h = outline_from h 0 (ids h)

-- What an outline has for a number that is not that of a stream: no spec, no version but version 0, which is not retired, and no reads.
abbrev pub no_stream : Outlined
no_stream = record { id = 0; spec = None; latest = 0; reads = None; earliest = 0 }

-- The stream with this number.
abbrev pub stream_at : List Outlined → ℕ → Outlined
stream_at o stream = slice_index_or o stream no_stream

-- The ids of the streams.
abbrev pub ids_in : List Outlined → List ℕ
ids_in o = map (λ s. s.id) o

-- ---- the outline of a roll

-- What the last of these versions has read, if it has read something.
abbrev pub last_read : List RollVersion → Option Reads
last_read [] = None
last_read (v ∷ []) = v.reads
last_read (v ∷ (w ∷ more)) = last_read (w ∷ more)

-- The stream of a roll: its id, its spec, the number of its versions, what the last one has read, and the first that is not retired.
abbrev pub outlined_in_roll : RollStreamValue → Outlined
outlined_in_roll s =
    record { id = s.id; spec = s.spec; latest = length s.versions; reads = last_read s.versions; earliest = s.first }

-- The outline of a roll, whose streams are in order of creation.
abbrev pub outline_in : List RollStreamValue → List Outlined
outline_in roll = map outlined_in_roll roll

-- ---- why an entry may not follow, by the outline

-- The reason why a stream with this id may not be created.
abbrev pub create_refusal : List Outlined → ℕ → Option Rejection
create_refusal o id = first_some (
    when (list_any (nat_eq id) (ids_in o)) StreamExists
    ∷ when (nat_le MAX_STREAMS (length o)) StreamLimit
    ∷ [])

-- A stream with this number exists.
abbrev pub is_stream_in : List Outlined → ℕ → Bool
is_stream_in o stream = nat_lt stream (length o)

-- The second input, if there is one, is a stream.
abbrev pub second_is_stream_in : List Outlined → Option ℕ → Bool
second_is_stream_in o None = true
second_is_stream_in o (Some stream) = is_stream_in o stream

-- The inputs of a spec are streams.
abbrev pub has_inputs_in : List Outlined → Spec → Bool
has_inputs_in o spec = is_stream_in o spec.first && second_is_stream_in o spec.second

-- The reason why an output with this id and spec may not be created.
abbrev pub define_refusal : List Outlined → ℕ → Spec → Option Rejection
define_refusal o id spec = first_some (
    when (not (has_inputs_in o spec)) NoStream
    ∷ when (list_any (nat_eq id) (ids_in o)) StreamExists
    ∷ when (nat_le MAX_STREAMS (length o)) StreamLimit
    ∷ when (not (is_good spec)) BadSpec
    ∷ [])

-- The reason why a user's commit of this stream may not follow.
abbrev pub commit_refusal : List Outlined → ℕ → Change → Option Rejection
commit_refusal o stream c = first_some (
    when (nat_le (length o) stream) NoStream
    ∷ when (is_some (stream_at o stream).spec) NotWritable
    ∷ change_rejection c
    ∷ when (nat_le MAX_VERSIONS (stream_at o stream).latest) VersionLimit
    ∷ [])

-- A version of a second input may be read: there is one exactly if there is a second input, it is not before the one that was
-- read last, and the input has it.
abbrev pub may_read_second_in : List Outlined → Option ℕ → Option ℕ → Option ℕ → Bool
may_read_second_in o None None None = true
may_read_second_in o (Some s) (Some old) (Some new) = nat_le old new && nat_le new (stream_at o s).latest
may_read_second_in o s old new = false

-- A distillate may read these versions of the inputs, if the last one read the old ones.
abbrev pub may_read_in : List Outlined → Spec → Reads → Reads → Bool
may_read_in o spec old new =
    nat_le old.first new.first
    && (nat_le new.first (stream_at o spec.first).latest && may_read_second_in o spec.second old.second new.second)

-- The stream is an output of this spec, its latest version has read the versions `last`, and its next distillate may read these.
abbrev pub takes_reads_in : List Outlined → Option Spec → Option Reads → Reads → Bool
takes_reads_in o None last new = false
takes_reads_in o (Some spec) last new = may_read_in o spec (unwrap_or last (nothing_read spec)) new

-- The reason why a distillate commit of this stream, with these reads, may not follow.
abbrev pub distillate_refusal : List Outlined → ℕ → Change → Reads → Option Rejection
distillate_refusal o stream c new = first_some (
    when (nat_le (length o) stream) NoStream
    ∷ when (not (takes_reads_in o (stream_at o stream).spec (stream_at o stream).reads new)) NotWritable
    ∷ distillate_change_rejection c
    ∷ when (nat_le MAX_VERSIONS (stream_at o stream).latest) VersionLimit
    ∷ [])

-- The reason why a stream with this number, this spec and these reads of its latest version holds the versions of another stream before the
-- first: it is an output, and has read last one of them.
abbrev pub held_in : ℕ → ℕ → ℕ → Option Spec → Option Reads → Option Rejection
held_in stream first output None last = None
held_in stream first output (Some spec) last = held_at first output (least_read stream spec (unwrap_or last (nothing_read spec)))

-- The reason why the stream of this number holds versions of another stream before the first.
abbrev pub held_by_in : List Outlined → ℕ → ℕ → ℕ → Option Rejection
held_by_in o stream first output = held_in stream first output (stream_at o output).spec (stream_at o output).reads

-- For each of these streams, which are numbered from the given number on, the reason why it holds versions before the first.
abbrev pub held_in_all : ℕ → ℕ → ℕ → List Outlined → List (Option Rejection)
held_in_all stream first number [] = []
held_in_all stream first number (s ∷ more) = held_in stream first number s.spec s.reads ∷ held_in_all stream first (number + 1) more

-- The reason why the versions of this stream before the first may not be retired.
abbrev pub retire_refusal : List Outlined → ℕ → ℕ → Option Rejection
retire_refusal o stream first = first_some (
    when (nat_le (length o) stream) NoStream
    ∷ when (nat_le first (stream_at o stream).earliest || nat_lt (stream_at o stream).latest first)
    (BadFirst first (stream_at o stream).earliest (stream_at o stream).latest)
    ∷ held_in_all stream first 0 o)

-- The reason why an entry may not follow a history with this outline, if the outline shows one.
abbrev pub refusal : List Outlined → Entry → Option Rejection
refusal o (Create id) = create_refusal o id
refusal o (Define id spec) = define_refusal o id spec
refusal o (Commit stream cut added) = commit_refusal o stream (record { cut = cut; added = added })
refusal o (Distillate stream cut added new) = distillate_refusal o stream (record { cut = cut; added = added }) new
refusal o (Retire stream first) = retire_refusal o stream first

-- ---- why an entry may not follow, by the points

-- The reason why the version that a commit makes may not hold its points. An entry that makes no version adds no points.
abbrev pub points_refusal : List Entry → Entry → Option Rejection
points_refusal h (Create id) = None
points_refusal h (Define id spec) = None
points_refusal h (Commit stream cut added) = points_rejection (next_bag h stream (record { cut = cut; added = added }))
points_refusal h (Distillate stream cut added new) = points_rejection (next_bag h stream (record { cut = cut; added = added }))
points_refusal h (Retire stream first) = None

-- ---- both

-- The entry may follow the history: neither its outline nor the points show a reason why not.
pub record MayFollow (h : List Entry) (e : Entry) : Type 0 where
  pub outline : refusal (outline_of h) e ≡ None
  pub points : points_refusal h e ≡ None
