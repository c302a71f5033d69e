-- Histories: their streams, the points of each version of a stream, what each version of an output was computed from, and the
-- first version of a stream that is not retired.
use Rattle.std.specs.Prelude.{ℕ, Bool, nat_eq, ◌==◌, List, [], ◌∷◌, length, take, slice_index_or, if◌then◌else◌}
use Rattle.std.specs.Prelude.{Option, Some, None}
use Rattle.std.specs.List.{position_from, filter_map}
use Rattle.std.specs.Option.{option_map, unwrap_or, is_some}
use Rattle.btr_base.specs.declared.point.Point.{Point}
use Rattle.btr_base.specs.Commit.{Change, after}
use Rattle.btr_hist.specs.declared.entry.Entry.{Entry}
use Rattle.btr_hist.specs.declared.entry.Entry.TheVariants.{Create, Commit, Define, Distillate, Retire}
use Rattle.btr_hist.specs.declared.kernel.Spec.{Spec}
use Rattle.btr_hist.specs.declared.kernel.Reads.{Reads}
use Rattle.btr_hist.specs.Distil.{Inputs}

-- The id of the stream that an entry makes, if it makes one.
abbrev pub new_id : Entry → Option ℕ
new_id (Create id) = Some id
new_id (Define id spec) = Some id
new_id (Commit s cut added) = None
new_id (Distillate s cut added reads) = None
new_id (Retire s first) = None

-- The kind of the stream that an entry makes, if it makes one: the spec of an output, none of a plain stream.
abbrev pub new_kind : Entry → Option (Option Spec)
new_kind (Create id) = Some None
new_kind (Define id spec) = Some (Some spec)
new_kind (Commit s cut added) = None
new_kind (Distillate s cut added reads) = None
new_kind (Retire s first) = None

-- What an entry does to the points of a stream, if it is a commit of the stream.
abbrev pub change_of : ℕ → Entry → Option Change
change_of stream (Create id) = None
change_of stream (Define id spec) = None
change_of stream (Commit s cut added) = if s == stream then Some (record { cut = cut; added = added }) else None
change_of stream (Distillate s cut added reads) = if s == stream then Some (record { cut = cut; added = added }) else None
change_of stream (Retire s first) = None

-- The versions that an entry has read, if it is a commit of the stream: none of a user's commit.
abbrev pub read_of : ℕ → Entry → Option (Option Reads)
read_of stream (Create id) = None
read_of stream (Define id spec) = None
read_of stream (Commit s cut added) = if s == stream then Some None else None
read_of stream (Distillate s cut added reads) = if s == stream then Some (Some reads) else None
read_of stream (Retire s first) = None

-- The ids of the streams. A stream's number is its index in this list.
abbrev pub ids : List Entry → List ℕ
ids h = filter_map new_id h

-- The number of the first stream with this id. A legal history has one at most.
abbrev pub stream_of : List Entry → ℕ → Option ℕ
stream_of h id = position_from (nat_eq id) 0 (ids h)

-- The kinds of the streams, in the order of their numbers.
abbrev pub kinds : List Entry → List (Option Spec)
kinds h = filter_map new_kind h

-- The spec of an output. There is none of a plain stream.
abbrev pub spec_of : List Entry → ℕ → Option Spec
spec_of h stream = slice_index_or (kinds h) stream None

-- The stream is an output.
abbrev pub is_output : List Entry → ℕ → Bool
is_output h stream = is_some (spec_of h stream)

-- The commits of a stream, in order.
abbrev pub commits : List Entry → ℕ → List Change
commits h stream = filter_map (change_of stream) h

-- The latest version of a stream. Each commit makes one.
abbrev pub latest : List Entry → ℕ → ℕ
latest h stream = length (commits h stream)

-- The points after some commits, the first of them first.
abbrev pub replay : List Point → List Change → List Point
replay b [] = b
replay b (c ∷ cs) = replay (after b c) cs

-- The points of a version n: those after the first n commits.
abbrev pub bag : List Entry → ℕ → ℕ → List Point
bag h stream version = replay [] (take version (commits h stream))

-- The versions that the commits of a stream have read, in order: none of a user's commit.
abbrev pub recorded : List Entry → ℕ → List (Option Reads)
recorded h stream = filter_map (read_of stream) h

-- The versions that a version of a stream has read: those of its last commit. Version 0 has read none.
abbrev pub read_by : List Entry → ℕ → ℕ → Option Reads
read_by h stream version = slice_index_or (None ∷ recorded h stream) version None

-- Version 0 of each input.
abbrev pub nothing_read : Spec → Reads
nothing_read spec = record { first = 0; second = option_map (λ s. 0) spec.second }

-- The versions of the inputs that a version of an output stands for: what it has read, or version 0 of each.
abbrev pub reads : List Entry → ℕ → Spec → ℕ → Reads
reads h stream spec version = unwrap_or (read_by h stream version) (nothing_read spec)

-- The latest version of each input.
abbrev pub latest_reads : List Entry → Spec → Reads
latest_reads h spec = record { first = latest h spec.first; second = option_map (λ s. latest h s) spec.second }

-- The points of a second input, if there is one, at a version.
abbrev pub second_points : List Entry → Option ℕ → Option ℕ → List Point
second_points h (Some s) (Some version) = bag h s version
second_points h s version = []

-- The points of the inputs of a distiller at these versions.
abbrev pub inputs_at : List Entry → Spec → Reads → Inputs
inputs_at h spec r = record { first = bag h spec.first r.first; second = second_points h spec.second r.second }

-- The first version that an entry leaves, if it retires the versions of the stream before that one.
abbrev pub first_of : ℕ → Entry → Option ℕ
first_of stream (Create id) = None
first_of stream (Define id spec) = None
first_of stream (Commit s cut added) = None
first_of stream (Distillate s cut added reads) = None
first_of stream (Retire s first) = if s == stream then Some first else None

-- The last of some numbers, or n if there are none.
abbrev pub last_or : ℕ → List ℕ → ℕ
last_or n [] = n
last_or n (m ∷ ms) = last_or m ms

-- The first version of a stream that is not retired: that of its last retirement, or 0 if there is none.
abbrev pub earliest : List Entry → ℕ → ℕ
earliest h stream = last_or 0 (filter_map (first_of stream) h)
