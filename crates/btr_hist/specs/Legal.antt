-- The entries that may follow a history, and legal histories.
use Rattle.std.specs.Prelude.{◌≡◌, ℕ, ◌+◌, ◌^◌, min, max, Bool, true, false, not, ◌&&◌, ◌||◌, nat_eq, nat_lt, nat_le, ◌==◌}
use Rattle.std.specs.Prelude.{List, [], ◌∷◌, length, take, slice_get, if◌then◌else◌, Option, Some, None}
use Rattle.std.specs.List.{list_any, find}
use Rattle.std.specs.Option.{option_map}
use Rattle.btr_base.specs.declared.point.Point.{Point}
use Rattle.btr_base.specs.Point.{in_domain}
use Rattle.btr_hist.specs.declared.entry.Entry.{Entry}
use Rattle.btr_hist.specs.declared.entry.Entry.TheVariants.{Create, Commit, Define, Distillate, Retire}
use Rattle.btr_hist.specs.declared.kernel.Spec.{Spec}
use Rattle.btr_hist.specs.declared.kernel.Reads.{Reads}
use Rattle.btr_hist.specs.declared.rejection.Rejection.{Rejection}
use Rattle.btr_hist.specs.declared.rejection.Rejection.TheVariants.{NoStream, StreamExists, NotWritable, OutOfDomain, Empty, TooMany}
use Rattle.btr_hist.specs.declared.rejection.Rejection.TheVariants.{StreamLimit, VersionLimit, BadSpec, BadFirst, Held}
use Rattle.btr_hist.specs.declared.rejection.Rejection.TheVariants.{Crowded, TooManyPoints}
use Rattle.btr_base.specs.declared.limits.TheConstants.{MAX_STREAMS, MAX_VERSIONS, MAX_POINTS, MAX_COMMIT_POINTS, MAX_COMMIT_RANGES}
use Rattle.btr_base.specs.Commit.{Change, after}
use Rattle.btr_base.specs.Crowded.{crowded}
use Rattle.btr_hist.specs.Kernel.{is_good}
use Rattle.btr_hist.specs.Distil.{distillate}
use Rattle.btr_hist.specs.History.{ids, kinds, spec_of, is_output, latest, bag, reads, inputs_at, earliest}

-- The first that there is.
abbrev pub first_some : {A : Type 0} → List (Option A) → Option A
first_some [] = None
first_some (None ∷ os) = first_some os
first_some (Some a ∷ os) = Some a

-- The rejection, if the test holds.
abbrev pub when : Bool → Rejection → Option Rejection
when b r = if b then Some r else None

-- The first point outside the domain. Of points in order it has the least such time.
abbrev pub first_out_of_domain : List Point → Option Point
first_out_of_domain b = find (λ p. not (in_domain p.time)) b

-- The points of the latest version after one more commit.
abbrev pub next_bag : List Entry → ℕ → Change → List Point
next_bag h stream c = after (bag h stream (latest h stream)) c

-- The reason why a stream with this id may not be created after h.
abbrev pub create_rejection : List Entry → ℕ → Option Rejection
create_rejection h id = first_some (
    when (list_any (nat_eq id) (ids h)) StreamExists
    ∷ when (nat_le MAX_STREAMS (length (ids h))) StreamLimit
    ∷ [])

-- The reason why a commit of these ranges and points is not allowed, whatever the stream holds.
abbrev pub change_rejection : Change → Option Rejection
change_rejection c = first_some (
    option_map (λ p. OutOfDomain p.time) (first_out_of_domain c.added)
    ∷ when (length c.cut == 0 && length c.added == 0) Empty
    ∷ when (nat_lt MAX_COMMIT_RANGES (length c.cut) || nat_lt MAX_COMMIT_POINTS (length c.added))
    (TooMany (max (length c.cut) (length c.added)))
    ∷ [])

-- The reason why a version may not hold these points.
abbrev pub points_rejection : List Point → Option Rejection
points_rejection b = first_some (
    option_map (λ start. Crowded start) (crowded b)
    ∷ when (nat_lt MAX_POINTS (length b)) (TooManyPoints (length b))
    ∷ [])

-- A stream with this number exists.
abbrev pub is_stream : List Entry → ℕ → Bool
is_stream h stream = nat_lt stream (length (ids h))

-- The second input, if there is one, is a stream.
abbrev pub second_is_stream : List Entry → Option ℕ → Bool
second_is_stream h None = true
second_is_stream h (Some stream) = is_stream h stream

-- The inputs of a spec are streams.
abbrev pub has_inputs : List Entry → Spec → Bool
has_inputs h spec = is_stream h spec.first && second_is_stream h spec.second

-- The reason why an output with this id and spec may not be created after h.
abbrev pub define_rejection : List Entry → ℕ → Spec → Option Rejection
define_rejection h id spec = first_some (
    when (not (has_inputs h spec)) NoStream
    ∷ when (list_any (nat_eq id) (ids h)) StreamExists
    ∷ when (nat_le MAX_STREAMS (length (ids h))) StreamLimit
    ∷ when (not (is_good spec)) BadSpec
    ∷ [])

-- The reason why a stream has no next version with this change, if all other tests pass.
abbrev pub version_rejection : List Entry → ℕ → Change → Option Rejection
version_rejection h stream c = first_some (
    when (nat_le MAX_VERSIONS (latest h stream)) VersionLimit
    ∷ points_rejection (next_bag h stream c)
    ∷ [])

-- The reason why a user's commit of this stream may not follow h.
abbrev pub commit_rejection : List Entry → ℕ → Change → Option Rejection
commit_rejection h stream c = first_some (
    when (nat_le (length (ids h)) stream) NoStream
    ∷ when (is_output h stream) NotWritable
    ∷ change_rejection c
    ∷ when (nat_le MAX_VERSIONS (latest h stream)) VersionLimit
    ∷ points_rejection (next_bag h stream c)
    ∷ [])

-- A version of a second input may be read: there is one exactly if there is a second input, it is not before the one that was
-- read last, and the input has it.
abbrev pub may_read_second : List Entry → Option ℕ → Option ℕ → Option ℕ → Bool
may_read_second h None None None = true
may_read_second h (Some s) (Some old) (Some new) = nat_le old new && nat_le new (latest h s)
may_read_second h s old new = false

-- A distillate may read these versions of the inputs, if the last one read the old ones.
abbrev pub may_read : List Entry → Spec → Reads → Reads → Bool
may_read h spec old new =
    nat_le old.first new.first && (nat_le new.first (latest h spec.first) && may_read_second h spec.second old.second new.second)

-- The stream is an output of this spec, and its next distillate may read these versions.
abbrev pub takes_reads : List Entry → ℕ → Option Spec → Reads → Bool
takes_reads h stream None new = false
takes_reads h stream (Some spec) new = may_read h spec (reads h stream spec (latest h stream)) new

-- The reason why a distillate of these ranges and points may not follow, whatever the stream holds.
abbrev pub distillate_change_rejection : Change → Option Rejection
distillate_change_rejection c = first_some (
    option_map (λ p. OutOfDomain p.time) (first_out_of_domain c.added)
    ∷ when (nat_lt (2 ^ 34) (length c.cut)) (TooMany (length c.cut))
    ∷ [])

-- The reason why a distillate commit of this stream, with these reads, may not follow h, whatever the kernel is. A legal history
-- gives but one for the distillate of the definition: `VersionLimit`.
abbrev pub distillate_rejection : List Entry → ℕ → Change → Reads → Option Rejection
distillate_rejection h stream c new = first_some (
    when (nat_le (length (ids h)) stream) NoStream
    ∷ when (not (takes_reads h stream (spec_of h stream) new)) NotWritable
    ∷ distillate_change_rejection c
    ∷ when (nat_le MAX_VERSIONS (latest h stream)) VersionLimit
    ∷ points_rejection (next_bag h stream c)
    ∷ [])

-- The version that was read of an input, if there is one and the input is the stream.
abbrev pub read_from : ℕ → Option ℕ → Option ℕ → Option ℕ
read_from stream (Some s) (Some version) = if s == stream then Some version else None
read_from stream s version = None

-- The lesser of two numbers, or the one that is there, if there is one.
abbrev pub lesser : Option ℕ → Option ℕ → Option ℕ
lesser None b = b
lesser (Some a) None = Some a
lesser (Some a) (Some b) = Some (min a b)

-- The version of a stream among those that an output of this spec has read, if the stream is an input: the lesser one, if it is both
-- inputs.
abbrev pub least_read : ℕ → Spec → Reads → Option ℕ
least_read stream spec r = lesser (read_from stream (Some spec.first) (Some r.first)) (read_from stream spec.second r.second)

-- The reason why an output that has read this version of a stream, if any, holds the versions of the stream before the first.
abbrev pub held_at : ℕ → ℕ → Option ℕ → Option Rejection
held_at first output None = None
held_at first output (Some version) = when (nat_lt version first) (Held output version)

-- The reason why a stream of this kind holds the versions of another stream before the first: it is an output, and has read last
-- one of them.
abbrev pub held_by : List Entry → ℕ → ℕ → ℕ → Option Spec → Option Rejection
held_by h stream first output None = None
held_by h stream first output (Some spec) = held_at first output (least_read stream spec (reads h output spec (latest h output)))

-- For each stream of these kinds, which are numbered from the given number on, the reason why it holds versions before the first.
abbrev pub held_from : List Entry → ℕ → ℕ → ℕ → List (Option Spec) → List (Option Rejection)
held_from h stream first number [] = []
held_from h stream first number (kind ∷ more) = held_by h stream first number kind ∷ held_from h stream first (number + 1) more

-- The reason why the versions of a stream before the first may not be retired after h.
abbrev pub retire_rejection : List Entry → ℕ → ℕ → Option Rejection
retire_rejection h stream first = first_some (
    when (nat_le (length (ids h)) stream) NoStream
    ∷ when (nat_le first (earliest h stream) || nat_lt (latest h stream) first) (BadFirst first (earliest h stream) (latest h stream))
    ∷ held_from h stream first 0 (kinds h))

-- The reason why an entry may not follow h, if there is one.
abbrev pub rejection : List Entry → Entry → Option Rejection
rejection h (Create id) = create_rejection h id
rejection h (Define id spec) = define_rejection h id spec
rejection h (Commit stream cut added) = commit_rejection h stream (record { cut = cut; added = added })
rejection h (Distillate stream cut added new) = distillate_rejection h stream (record { cut = cut; added = added }) new
rejection h (Retire stream first) = retire_rejection h stream first

-- The commit is the distillate that brings the output from the versions read last to these.
pub record IsDistillate (h : List Entry) (stream : ℕ) (c : Change) (new : Reads) : Type 0 where
  pub spec : Spec
  pub output : spec_of h stream ≡ Some spec
  pub change : c ≡ distillate spec (inputs_at h spec (reads h stream spec (latest h stream))) (inputs_at h spec new)

-- An entry is what it must be beside what its rejection tests: the cut and the points of a distillate are the definition's.
abbrev pub IsComputed : List Entry → Entry → Type 0
IsComputed h (Create id) = Unit {0}
IsComputed h (Define id spec) = Unit {0}
IsComputed h (Commit stream cut added) = Unit {0}
IsComputed h (Distillate stream cut added new) = IsDistillate h stream (record { cut = cut; added = added }) new
IsComputed h (Retire stream first) = Unit {0}

-- The entry is allowed after h.
pub record Allowed (h : List Entry) (e : Entry) : Type 0 where
  pub accepted : rejection h e ≡ None
  pub computed : IsComputed h e

-- Each entry is allowed after those before it.
abbrev pub Legal : List Entry → Type 0
Legal h = (n : ℕ) (e : Entry) → slice_get h n ≡ Some e → Allowed (take n h) e

-- Each entry is accepted after those before it: the history is legal, except that its distillates may have other cuts and points
-- than the definition gives. An opening tests this much; to test the rest would cost as much as all distilling.
abbrev pub Follows : List Entry → Type 0
Follows h = (n : ℕ) (e : Entry) → slice_get h n ≡ Some e → rejection (take n h) e ≡ None
