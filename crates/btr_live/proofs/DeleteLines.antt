-- Lines that remove the points of a range: what they ask for, and why an entry of theirs may not follow.
use Rattle.std.specs.Prelude.{◌≡◌, ℕ, ℤ, Bool, true, false, cond, nat_le, nat_lt, length, List, [], ◌∷◌, Option, None, Some}
use Rattle.std.specs.Option.{option_map}
use Rattle.std.proofs.Common.{refl, ap, ◌∙◌, arith}
use Rattle.std.proofs.lemmas.Bool.{lt-leb}
use Rattle.std.proofs.lemmas.Int.{ints}
use Rattle.btr_base.specs.declared.point.Point.{Point}
use Rattle.btr_base.specs.declared.limits.TheConstants.{MAX_VERSIONS, MAX_POINTS}
use Rattle.btr_base.specs.Crowded.{crowded}
use Rattle.btr_base.specs.Range.{RangeValue, IsRange}
use Rattle.btr_disk.specs.declared.disk.Disk.{Ghosts}
use Rattle.btr_hist.specs.declared.entry.Entry.{Entry}
use Rattle.btr_hist.specs.declared.entry.Entry.TheVariants as entries
use Rattle.btr_hist.specs.declared.rejection.Rejection.{Rejection}
use Rattle.btr_hist.specs.declared.rejection.Rejection.TheVariants.{NoStream, NotWritable, VersionLimit, Crowded, TooManyPoints}
use Rattle.btr_hist.specs.History.{ids, latest, stream_of, is_output}
use Rattle.btr_hist.specs.Legal.{first_some, when, next_bag, rejection}
use Rattle.btr_hist.specs.Answer.{is_range}
use Rattle.btr_text.specs.declared.reply.Reason.TheVariants as reasons
use Rattle.btr_engine.specs.declared.engine.Engine.{Engine}
use Rattle.btr_engine.specs.Engine.{IsEngineOf}
use Rattle.btr_streams.specs.Stage.{MayLackMemory}
use Rattle.btr_engine.proofs.EngineLemmas.{known_below, few_versions_of}
use Rattle.btr_live.specs.Meaning.{Commits, Refuses, on_stream, delete}

range-true : (from to : ℤ) → IsRange (record { from = from; to = to }) → is_range from to ≡ true
range-true from to h =
    let a = h.begins in
    let b = h.not_empty in
    let c = h.ends in
    grind (arith, ints)

-- the removal of a range from a stream that is there
pub delete-there : (found : Option ℕ) (stream : ℕ) (from to : ℤ) → found ≡ Some stream → IsRange (record { from = from; to = to }) → on_stream found (λ s. delete s from to) ≡ Commits (entries.Commit stream (record { from = from; to = to } ∷ []) [])
delete-there found stream from to is range =
    ap (λ o. on_stream o (λ s. delete s from to)) is
    ∙ ap (λ t. cond t (Commits (entries.Commit stream (record { from = from; to = to } ∷ []) [])) (Refuses reasons.Range)) (range-true from to range)

range-is : (from to : ℤ) → is_range from to ≡ true → IsRange (record { from = from; to = to })
range-is from to is = record {
  begins = grind (arith, ints, is);
  not_empty = grind (arith, ints, is);
  ends = grind (arith, ints, is);
}

-- bounds that are not those of a range
pub delete-nowhere : (found : Option ℕ) (stream : ℕ) (from to : ℤ) → found ≡ Some stream → (IsRange (record { from = from; to = to }) → false ≡ true) → on_stream found (λ s. delete s from to) ≡ Refuses reasons.Range
delete-nowhere found stream from to is none =
    let no : is_range from to ≡ false =
    elim (is_range from to) as (λ t. is_range from to ≡ t → t ≡ false) [ true ↦ λ e. absurd (let no = none (range-is from to e) in cc) | false ↦ λ e. refl ] refl in
    ap (λ o. on_stream o (λ s. delete s from to)) is
    ∙ ap (λ t. cond t (Commits (entries.Commit stream (record { from = from; to = to } ∷ []) [])) (Refuses reasons.Range)) no

-- what a commit is tested for that removes ranges and adds no points
abbrev tests : Bool → Bool → Bool → Bool → Option ℤ → ℕ → Option Rejection
tests unknown output late many start count =
    first_some (when unknown NoStream ∷ when output NotWritable ∷ None ∷ when late VersionLimit ∷ first_some (option_map (λ s. Crowded s) start ∷ when many (TooManyPoints count) ∷ []) ∷ [])

tested : (unknown output late many : Bool) (start : Option ℤ) (count : ℕ) → unknown ≡ false → output ≡ false → late ≡ false → MayLackMemory (tests unknown output late many start count)
tested true output late many start count e f g = absurd (cc)
tested false true late many start count e f g = absurd (cc)
tested false false true many start count e f g = absurd (cc)
tested false false false many (Some s) count e f g = tt
tested false false false true None count e f g = tt
tested false false false false None count e f g = tt

refused : (unknown output late many : Bool) (start : Option ℤ) (count : ℕ) → unknown ≡ false → output ≡ true → tests unknown output late many start count ≡ Some NotWritable
refused true output late many start count e f = absurd (cc)
refused false true late many start count e f = refl
refused false false late many start count e f = absurd (cc)

-- nothing that is tested before memory is taken refuses the removal of a range from a plain stream that is there
pub delete-lacks : {D : Type 0} {disk : Ghosts D} (h : List Entry) (e : Engine D disk) (id stream : ℕ) (range : RangeValue) → IsEngineOf h e → stream_of h id ≡ Some stream → is_output h stream ≡ false → MayLackMemory (rejection h (entries.Commit stream (range ∷ []) []))
delete-lacks h e id stream range of is plain =
    let points : List Point = next_bag h stream (record { cut = range ∷ []; added = [] }) in
    tested (nat_le (length (ids h)) stream) (is_output h stream) (nat_le MAX_VERSIONS (latest h stream)) (nat_lt MAX_POINTS (length points)) (crowded points) (length points)
    (lt-leb (length (ids h)) stream (known_below h id stream is))
    plain
    (lt-leb MAX_VERSIONS (latest h stream) (few_versions_of h e of stream))

-- the removal of a range from an output is refused
pub delete-output : (h : List Entry) (id stream : ℕ) (range : RangeValue) → stream_of h id ≡ Some stream → is_output h stream ≡ true → rejection h (entries.Commit stream (range ∷ []) []) ≡ Some NotWritable
delete-output h id stream range is output =
    let points : List Point = next_bag h stream (record { cut = range ∷ []; added = [] }) in
    refused (nat_le (length (ids h)) stream) (is_output h stream) (nat_le MAX_VERSIONS (latest h stream)) (nat_lt MAX_POINTS (length points)) (crowded points) (length points)
    (lt-leb (length (ids h)) stream (known_below h id stream is)) output
