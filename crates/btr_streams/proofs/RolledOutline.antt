-- What the outline of a board's roll shows of the board, and what the tests of a board find by it.
use Rattle.std.specs.Prelude.{◌≡◌, ℕ, ◌+◌, ◌-◌, ◌<◌, ◌≤◌, ◌⊎◌, nat_eq, nat_le, nat_lt, not, ◌||◌, Bool, true, false, List, [], ◌∷◌, length, map, drop, slice_get, Option, Some}
use Rattle.std.specs.List.{list_any}
use Rattle.std.specs.Option.{option_map, is_some, unwrap_or}
use Rattle.std.proofs.Common.{suc, refl, sym, ap, ◌∙◌, arith, inl, inr}
use Rattle.std.proofs.lemmas.List.{length-map}
use Rattle.std.proofs.lemmas.Option.{slice_get_within, slice_get-map, get_or_from_slice_get}
use Rattle.std.proofs.lemmas.Bool.{cases_lt, le-leb, lt-leb, lt-ltb, le-ltb}
use Rattle.btr_base.specs.Commit.{Change}
use Rattle.btr_base.specs.declared.limits.TheConstants.{MAX_STREAMS, MAX_VERSIONS}
use Rattle.btr_tree.specs.Root.{TreeValue}
use Rattle.btr_hist.specs.declared.kernel.Spec.{Spec}
use Rattle.btr_hist.specs.declared.kernel.Reads.{Reads}
use Rattle.btr_hist.specs.declared.rejection.Rejection.{Rejection}
use Rattle.btr_hist.specs.declared.rejection.Rejection.TheVariants.{NoStream, StreamExists, NotWritable, StreamLimit, VersionLimit, BadFirst}
use Rattle.btr_hist.specs.History.{nothing_read}
use Rattle.btr_hist.specs.Legal.{first_some, when, change_rejection, distillate_change_rejection}
use Rattle.btr_streams.specs.Board.{Versions, Kept, IsGrown, ids_of, reads_count, read_at}
use Rattle.btr_streams.specs.Rolling.{kept_versions, kept_stream, rolled}
use Rattle.btr_streams.specs.Outline.{Outlined, no_stream, stream_at, ids_in, last_read, outlined_in_roll, outline_in, takes_reads_in}
use Rattle.btr_streams.specs.Outline.{create_refusal, commit_refusal, distillate_refusal, held_in_all, retire_refusal}

-- ---- a stream

length-kept : (s : Versions) (version : ℕ) (ts : List TreeValue) → length (kept_versions s version ts) ≡ length ts
length-kept s version [] = refl
length-kept s version (t ∷ ts) = ap suc (length-kept s (version + 1) ts)

one-less : {X : Type 0} (xs : List X) → length (drop 1 xs) ≡ length xs - 1
one-less [] = refl
one-less (x ∷ xs) = omega arith

-- Its latest version is that of its last tree.
pub latest-rolled : (s : Versions) → (outlined_in_roll (kept_stream s)).latest ≡ length s.trees - 1
latest-rolled s = length-kept s 1 (drop 1 s.trees) ∙ one-less s.trees

last-kept : (s : Versions) (version : ℕ) (t : TreeValue) (ts : List TreeValue) → last_read (kept_versions s version (t ∷ ts)) ≡ read_at s.reads (version + length ts)
last-kept s version t [] =
    let here : version ≡ version + 0 = omega arith in
    ap (read_at s.reads) here
last-kept s version t (u ∷ ts) =
    let step : (version + 1) + length ts ≡ version + suc (length ts) = omega arith in
    last-kept s (version + 1) u ts ∙ ap (read_at s.reads) step

last-of : (s : Versions) (ts : List TreeValue) → last_read (kept_versions s 1 (drop 1 ts)) ≡ read_at s.reads (length ts - 1)
last-of s [] = refl
last-of s (t ∷ []) = refl
last-of s (t ∷ (u ∷ ts)) =
    let place : 1 + length ts ≡ length (t ∷ u ∷ ts) - 1 = omega arith in
    last-kept s 1 u ts ∙ ap (read_at s.reads) place

-- It has read what its latest version has read.
pub reads-rolled : (s : Versions) → (outlined_in_roll (kept_stream s)).reads ≡ read_at s.reads (length s.trees - 1)
reads-rolled s = last-of s s.trees

-- What the latest version of an output has read is the last of its reads, or version 0 of each input.
pub latest-reads : (s : Versions) (spec : Spec) → IsGrown s → s.spec ≡ Some spec → (count : ℕ) (found : Option Reads) → count ≡ length s.reads → found ≡ read_at s.reads count → unwrap_or (outlined_in_roll (kept_stream s)).reads (nothing_read spec) ≡ unwrap_or found (nothing_read spec)
latest-reads s spec grown output count found same is_found =
    let read = grown.read in
    let one_less : reads_count s.spec (length s.trees) ≡ length s.trees - 1 = ap (λ o. reads_count o (length s.trees)) output in
    let last : length s.trees - 1 ≡ count = omega arith in
    ap (λ o. unwrap_or o (nothing_read spec)) (reads-rolled s ∙ ap (read_at s.reads) last ∙ sym is_found)

-- ---- the streams

pub ids-rolled : (streams : List Versions) → ids_in (outline_in (map kept_stream streams)) ≡ ids_of streams
ids-rolled [] = refl
ids-rolled (s ∷ streams) = ap (λ l. s.id ∷ l) (ids-rolled streams)

-- A stream may not be created, for what its tests find.
pub creation-refused : (o : List Outlined) (id : ℕ) (has full : Bool) → list_any (nat_eq id) (ids_in o) ≡ has → nat_le MAX_STREAMS (length o) ≡ full → first_some (when has StreamExists ∷ when full StreamLimit ∷ []) ≡ create_refusal o id
creation-refused o id has full any limit =
    λ i. first_some (when (sym any i) StreamExists ∷ when (sym limit i) StreamLimit ∷ [])

module _ (b : Kept) where
  -- The outline.
  abbrev o : List Outlined
  o = outline_in (rolled b)

  pub length-rolled : length o ≡ length b.streams
  length-rolled = length-map (rolled b) outlined_in_roll ∙ length-map b.streams kept_stream

  module _ (s : ℕ) where
    -- ---- a number that is not that of a stream

    module _ (past : length b.streams ≤ s) where
      many : nat_le (length o) s ≡ true
      many = le-leb (length o) s (omega (arith, length-rolled, past))

      pub commit-unknown : (c : Change) → commit_refusal o s c ≡ Some NoStream
      commit-unknown c =
          let at = stream_at o s in
          ap (λ t. first_some (when t NoStream ∷ when (is_some at.spec) NotWritable ∷ change_rejection c ∷ when (nat_le MAX_VERSIONS at.latest) VersionLimit ∷ [])) many

      pub distillate-unknown : (c : Change) (new : Reads) → distillate_refusal o s c new ≡ Some NoStream
      distillate-unknown c new =
          let at = stream_at o s in
          ap (λ t. first_some (when t NoStream ∷ when (not (takes_reads_in o at.spec at.reads new)) NotWritable ∷ distillate_change_rejection c ∷ when (nat_le MAX_VERSIONS at.latest) VersionLimit ∷ [])) many

      pub retire-unknown : (first : ℕ) → retire_refusal o s first ≡ Some NoStream
      retire-unknown first =
          let at = stream_at o s in
          ap (λ t. first_some (when t NoStream ∷ when (nat_le first at.earliest || nat_lt at.latest first) (BadFirst first at.earliest at.latest) ∷ held_in_all s first 0 o)) many

    -- ---- a stream

    module _ (kept : Versions) (at : slice_get b.streams s ≡ Some kept) where
      pub at-rolled : stream_at o s ≡ outlined_in_roll (kept_stream kept)
      at-rolled =
          get_or_from_slice_get o s (outlined_in_roll (kept_stream kept)) no_stream
          (slice_get-map outlined_in_roll (rolled b) s ∙ ap (option_map outlined_in_roll) (slice_get-map kept_stream b.streams s ∙ ap (option_map kept_stream) at))

      pub latest-at : (stream_at o s).latest ≡ length kept.trees - 1
      latest-at = ap (λ (x : Outlined). x.latest) at-rolled ∙ latest-rolled kept

      known : nat_le (length o) s ≡ false
      known = lt-leb (length o) s (omega (arith, length-rolled, slice_get_within b.streams s kept at))

      limit : nat_le MAX_VERSIONS (stream_at o s).latest ≡ nat_lt MAX_VERSIONS (length kept.trees)
      limit =
          let last = latest-at in
          elim (cases_lt MAX_VERSIONS (length kept.trees)) [
            | inl more ↦ le-leb MAX_VERSIONS (stream_at o s).latest (omega arith) ∙ sym (lt-ltb MAX_VERSIONS (length kept.trees) more)
            | inr few ↦ lt-leb MAX_VERSIONS (stream_at o s).latest (omega arith) ∙ sym (le-ltb MAX_VERSIONS (length kept.trees) few)
          ]

      -- A user's commit is refused for what its tests find of the stream and of the change.
      pub commit-refused : (output : Bool) (found : Option Rejection) (c : Change) → is_some kept.spec ≡ output → change_rejection c ≡ found → commit_refusal o s c ≡ first_some (when output NotWritable ∷ found ∷ when (nat_lt MAX_VERSIONS (length kept.trees)) VersionLimit ∷ [])
      commit-refused output found c kind of_change =
          let is_kind : is_some (stream_at o s).spec ≡ output = ap (λ (x : Outlined). is_some x.spec) at-rolled ∙ kind in
          let there = known in
          let full = limit in
          λ i. first_some (when (there i) NoStream ∷ when (is_kind i) NotWritable ∷ of_change i ∷ when (full i) VersionLimit ∷ [])

      -- A distillate is refused for what its tests find of the stream, the reads and the change.
      pub distillate-refused : (taken : Bool) (found : Option Rejection) (c : Change) (new : Reads) → takes_reads_in o kept.spec (outlined_in_roll (kept_stream kept)).reads new ≡ taken → distillate_change_rejection c ≡ found → distillate_refusal o s c new ≡ first_some (when (not taken) NotWritable ∷ found ∷ when (nat_lt MAX_VERSIONS (length kept.trees)) VersionLimit ∷ [])
      distillate-refused taken found c new reads of_change =
          let takes : takes_reads_in o (stream_at o s).spec (stream_at o s).reads new ≡ taken = ap (λ (x : Outlined). takes_reads_in o x.spec x.reads new) at-rolled ∙ reads in
          let there = known in
          let full = limit in
          λ i. first_some (when (there i) NoStream ∷ when (not (takes i)) NotWritable ∷ of_change i ∷ when (full i) VersionLimit ∷ [])

      -- Versions may not be retired for what the tests find of the stream and of all streams.
      pub retire-refused : (first : ℕ) → retire_refusal o s first ≡ first_some (when (nat_le first kept.earliest || nat_lt (length kept.trees - 1) first) (BadFirst first kept.earliest (length kept.trees - 1)) ∷ held_in_all s first 0 o)
      retire-refused first =
          let there = known in
          let earlier : (stream_at o s).earliest ≡ kept.earliest = ap (λ (x : Outlined). x.earliest) at-rolled in
          let last = latest-at in
          λ i. first_some (when (there i) NoStream ∷ when (nat_le first (earlier i) || nat_lt (last i) first) (BadFirst first (earlier i) (last i)) ∷ held_in_all s first 0 o)

      module _ (first earlier latest : ℕ) (earlier_is : earlier ≡ kept.earliest) (latest_is : latest ≡ length kept.trees - 1) where
        abbrev after-tests : Bool → ℕ → ℕ → Option Rejection
        after-tests bad e l = first_some (when bad (BadFirst first e l) ∷ held_in_all s first 0 o)

        retire-tests : (bad : Bool) → (nat_le first earlier || nat_lt latest first) ≡ bad → after-tests bad earlier latest ≡ retire_refusal o s first
        retire-tests bad found =
            (λ i. after-tests (sym found i) earlier latest)
            ∙ (λ i. after-tests (nat_le first (earlier_is i) || nat_lt (latest_is i) first) (earlier_is i) (latest_is i))
            ∙ sym (retire-refused first)

        -- The version is not after the first one so far, or the stream does not have it.
        pub retire-bad : (first ≤ earlier) ⊎ (latest < first) → Some (BadFirst first earlier latest) ≡ retire_refusal o s first
        retire-bad (inl low) = retire-tests true (ap (λ t. t || nat_lt latest first) (le-leb first earlier low))
        retire-bad (inr high) =
            retire-tests true (elim (nat_le first earlier) as (λ t. (t || nat_lt latest first) ≡ true) [
              | true ↦ refl
              | false ↦ lt-ltb latest first high
            ])

        -- Else it is refused exactly if a stream holds one of the versions before it.
        pub retire-held : earlier < first → first ≤ latest → first_some (held_in_all s first 0 o) ≡ retire_refusal o s first
        retire-held later there =
            retire-tests false (ap (λ t. t || nat_lt latest first) (lt-leb first earlier later) ∙ le-ltb latest first there)
