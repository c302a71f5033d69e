-- A board that has the streams of a history, whatever its trees are: when it is that of the history, and that the outline of its roll is
-- that of the history.
use Rattle.std.specs.Prelude.{◌≡◌, ℕ, ◌+◌, ◌-◌, ◌<◌, ◌≤◌, nat_le, nat_lt, true, false, cond, List, [], ◌∷◌, length, map, slice_get, slice_index_or, Option, Some, None, IsNone}
use Rattle.std.specs.Option.{option_map, unwrap_or}
use Rattle.std.proofs.Common.{suc, refl, sym, ap, ◌∙◌, arith, subst, inl, inr}
use Rattle.std.proofs.lemmas.List.{length-map, ext_get_or}
use Rattle.std.proofs.lemmas.Option.{slice_get_within, slice_get-get_or, slice_get-map, get_or_from_slice_get}
use Rattle.std.proofs.lemmas.Bool.{cases_lt, le-leb, lt-leb, lt-ltb}
use Rattle.std.proofs.lemmas.Bool.Decides.{nat_tests}
use Rattle.btr_base.specs.declared.limits.TheConstants.{MAX_VERSIONS}
use Rattle.btr_hist.specs.declared.entry.Entry.{Entry}
use Rattle.btr_hist.specs.declared.kernel.Spec.{Spec}
use Rattle.btr_hist.specs.declared.kernel.Reads.{Reads}
use Rattle.btr_hist.specs.declared.rejection.Rejection.{Rejection}
use Rattle.btr_hist.specs.declared.rejection.Rejection.TheVariants.{VersionLimit}
use Rattle.btr_hist.specs.History.{ids, spec_of, latest, read_by}
use Rattle.btr_hist.specs.Legal.{when, create_rejection, define_rejection, retire_rejection, takes_reads, Follows}
use Rattle.btr_hist.proofs.HistoryLemmas.{unknown}
use Rattle.btr_streams.specs.Board.{Versions, Kept, HasTrees, IsStreamOf, IsBoardOf, HasStreamOf, HasStreamsOf, latest_of, ids_of}
use Rattle.btr_streams.specs.Rolling.{kept_stream, rolled}
use Rattle.btr_streams.specs.Outline.{Outlined, outlined, outline_from, outline_of, outlined_in_roll, outline_in, stream_at, takes_reads_in}
use Rattle.btr_streams.specs.Outline.{create_refusal, define_refusal, retire_refusal, refusal}
use Rattle.btr_streams.proofs.BoardStreamLemmas.{unknown-earliest}
use Rattle.btr_streams.proofs.OutlineLemmas.{IsOutlineOf, outline-of, takes-here, create-same, define-same, retire-same}
use Rattle.btr_streams.proofs.RolledOutline.{latest-rolled, reads-rolled, at-rolled}

-- A stream that is not refused for the number of its versions may have one more.
pub room-if : (count : ℕ) → IsNone (when (nat_lt MAX_VERSIONS count) VersionLimit) → count ≤ MAX_VERSIONS
room-if count none = elim (cases_lt MAX_VERSIONS count) [
  | inl more ↦
      let full : IsNone (Some VersionLimit) = subst (λ t. IsNone (when t VersionLimit)) (lt-ltb MAX_VERSIONS count more) none in
      absurd (cc)
  | inr few ↦ few
]

-- ---- boards of a history

pub has-stream : (h : List Entry) (s : ℕ) (v : Versions) → IsStreamOf h s v → HasStreamOf h s v
has-stream h s v is =
    record { named = is.named; defined = is.defined; counted = is.kept.counted; read = is.read; numbered = is.numbered; retired = is.retired }

-- The board of a history has its streams.
pub has-streams : (h : List Entry) (b : Kept) → IsBoardOf h b → HasStreamsOf h b
has-streams h b of = record {
  counted = of.counted;
  each = λ s d low. has-stream h s (slice_index_or b.streams s d) (of.each s d low);
  entries = of.entries;
  beyond = λ s past. unknown h s of.follows past;
  unretired = λ s past. unknown-earliest h s of.follows past;
}

-- A board that has the streams of a history, and the trees of their commits, is that of the history, if each entry follows those
-- before it.
pub is-board : (h : List Entry) (b : Kept) → HasStreamsOf h b → ((s : ℕ) (d : Versions) → s < length (ids h) → HasTrees h s (slice_index_or b.streams s d).trees) → Follows h → IsBoardOf h b
is-board h b has trees follows = record {
  counted = has.counted;
  each = λ s d low. let is = has.each s d low in record { named = is.named; defined = is.defined; kept = trees s d low; read = is.read; numbered = is.numbered; retired = is.retired };
  entries = has.entries;
  follows = follows;
}

module _ (h : List Entry) (b : Kept) (has : HasStreamsOf h b) where
  -- The stream at a place is one of the history.
  pub stream-of : (s : ℕ) (kept : Versions) → slice_get b.streams s ≡ Some kept → (s < length (ids h)) × HasStreamOf h s kept
  stream-of s kept at =
      let there : s < length (ids h) = omega (arith, slice_get_within b.streams s kept at, has.counted) in
      (there, subst (HasStreamOf h s) (get_or_from_slice_get b.streams s kept kept at) (has.each s kept there))

  -- The ids of the streams are those of the history.
  pub ids-of : ids_of b.streams ≡ ids h
  ids-of =
      let name : Versions → ℕ = λ s. s.id in
      let d : Versions = record { id = 0; spec = None; trees = []; reads = []; numbers = []; earliest = 0 } in
      let size : length (ids_of b.streams) ≡ length b.streams = length-map b.streams name in
      ext_get_or 0 (ids_of b.streams) (ids h) (size ∙ has.counted) (λ i low.
      let kept = slice_index_or b.streams i d in
      let at : slice_get b.streams i ≡ Some kept = slice_get-get_or b.streams i d (omega (arith, low, size)) in
      get_or_from_slice_get (ids_of b.streams) i kept.id 0 (slice_get-map name b.streams i ∙ ap (option_map name) at)
      ∙ sym (get_or_from_slice_get (ids h) i kept.id 0 (has.each i d (omega (arith, low, size, has.counted))).named))

  -- The outline of the history shows what it has.
  pub outline-kept : IsOutlineOf h (outline_of h)
  outline-kept = outline-of h has.beyond has.unretired

  module _ (s : ℕ) where
    pub latest-beyond : length b.streams ≤ s → latest_of h s ≡ None
    latest-beyond past = ap (λ t. cond t None (Some (latest h s))) (le-leb (length (ids h)) s (omega (arith, has.counted, past)))

    pub latest-there : (kept : Versions) → slice_get b.streams s ≡ Some kept → latest_of h s ≡ Some (length kept.trees - 1)
    latest-there kept at =
        let is = stream-of s kept at in
        let counted = is.1.counted in
        let last : latest h s ≡ length kept.trees - 1 = omega arith in
        ap (λ t. cond t None (Some (latest h s))) (lt-leb (length (ids h)) s is.0) ∙ ap (λ (n : ℕ). Some n) last

    -- The latest version of a stream, 0 if there is none.
    pub latest-or : latest h s ≡ unwrap_or (latest_of h s) 0
    latest-or = elim (nat_le (length (ids h)) s) as (λ t. nat_le (length (ids h)) s ≡ t → latest h s ≡ unwrap_or (cond t None (Some (latest h s))) 0) [
      | true ↦ λ test. let past : length (ids h) ≤ s = grind (arith, nat_tests) in has.beyond s past
      | false ↦ λ _. refl
    ] refl

-- ---- the outline of the board's roll

stream-outlined : (h : List Entry) (stream : ℕ) (s : Versions) → HasStreamOf h stream s → outlined_in_roll (kept_stream s) ≡ outlined h stream s.id
stream-outlined h stream s is =
    let counted = is.counted in
    let last : length s.trees - 1 ≡ latest h stream = omega arith in
    let defined = sym is.defined in
    let retired = is.retired in
    let version = latest-rolled s ∙ last in
    let read = reads-rolled s ∙ sym (is.read.each (length s.trees - 1)) ∙ ap (read_by h stream) last in
    λ i. record { id = s.id; spec = defined i; latest = version i; reads = read i; earliest = retired i }

streams-outlined : (h : List Entry) (n : ℕ) (xs : List ℕ) (ss : List Versions) → length ss ≡ length xs → ((i : ℕ) (s : Versions) → slice_get ss i ≡ Some s → (outlined_in_roll (kept_stream s) ≡ outlined h (n + i) s.id) × (slice_get xs i ≡ Some s.id)) → outline_in (map kept_stream ss) ≡ outline_from h n xs
streams-outlined h n [] [] long each = refl
streams-outlined h n [] (s ∷ ss) long each = absurd (omega arith)
streams-outlined h n (x ∷ xs) [] long each = absurd (omega arith)
streams-outlined h n (x ∷ xs) (s ∷ ss) long each =
    let here : n + 0 ≡ n = omega arith in
    let first = each 0 s refl in
    let named : s.id ≡ x = let same : Some x ≡ Some s.id = first.1 in cc in
    let head : outlined_in_roll (kept_stream s) ≡ outlined h n x = first.0 ∙ ap (λ k. outlined h k s.id) here ∙ ap (outlined h n) named in
    let step : (i : ℕ) → n + suc i ≡ (n + 1) + i = λ i. omega arith in
    let rest = streams-outlined h (n + 1) xs ss (omega arith) (λ i v at. let is = each (suc i) v at in (is.0 ∙ ap (λ k. outlined h k v.id) (step i), is.1)) in
    λ i. head i ∷ rest i

-- The outline of a board's roll is that of the history whose streams the board has.
pub rolled-outline : (h : List Entry) (b : Kept) → HasStreamsOf h b → outline_in (rolled b) ≡ outline_of h
rolled-outline h b has =
    streams-outlined h 0 (ids h) b.streams has.counted (λ i s at.
    let is = stream-of h b has i s at in
    let place : i ≡ 0 + i = omega arith in
    (stream-outlined h i s is.1 ∙ ap (λ (k : ℕ). outlined h k s.id) place, is.1.named))

-- What is refused by the outline of the roll is refused by that of the history.
pub refusal-of : (h : List Entry) (b : Kept) → HasStreamsOf h b → (e : Entry) (found : Option Rejection) → found ≡ refusal (outline_in (rolled b)) e → found ≡ refusal (outline_of h) e
refusal-of h b has e found is = is ∙ ap (λ o. refusal o e) (rolled-outline h b has)

-- A stream may not be created after the history for the reason that the outline of the roll shows.
pub create-of : (h : List Entry) (b : Kept) → HasStreamsOf h b → (id : ℕ) → create_refusal (outline_in (rolled b)) id ≡ create_rejection h id
create-of h b has id =
    ap (λ o. create_refusal o id) (rolled-outline h b has) ∙ sym (create-same h (outline_of h) (outline-kept h b has) id)

pub define-of : (h : List Entry) (b : Kept) → HasStreamsOf h b → (id : ℕ) (spec : Spec) → define_refusal (outline_in (rolled b)) id spec ≡ define_rejection h id spec
define-of h b has id spec =
    ap (λ o. define_refusal o id spec) (rolled-outline h b has) ∙ sym (define-same h (outline_of h) (outline-kept h b has) id spec)

pub retire-of : (h : List Entry) (b : Kept) → HasStreamsOf h b → (s first : ℕ) → retire_refusal (outline_in (rolled b)) s first ≡ retire_rejection h s first
retire-of h b has s first =
    ap (λ o. retire_refusal o s first) (rolled-outline h b has) ∙ sym (retire-same h (outline_of h) (outline-kept h b has) s first)

-- A distillate may have the reads after the history that it may have by the outline of the roll.
pub takes-of : (h : List Entry) (b : Kept) → HasStreamsOf h b → (s : ℕ) (kept : Versions) → slice_get b.streams s ≡ Some kept → (new : Reads) → takes_reads_in (outline_in (rolled b)) kept.spec (outlined_in_roll (kept_stream kept)).reads new ≡ takes_reads h s (spec_of h s) new
takes-of h b has s kept at new =
    ap (λ (x : Outlined). takes_reads_in (outline_in (rolled b)) x.spec x.reads new) (sym (at-rolled b s kept at))
    ∙ ap (λ o. takes_reads_in o (stream_at o s).spec (stream_at o s).reads new) (rolled-outline h b has)
    ∙ sym (takes-here h (outline_of h) (outline-kept h b has) s new)
