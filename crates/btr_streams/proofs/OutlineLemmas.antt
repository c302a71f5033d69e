-- The outline of a history shows what the history has, and the same reasons why an entry is rejected.
use Rattle.std.specs.Prelude.{◌≡◌, ℕ, zero, ◌+◌, ◌<◌, ◌≤◌, ◌&&◌, ◌||◌, nat_eq, nat_le, nat_lt, not, Bool, List, [], ◌∷◌, ◌++◌, length, get_or, Option, Some, None}
use Rattle.std.specs.List.{list_any}
use Rattle.std.specs.Option.{unwrap_or, is_some}
use Rattle.std.proofs.Common.{suc, refl, sym, ◌∙◌, ap, arith, inl, inr}
use Rattle.std.proofs.lemmas.List.{get_or_past}
use Rattle.std.proofs.lemmas.Bool.{cases_lt}
use Rattle.btr_base.specs.declared.limits.TheConstants.{MAX_STREAMS, MAX_VERSIONS}
use Rattle.btr_base.specs.Commit.{Change}
use Rattle.btr_hist.specs.declared.entry.Entry.{Entry}
use Rattle.btr_hist.specs.declared.entry.Entry.TheVariants.{Create, Commit, Define, Distillate, Retire}
use Rattle.btr_hist.specs.declared.kernel.Spec.{Spec}
use Rattle.btr_hist.specs.declared.kernel.Reads.{Reads}
use Rattle.btr_hist.specs.declared.rejection.Rejection.TheVariants.{NoStream, StreamExists, NotWritable, StreamLimit, VersionLimit, BadSpec, BadFirst}
use Rattle.btr_hist.specs.Kernel.{is_good}
use Rattle.btr_hist.specs.History.{ids, kinds, spec_of, latest, read_by, nothing_read, reads, earliest}
use Rattle.btr_hist.specs.Legal.{first_some, when, next_bag, change_rejection, distillate_change_rejection, points_rejection}
use Rattle.btr_hist.specs.Legal.{least_read, held_at, held_by, held_from, retire_rejection}
use Rattle.btr_hist.specs.Legal.{create_rejection, define_rejection, commit_rejection, distillate_rejection, second_is_stream, may_read_second, may_read, takes_reads, rejection, Follows}
use Rattle.btr_hist.proofs.HistoryLemmas.{length-kinds, unknown}
use Rattle.btr_streams.specs.Outline.{Outlined, outlined, outline_from, outline_of, no_stream, stream_at, ids_in, second_is_stream_in, may_read_second_in, may_read_in, takes_reads_in}
use Rattle.btr_streams.specs.Outline.{create_refusal, define_refusal, commit_refusal, distillate_refusal, held_in, held_in_all, retire_refusal, refusal, points_refusal}
use Rattle.btr_streams.proofs.BoardStreamLemmas.{unknown-earliest}

-- ---- the outline of a history

length-outline : (h : List Entry) (stream : ℕ) (is : List ℕ) → length (outline_from h stream is) ≡ length is
length-outline h stream [] = refl
length-outline h stream (id ∷ is) = ap suc (length-outline h (stream + 1) is)

ids-outline : (h : List Entry) (stream : ℕ) (is : List ℕ) → ids_in (outline_from h stream is) ≡ is
ids-outline h stream [] = refl
ids-outline h stream (id ∷ is) = ap (λ l. id ∷ l) (ids-outline h (stream + 1) is)

-- The stream at a place.
at-outline : (h : List Entry) (stream : ℕ) (is : List ℕ) (n : ℕ) → n < length is → stream_at (outline_from h stream is) n ≡ outlined h (stream + n) (get_or is n 0)
at-outline h stream [] n low = absurd (omega (arith, low))
at-outline h stream (id ∷ is) zero low =
    let place : stream ≡ stream + 0 = omega arith in
    ap (λ s. outlined h s id) place
at-outline h stream (id ∷ is) (suc n) low =
    let place : stream + 1 + n ≡ stream + suc n = omega arith in
    at-outline h (stream + 1) is n (omega (arith, low)) ∙ ap (λ s. outlined h s (get_or is n 0)) place

-- The outline shows what the history has: its ids, and of each number the spec, the latest version, what that has read, and the first
-- version that is not retired.
pub record IsOutlineOf (h : List Entry) (o : List Outlined) : Type 0 where
  pub same_ids : ids_in o ≡ ids h
  pub counted : length o ≡ length (ids h)
  pub specs : (stream : ℕ) → (stream_at o stream).spec ≡ spec_of h stream
  pub versions : (stream : ℕ) → (stream_at o stream).latest ≡ latest h stream
  pub read : (stream : ℕ) → (stream_at o stream).reads ≡ read_by h stream (latest h stream)
  pub firsts : (stream : ℕ) → (stream_at o stream).earliest ≡ earliest h stream

-- No number beyond the streams has a version, or one that is retired.
pub outline-of : (h : List Entry) → ((stream : ℕ) → length (ids h) ≤ stream → latest h stream ≡ 0) → ((stream : ℕ) → length (ids h) ≤ stream → earliest h stream ≡ 0) → IsOutlineOf h (outline_of h)
outline-of h beyond unretired = record {
  same_ids = ids-outline h 0 (ids h);
  counted = length-outline h 0 (ids h);
  specs = λ stream. elim (cases_lt stream (length (ids h))) [
    | inl low ↦ ap (λ (s : Outlined). s.spec) (known stream low)
    | inr high ↦ ap (λ (s : Outlined). s.spec) (past stream high) ∙ sym (get_or_past (kinds h) stream None (omega (arith, length-kinds h, high)))
  ];
  versions = λ stream. elim (cases_lt stream (length (ids h))) [
    | inl low ↦ ap (λ (s : Outlined). s.latest) (known stream low)
    | inr high ↦ ap (λ (s : Outlined). s.latest) (past stream high) ∙ sym (beyond stream high)
  ];
  read = λ stream. elim (cases_lt stream (length (ids h))) [
    | inl low ↦ ap (λ (s : Outlined). s.reads) (known stream low)
    | inr high ↦ ap (λ (s : Outlined). s.reads) (past stream high) ∙ ap (λ n. read_by h stream n) (sym (beyond stream high))
  ];
  firsts = λ stream. elim (cases_lt stream (length (ids h))) [
    | inl low ↦ ap (λ (s : Outlined). s.earliest) (known stream low)
    | inr high ↦ ap (λ (s : Outlined). s.earliest) (past stream high) ∙ sym (unretired stream high)
  ];
}
  where
    known : (stream : ℕ) → stream < length (ids h) → stream_at (outline_of h) stream ≡ outlined h stream (get_or (ids h) stream 0)
    known stream low =
        let place : 0 + stream ≡ stream = omega arith in
        at-outline h 0 (ids h) stream low ∙ ap (λ s. outlined h s (get_or (ids h) stream 0)) place

    past : (stream : ℕ) → length (ids h) ≤ stream → stream_at (outline_of h) stream ≡ no_stream
    past stream high = get_or_past (outline_of h) stream no_stream (omega (arith, length-outline h 0 (ids h), high))

pub outline-is : (h : List Entry) → Follows h → IsOutlineOf h (outline_of h)
outline-is h follows = outline-of h (λ stream high. unknown h stream follows high) (λ stream high. unknown-earliest h stream follows high)

-- ---- the first of several reasons

-- The first of some reasons and one more: of these reasons first, and then the last.
first_some-push : {A : Type 0} (os : List (Option A)) (last : Option A) → first_some (os ++ last ∷ []) ≡ first_some (first_some os ∷ last ∷ [])
first_some-push [] last = refl
first_some-push (None ∷ os) last = first_some-push os last
first_some-push (Some a ∷ os) last = refl

first_some-only : {A : Type 0} (o : Option A) → o ≡ first_some (o ∷ None ∷ [])
first_some-only None = refl
first_some-only (Some a) = refl

-- There is no reason exactly if neither of two is there.
pub both-none : {A : Type 0} (o p : Option A) → o ≡ None → p ≡ None → first_some (o ∷ p ∷ []) ≡ None
both-none None None a b = refl
both-none None (Some x) a b = absurd (cc)
both-none (Some x) p a b = absurd (cc)

pub from-none : {A : Type 0} (o p : Option A) → first_some (o ∷ p ∷ []) ≡ None → (o ≡ None) × (p ≡ None)
from-none None None is = (refl, refl)
from-none None (Some x) is = absurd (cc)
from-none (Some x) p is = absurd (cc)

-- ---- the outline shows the same reasons

module _ (h : List Entry) (o : List Outlined) (is : IsOutlineOf h o) where
  second-same : (s old new : Option ℕ) → may_read_second h s old new ≡ may_read_second_in o s old new
  second-same None None None = refl
  second-same None None (Some n) = refl
  second-same None (Some m) None = refl
  second-same None (Some m) (Some n) = refl
  second-same (Some s) None None = refl
  second-same (Some s) None (Some n) = refl
  second-same (Some s) (Some m) None = refl
  second-same (Some s) (Some m) (Some n) = ap (λ v. nat_le m n && nat_le n v) (sym (is.versions s))

  may-same : (spec : Spec) (old new : Reads) → may_read h spec old new ≡ may_read_in o spec old new
  may-same spec old new =
      let there = sym (is.versions spec.first) in
      let second = second-same spec.second old.second new.second in
      λ i. nat_le old.first new.first && (nat_le new.first (there i) && second i)

  takes-same : (stream : ℕ) (spec : Option Spec) (new : Reads) → takes_reads h stream spec new ≡ takes_reads_in o spec (stream_at o stream).reads new
  takes-same stream None new = refl
  takes-same stream (Some spec) new =
      may-same spec (reads h stream spec (latest h stream)) new ∙ ap (λ (last : Option Reads). may_read_in o spec (unwrap_or last (nothing_read spec)) new) (sym (is.read stream))

  pub takes-here : (stream : ℕ) (new : Reads) → takes_reads h stream (spec_of h stream) new ≡ takes_reads_in o (stream_at o stream).spec (stream_at o stream).reads new
  takes-here stream new =
      takes-same stream (spec_of h stream) new ∙ ap (λ (spec : Option Spec). takes_reads_in o spec (stream_at o stream).reads new) (sym (is.specs stream))

  second_input-same : (s : Option ℕ) → second_is_stream h s ≡ second_is_stream_in o s
  second_input-same None = refl
  second_input-same (Some s) = ap (nat_lt s) (sym is.counted)

  pub create-same : (id : ℕ) → create_rejection h id ≡ create_refusal o id
  create-same id =
      let known = sym is.same_ids in
      let many = sym is.counted in
      λ i. first_some (when (list_any (nat_eq id) (known i)) StreamExists ∷ when (nat_le MAX_STREAMS (many i)) StreamLimit ∷ [])

  pub define-same : (id : ℕ) (spec : Spec) → define_rejection h id spec ≡ define_refusal o id spec
  define-same id spec =
      let known = sym is.same_ids in
      let many = sym is.counted in
      let second = second_input-same spec.second in
      λ i. first_some (
      when (not (nat_lt spec.first (many i) && second i)) NoStream
      ∷ when (list_any (nat_eq id) (known i)) StreamExists
      ∷ when (nat_le MAX_STREAMS (many i)) StreamLimit
      ∷ when (not (is_good spec)) BadSpec
      ∷ [])

  commit-same : (stream : ℕ) (c : Change) → commit_rejection h stream c ≡ first_some (commit_refusal o stream c ∷ points_rejection (next_bag h stream c) ∷ [])
  commit-same stream c =
      let many = sym is.counted in
      let spec = sym (is.specs stream) in
      let version = sym (is.versions stream) in
      let points = points_rejection (next_bag h stream c) in
      let causes = λ (n : ℕ) (kind : Option Spec) (v : ℕ).
      when (nat_le n stream) NoStream ∷ when (is_some kind) NotWritable ∷ change_rejection c ∷ when (nat_le MAX_VERSIONS v) VersionLimit ∷ [] in
      (λ i. first_some (causes (many i) (spec i) (version i) ++ points ∷ []))
      ∙ first_some-push (causes (length o) (stream_at o stream).spec (stream_at o stream).latest) points

  distillate-same : (stream : ℕ) (c : Change) (new : Reads) → distillate_rejection h stream c new ≡ first_some (distillate_refusal o stream c new ∷ points_rejection (next_bag h stream c) ∷ [])
  distillate-same stream c new =
      let many = sym is.counted in
      let takes = takes-here stream new in
      let version = sym (is.versions stream) in
      let points = points_rejection (next_bag h stream c) in
      let causes = λ (n : ℕ) (t : Bool) (v : ℕ).
      when (nat_le n stream) NoStream ∷ when (not t) NotWritable ∷ distillate_change_rejection c ∷ when (nat_le MAX_VERSIONS v) VersionLimit ∷ [] in
      (λ i. first_some (causes (many i) (takes i) (version i) ++ points ∷ []))
      ∙ first_some-push (causes (length o) (takes_reads_in o (stream_at o stream).spec (stream_at o stream).reads new) (stream_at o stream).latest) points

  -- A stream of the outline holds versions exactly if the stream of the history does.
  held-one : (s first n : ℕ) (k : Option Spec) (last : Option Reads) → read_by h n (latest h n) ≡ last → held_by h s first n k ≡ held_in s first n k last
  held-one s first n None last same = refl
  held-one s first n (Some spec) last same = ap (λ (r : Option Reads). held_at first n (least_read s spec (unwrap_or r (nothing_read spec)))) same

  held-same : (s first n : ℕ) (ks : List (Option Spec)) (os : List Outlined) → length ks ≡ length os → ((i : ℕ) → i < length os → (get_or ks i None ≡ (stream_at os i).spec) × (read_by h (n + i) (latest h (n + i)) ≡ (stream_at os i).reads)) → held_from h s first n ks ≡ held_in_all s first n os
  held-same s first n [] [] long each = refl
  held-same s first n [] (x ∷ os) long each = absurd (omega (arith, long))
  held-same s first n (k ∷ ks) [] long each = absurd (omega (arith, long))
  held-same s first n (k ∷ ks) (x ∷ os) long each =
      let here : n ≡ n + 0 = omega arith in
      let step : (i : ℕ) → (n + 1) + i ≡ n + suc i = λ i. omega arith in
      let one = each 0 (omega arith) in
      let head : held_by h s first n k ≡ held_in s first n x.spec x.reads =
      held-one s first n k x.reads (ap (λ m. read_by h m (latest h m)) here ∙ one.1) ∙ ap (λ (o : Option Spec). held_in s first n o x.reads) one.0 in
      let rest = held-same s first (n + 1) ks os (omega (arith, long)) (λ i low.
      let is_at = each (suc i) (omega (arith, low)) in
      (is_at.0, ap (λ m. read_by h m (latest h m)) (step i) ∙ is_at.1)) in
      λ i. head i ∷ rest i

  pub retire-same : (s first : ℕ) → retire_rejection h s first ≡ retire_refusal o s first
  retire-same s first =
      let many = sym is.counted in
      let earlier = sym (is.firsts s) in
      let version = sym (is.versions s) in
      let held = held-same s first 0 (kinds h) o (length-kinds h ∙ sym is.counted) (λ i low.
      let place : 0 + i ≡ i = omega arith in
      (sym (is.specs i), ap (λ m. read_by h m (latest h m)) place ∙ sym (is.read i))) in
      λ i. first_some (
      when (nat_le (many i) s) NoStream
      ∷ when (nat_le first (earlier i) || nat_lt (version i) first) (BadFirst first (earlier i) (version i))
      ∷ held i)

  -- An entry is rejected for the reason that the outline shows, or else for that of the points.
  pub rejection-by : (e : Entry) → rejection h e ≡ first_some (refusal o e ∷ points_refusal h e ∷ [])
  rejection-by (Create id) = create-same id ∙ first_some-only (create_refusal o id)
  rejection-by (Define id spec) = define-same id spec ∙ first_some-only (define_refusal o id spec)
  rejection-by (Commit stream cut added) = commit-same stream (record { cut = cut; added = added })
  rejection-by (Distillate stream cut added new) = distillate-same stream (record { cut = cut; added = added }) new
  rejection-by (Retire stream first) = retire-same stream first ∙ first_some-only (retire_refusal o stream first)
