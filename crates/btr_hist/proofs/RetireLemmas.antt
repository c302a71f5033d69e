-- Lemmas on retirements: the first version that is not retired in a history that grows, and what an accepted retirement says.
use Rattle.std.specs.Prelude.{◌≡◌, ℕ, ◌+◌, ◌<◌, ◌≤◌, ◌==◌, nat_le, nat_lt, min, Bool, ◌||◌, List, [], ◌∷◌, ◌++◌, length, take, get_or, cond, Option, Some, None}
use Rattle.std.specs.List.{filter_map, cons_option}
use Rattle.std.proofs.Common.{zero, suc, refl, ap, ◌∙◌, arith, subst}
use Rattle.std.proofs.lemmas.List.Elements.{filter_map-append}
use Rattle.std.proofs.lemmas.Bool.{leb-false, ltb-false, eqb-true, eq-eqb, or_parts}
use Rattle.std.proofs.lemmas.Option.{cond_some}
use Rattle.btr_hist.specs.declared.entry.Entry.{Entry}
use Rattle.btr_hist.specs.declared.entry.Entry.TheVariants.{Create, Commit, Define, Distillate, Retire}
use Rattle.btr_hist.specs.declared.kernel.Spec.{Spec}
use Rattle.btr_hist.specs.declared.kernel.Reads.{Reads}
use Rattle.btr_hist.specs.declared.rejection.Rejection.TheVariants.{NoStream, BadFirst, Held}
use Rattle.btr_hist.specs.History.{first_of, last_or, ids, kinds, spec_of, latest, reads, earliest}
use Rattle.btr_hist.specs.Legal.{first_some, when, read_from, lesser, least_read, held_at, held_by, held_from, rejection, Follows, Legal}
use Rattle.btr_hist.proofs.HistoryLemmas.{legal-follows}
use Rattle.btr_hist.proofs.RejectionLemmas.{first_none, rest_none, when_none}
use Rattle.btr_hist.proofs.VersionLemmas.{from_end, latest-more}

-- ---- a history and what follows it

last_or-append : (n : ℕ) (a b : List ℕ) → last_or n (a ++ b) ≡ last_or (last_or n a) b
last_or-append n [] b = refl
last_or-append n (m ∷ a) b = last_or-append m a b

pub earliest-append : (h more : List Entry) (stream : ℕ) → earliest (h ++ more) stream ≡ last_or (earliest h stream) (filter_map (first_of stream) more)
earliest-append h more stream =
    ap (last_or 0) (filter_map-append (first_of stream) h more) ∙ last_or-append 0 (filter_map (first_of stream) h) (filter_map (first_of stream) more)

-- An entry that retires versions of the stream.
pub earliest-push : (h : List Entry) (e : Entry) (stream first : ℕ) → first_of stream e ≡ Some first → earliest (h ++ e ∷ []) stream ≡ first
earliest-push h e stream first is =
    earliest-append h (e ∷ []) stream ∙ ap (λ (o : Option ℕ). last_or (earliest h stream) (cons_option o [])) is

-- An entry that retires no version of the stream.
pub earliest-silent : (h : List Entry) (e : Entry) (stream : ℕ) → first_of stream e ≡ None → earliest (h ++ e ∷ []) stream ≡ earliest h stream
earliest-silent h e stream is =
    earliest-append h (e ∷ []) stream ∙ ap (λ (o : Option ℕ). last_or (earliest h stream) (cons_option o [])) is

-- ---- what an accepted retirement says

-- The stream exists and has the version, which is after the first one so far, and no output holds a version before it.
pub record IsRetired (h : List Entry) (stream first : ℕ) : Type 0 where
  pub known : stream < length (ids h)
  pub later : earliest h stream < first
  pub there : first ≤ latest h stream
  pub free : first_some (held_from h stream first 0 (kinds h)) ≡ None

retire-accepted : (h : List Entry) (stream first : ℕ) → rejection h (Retire stream first) ≡ None → IsRetired h stream first
retire-accepted h stream first accepted =
    let low = nat_le first (earliest h stream) in
    let high = nat_lt (latest h stream) first in
    let unknown = when (nat_le (length (ids h)) stream) NoStream in
    let bad = when (low || high) (BadFirst first (earliest h stream) (latest h stream)) in
    let held = held_from h stream first 0 (kinds h) in
    let rest = rest_none unknown (bad ∷ held) accepted in
    let both = or_parts low high (when_none (low || high) _ (first_none bad held rest)) in
    record {
      known = leb-false (length (ids h)) stream (when_none (nat_le (length (ids h)) stream) NoStream (first_none unknown (bad ∷ held) accepted));
      later = leb-false first (earliest h stream) both.0;
      there = ltb-false (latest h stream) first both.1;
      free = rest_none bad held rest;
    }

-- An accepted entry that retires versions of a stream.
pub first-accepted : (h : List Entry) (e : Entry) (stream first : ℕ) → rejection h e ≡ None → first_of stream e ≡ Some first → IsRetired h stream first
first-accepted h (Create id) stream first accepted is = absurd (cc)
first-accepted h (Define id spec) stream first accepted is = absurd (cc)
first-accepted h (Commit s cut added) stream first accepted is = absurd (cc)
first-accepted h (Distillate s cut added reads) stream first accepted is = absurd (cc)
first-accepted h (Retire s f) stream first accepted is =
    let at = cond_some (s == stream) f first is in
    let same = eqb-true s stream at.0 in
    subst (λ x. IsRetired h stream x) at.1 (subst (λ t. IsRetired h t f) same (retire-accepted h s f accepted))

-- ---- what a stream that is not held says of an output

free-at : (h : List Entry) (stream first number : ℕ) (ks : List (Option Spec)) (k : ℕ) (spec : Spec) → first_some (held_from h stream first number ks) ≡ None → get_or ks k None ≡ Some spec → held_by h stream first (number + k) (Some spec) ≡ None
free-at h stream first number [] k spec free at = absurd (cc)
free-at h stream first number (kind ∷ more) zero spec free at =
    let same : number ≡ number + 0 = omega arith in
    let here = first_none (held_by h stream first number kind) (held_from h stream first (number + 1) more) free in
    subst (λ n. held_by h stream first n (Some spec) ≡ None) same (subst (λ (o : Option Spec). held_by h stream first number o ≡ None) at here)
free-at h stream first number (kind ∷ more) (suc k) spec free at =
    let same : (number + 1) + k ≡ number + suc k = omega arith in
    let rest = rest_none (held_by h stream first number kind) (held_from h stream first (number + 1) more) free in
    subst (λ n. held_by h stream first n (Some spec) ≡ None) same (free-at h stream first (number + 1) more k spec rest at)

-- No output holds a version before the first: the version that it has read last of the stream is none of these.
pub free-output : (h : List Entry) (stream first output : ℕ) (spec : Spec) → IsRetired h stream first → spec_of h output ≡ Some spec → held_at first output (least_read stream spec (reads h output spec (latest h output))) ≡ None
free-output h stream first output spec retired is =
    let same : 0 + output ≡ output = omega arith in
    subst (λ n. held_by h stream first n (Some spec) ≡ None) same (free-at h stream first 0 (kinds h) output spec retired.free is)

not-held : (first output version : ℕ) → held_at first output (Some version) ≡ None → first ≤ version
not-held first output version free = ltb-false version first (when_none (nat_lt version first) (Held output version) free)

itself : (s : ℕ) (o : Option ℕ) → cond (s == s) o None ≡ o
itself s o = ap {A = Bool} {B = Option ℕ} (λ t. cond t o None) (eq-eqb s s refl)

first-of-two : (first output version : ℕ) (o : Option ℕ) → held_at first output (lesser (Some version) o) ≡ None → first ≤ version
first-of-two first output version None free = not-held first output version free
first-of-two first output version (Some other) free =
    let both = not-held first output (min version other) free in
    omega arith

second-of-two : (first output version : ℕ) (o : Option ℕ) → held_at first output (lesser o (Some version)) ≡ None → first ≤ version
second-of-two first output version None free = not-held first output version free
second-of-two first output version (Some other) free =
    let both = not-held first output (min other version) free in
    omega arith

-- What an output has read last of its first input is not retired.
pub free-first : (first output : ℕ) (spec : Spec) (r : Reads) → held_at first output (least_read spec.first spec r) ≡ None → first ≤ r.first
free-first first output spec r free =
    first-of-two first output r.first (read_from spec.first spec.second r.second) (subst (λ (o : Option ℕ). held_at first output (lesser o (read_from spec.first spec.second r.second)) ≡ None) (itself spec.first (Some r.first)) free)

-- What an output has read last of its second input is not retired.
pub free-second : (first output stream version : ℕ) (spec : Spec) (r : Reads) → spec.second ≡ Some stream → r.second ≡ Some version → held_at first output (least_read stream spec r) ≡ None → first ≤ version
free-second first output stream version spec r input read free =
    let one = read_from stream (Some spec.first) (Some r.first) in
    let same : read_from stream spec.second r.second ≡ Some version = ap (λ (o : Option ℕ). read_from stream o r.second) input ∙ ap (read_from stream (Some stream)) read ∙ itself stream (Some version) in
    second-of-two first output version one (subst (λ (o : Option ℕ). held_at first output (lesser one o) ≡ None) same free)

-- ---- the latest version is not retired

abbrev IsPast : List Entry → Type 0
IsPast h = (stream : ℕ) → earliest h stream ≤ latest h stream

past-push : (h : List Entry) (e : Entry) → IsPast h → rejection h e ≡ None → IsPast (h ++ e ∷ [])
past-push h e past accepted stream = go (first_of stream e) refl
  where
    go : (o : Option ℕ) → first_of stream e ≡ o → earliest (h ++ e ∷ []) stream ≤ latest (h ++ e ∷ []) stream
    go None is =
        let old = past stream in
        omega (arith, latest-more h (e ∷ []) stream, earliest-silent h e stream is)
    go (Some first) is =
        let there = (first-accepted h e stream first accepted is).there in
        omega (arith, latest-more h (e ∷ []) stream, earliest-push h e stream first is)

pub follows-past : (h : List Entry) (stream : ℕ) → Follows h → earliest h stream ≤ latest h stream
follows-past h stream follows =
    from_end IsPast h (λ s. omega arith) (λ n e at past. past-push (take n h) e past (follows n e at)) stream

pub legal-past : (h : List Entry) (stream : ℕ) → Legal h → earliest h stream ≤ latest h stream
legal-past h stream legal = follows-past h stream (legal-follows h legal)
