-- Lemmas on entries that are offered one after another: what they change, and that a rejection depends on one stream alone.
use Rattle.std.specs.Prelude.{◌≡◌, ◌≢◌, ℕ, ◌+◌, ◌<◌, ◌≤◌, nat_le, Bool, List, [], ◌∷◌, ◌++◌, length, map, cond}
use Rattle.std.specs.Prelude.{Option, Some, None}
use Rattle.std.specs.List.{cons_option}
use Rattle.std.proofs.Common.{refl, sym, ap, ◌∙◌, arith, length-append}
use Rattle.std.proofs.lemmas.List.{append-nil}
use Rattle.std.proofs.lemmas.Bool.{lt-leb, ne_eqb}
use Rattle.btr_base.specs.declared.limits.TheConstants.{MAX_VERSIONS}
use Rattle.btr_base.specs.Bag.{sort}
use Rattle.btr_base.specs.Commit.{Change, after}
use Rattle.btr_hist.specs.declared.entry.Entry.{Entry}
use Rattle.btr_hist.specs.declared.rejection.Rejection.{Rejection}
use Rattle.btr_hist.specs.declared.rejection.Rejection.TheVariants.{NoStream, NotWritable, VersionLimit}
use Rattle.btr_hist.specs.History.{ids, kinds, commits, latest, bag, is_output, change_of, replay}
use Rattle.btr_hist.specs.Legal.{first_some, when, change_rejection, points_rejection, rejection}
use Rattle.btr_hist.specs.Machine.{committed}
use Rattle.btr_hist.proofs.HistoryLemmas.{ids-append, kinds-append, commits-append, streams-append, is_output-append, bag-latest}
use Rattle.btr_rows.specs.declared.row.NumberedPoint.{NumberedPoint}
use Rattle.btr_gate.specs.Prefixes.{StartsWith}
use Rattle.btr_gate.proofs.PrefixLemmas.{starts_refl, starts_trans}
use Rattle.btr_load.specs.Batches.{batch_entry}
use Rattle.btr_load.specs.Alike.{after_entry, after_entries}

-- ---- an entry that is offered

pub offered_none : (h : List Entry) (e : Entry) → rejection h e ≡ None → after_entry h e ≡ h ++ e ∷ []
offered_none h e is = ap (committed h e) is

pub offered_some : (h : List Entry) (e : Entry) (why : Rejection) → rejection h e ≡ Some why → after_entry h e ≡ h
offered_some h e why is = ap (committed h e) is

pub offered_starts : (h : List Entry) (e : Entry) → StartsWith (after_entry h e) h
offered_starts h e =
    elim (rejection h e) as (λ (o : Option Rejection). StartsWith (committed h e o) h) [
      | None ↦ (e ∷ [], refl)
      | Some why ↦ starts_refl h
    ]

-- ---- the batches of a stream

batch_other : (stream other : ℕ) (batch : List NumberedPoint) → (stream ≢ other) → change_of other (batch_entry stream batch) ≡ None
batch_other stream other batch ne =
    let c : Change = record { cut = []; added = sort (map (λ b. b.point) batch) } in
    ap {A = Bool} {B = Option Change} (λ t. cond t (Some c) None) (ne_eqb stream other ne)

offered_commits : (h : List Entry) (stream other : ℕ) (batch : List NumberedPoint) → (stream ≢ other) → commits (after_entry h (batch_entry stream batch)) other ≡ commits h other
offered_commits h stream other batch ne =
    let e = batch_entry stream batch in
    elim (rejection h e) as (λ (o : Option Rejection). commits (committed h e o) other ≡ commits h other) [
      | None ↦ commits-append h (e ∷ []) other ∙ ap (λ (o : Option Change). commits h other ++ cons_option o []) (batch_other stream other batch ne) ∙ append-nil (commits h other)
      | Some why ↦ refl
    ]

offered_ids : (h : List Entry) (stream : ℕ) (batch : List NumberedPoint) → ids (after_entry h (batch_entry stream batch)) ≡ ids h
offered_ids h stream batch =
    let e = batch_entry stream batch in
    elim (rejection h e) as (λ (o : Option Rejection). ids (committed h e o) ≡ ids h) [
      | None ↦ ids-append h (e ∷ []) ∙ append-nil (ids h)
      | Some why ↦ refl
    ]

offered_kinds : (h : List Entry) (stream : ℕ) (batch : List NumberedPoint) → kinds (after_entry h (batch_entry stream batch)) ≡ kinds h
offered_kinds h stream batch =
    let e = batch_entry stream batch in
    elim (rejection h e) as (λ (o : Option Rejection). kinds (committed h e o) ≡ kinds h) [
      | None ↦ kinds-append h (e ∷ []) ∙ append-nil (kinds h)
      | Some why ↦ refl
    ]

-- The batches of a stream, offered one after another.
abbrev pub offered : List Entry → ℕ → List (List NumberedPoint) → List Entry
offered h stream batches = after_entries h (map (batch_entry stream) batches)

pub all_starts : (h : List Entry) (stream : ℕ) (batches : List (List NumberedPoint)) → StartsWith (offered h stream batches) h
all_starts h stream [] = starts_refl h
all_starts h stream (batch ∷ batches) =
    let next = after_entry h (batch_entry stream batch) in
    starts_trans (offered next stream batches) next h (all_starts next stream batches) (offered_starts h (batch_entry stream batch))

pub all_commits : (h : List Entry) (stream other : ℕ) (batches : List (List NumberedPoint)) → (stream ≢ other) → commits (offered h stream batches) other ≡ commits h other
all_commits h stream other [] ne = refl
all_commits h stream other (batch ∷ batches) ne =
    all_commits (after_entry h (batch_entry stream batch)) stream other batches ne ∙ offered_commits h stream other batch ne

pub all_ids : (h : List Entry) (stream : ℕ) (batches : List (List NumberedPoint)) → ids (offered h stream batches) ≡ ids h
all_ids h stream [] = refl
all_ids h stream (batch ∷ batches) = all_ids (after_entry h (batch_entry stream batch)) stream batches ∙ offered_ids h stream batch

pub all_kinds : (h : List Entry) (stream : ℕ) (batches : List (List NumberedPoint)) → kinds (offered h stream batches) ≡ kinds h
all_kinds h stream [] = refl
all_kinds h stream (batch ∷ batches) = all_kinds (after_entry h (batch_entry stream batch)) stream batches ∙ offered_kinds h stream batch

-- ---- rejections

-- Whether a commit of a stream that is there is rejected depends on its commits alone, and on whether it is an output.
pub rejection_alike : (mid p q : List Entry) (stream : ℕ) (batch : List NumberedPoint) → StartsWith p mid → StartsWith q mid → stream < length (ids mid) → commits p stream ≡ commits q stream → rejection p (batch_entry stream batch) ≡ rejection q (batch_entry stream batch)
rejection_alike mid p q stream batch p_mid q_mid known same =
    let c : Change = record { cut = []; added = sort (map (λ b. b.point) batch) } in
    let p_long : length (ids p) ≡ length (ids mid) + length (ids p_mid.0) = ap (λ l. length (ids l)) p_mid.1 ∙ streams-append mid p_mid.0 in
    let q_long : length (ids q) ≡ length (ids mid) + length (ids q_mid.0) = ap (λ l. length (ids l)) q_mid.1 ∙ streams-append mid q_mid.0 in
    let there : nat_le (length (ids p)) stream ≡ nat_le (length (ids q)) stream =
    lt-leb (length (ids p)) stream (omega (arith, p_long, known)) ∙ sym (lt-leb (length (ids q)) stream (omega (arith, q_long, known))) in
    let kind : is_output p stream ≡ is_output q stream =
    ap (λ l. is_output l stream) p_mid.1 ∙ is_output-append mid p_mid.0 stream known
    ∙ sym (ap (λ l. is_output l stream) q_mid.1 ∙ is_output-append mid q_mid.0 stream known) in
    let versions : latest p stream ≡ latest q stream = ap (length {A = Change}) same in
    let points : bag p stream (latest p stream) ≡ bag q stream (latest q stream) =
    bag-latest p stream ∙ ap (replay []) same ∙ sym (bag-latest q stream) in
    λ i. first_some (
    when (there i) NoStream
    ∷ when (kind i) NotWritable
    ∷ change_rejection c
    ∷ when (nat_le MAX_VERSIONS (versions i)) VersionLimit
    ∷ points_rejection (after (points i) c)
    ∷ [])

-- ---- a history that has no more commits of a stream

pub nothing_left : {A : Type 0} (l : List A) → length l ≤ 0 → l ≡ []
nothing_left [] none = refl
nothing_left (x ∷ l) none = absurd (omega arith)

pub commits_same : (late early : List Entry) (stream : ℕ) → StartsWith late early → latest late stream ≤ latest early stream → commits late stream ≡ commits early stream
commits_same late early stream starts most =
    let all : commits late stream ≡ commits early stream ++ commits starts.0 stream =
    ap (λ l. commits l stream) starts.1 ∙ commits-append early starts.0 stream in
    let long = ap (length {A = Change}) all in
    let both = length-append (commits early stream) (commits starts.0 stream) in
    all ∙ ap (λ l. commits early stream ++ l) (nothing_left (commits starts.0 stream) (omega (arith, long, both, most))) ∙ append-nil (commits early stream)
