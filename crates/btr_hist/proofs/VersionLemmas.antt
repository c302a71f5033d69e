-- Lemmas on the streams, versions and reads of a history that grows, and on one that has one more entry.
use Rattle.std.specs.Prelude.{◌≡◌, ℕ, ◌+◌, ◌-◌, ◌<◌, ◌≤◌, ◌⊎◌, List, [], ◌∷◌, ◌++◌, length, take, get_or, slice_get, Option, Some, None}
use Rattle.std.specs.List.{cons_option}
use Rattle.std.specs.Option.{option_map, unwrap_or}
use Rattle.std.proofs.Common.{zero, suc, refl, sym, ap, ◌∙◌, arith, inl, inr, subst}
use Rattle.std.proofs.lemmas.List.{append-nil, length-append, take_all, take_more, get_or-append_right, get_or_past, get_or_push}
use Rattle.std.proofs.lemmas.Bool.{cases_lt}
use Rattle.std.proofs.lemmas.Option.{slice_get-get_or}
use Rattle.btr_base.specs.declared.point.Point.{Point}
use Rattle.btr_base.specs.Commit.{Change, after}
use Rattle.btr_hist.specs.declared.entry.Entry.{Entry}
use Rattle.btr_hist.specs.declared.kernel.Spec.{Spec}
use Rattle.btr_hist.specs.declared.kernel.Reads.{Reads}
use Rattle.btr_hist.specs.History.{new_kind, change_of, read_of, ids, kinds, spec_of, commits, latest, replay, bag, recorded, read_by, reads}
use Rattle.btr_hist.specs.Legal.{next_bag}
use Rattle.btr_hist.proofs.HistoryLemmas.{kinds-append, commits-append, recorded-append, latest-append, bag-append, length-kinds, streams-append}
use Rattle.btr_hist.proofs.HistoryLemmas.{spec_of-append, length-recorded, read_by-append, replay-append, bag-latest}

-- ---- a list from its end

-- What holds of no elements, and of each front with one more element, holds of the whole list.
front-each : {X : Type 0} (P : List X → Type 0) (xs : List X) → P [] → ((n : ℕ) (x : X) → slice_get xs n ≡ Some x → P (take n xs) → P (take n xs ++ x ∷ [])) → (n : ℕ) → n ≤ length xs → P (take n xs)
front-each P xs none more zero low = none
front-each P [] none more (suc n) low = none
front-each P (x ∷ xs) none more (suc n) low =
    let one : n + 1 ≡ suc n = omega arith in
    let all = x ∷ xs in
    let next = take_more all n x (omega arith) in
    subst (λ (k : ℕ). P (take k all)) one (subst P (sym next) (more n (get_or all n x) (slice_get-get_or all n x (omega arith)) (front-each P all none more n (omega arith))))

pub from_end : {X : Type 0} (P : List X → Type 0) (xs : List X) → P [] → ((n : ℕ) (x : X) → slice_get xs n ≡ Some x → P (take n xs) → P (take n xs ++ x ∷ [])) → P xs
from_end P xs none more =
    subst P (take_all (length xs) xs (omega arith)) (front-each P xs none more (length xs) (omega arith))

-- ---- a history and what follows it

pub ids-more : (h more : List Entry) → length (ids h) ≤ length (ids (h ++ more))
ids-more h more = omega (arith, streams-append h more)

pub latest-more : (h more : List Entry) (stream : ℕ) → latest h stream ≤ latest (h ++ more) stream
latest-more h more stream = omega (arith, latest-append h more stream)

-- An output is a stream.
pub spec_of-known : (h : List Entry) (stream : ℕ) (spec : Spec) → spec_of h stream ≡ Some spec → stream < length (ids h)
spec_of-known h stream spec output =
    elim (cases_lt stream (length (ids h))) [
      | inl low ↦ low
      | inr high ↦
          let none : spec_of h stream ≡ None = get_or_past (kinds h) stream None (omega (arith, length-kinds h)) in
          absurd (cc)
    ]

-- An output stays one.
pub spec_of-stays : (h more : List Entry) (stream : ℕ) (spec : Spec) → spec_of h stream ≡ Some spec → spec_of (h ++ more) stream ≡ Some spec
spec_of-stays h more stream spec output = spec_of-append h more stream (spec_of-known h stream spec output) ∙ output

-- What a version stands for never changes.
pub reads-append : (h more : List Entry) (stream : ℕ) (spec : Spec) (version : ℕ) → version ≤ latest h stream → reads (h ++ more) stream spec version ≡ reads h stream spec version
reads-append h more stream spec version old =
    ap (λ (o : Option Reads). unwrap_or o (record { first = 0; second = option_map (λ s. 0) spec.second })) (read_by-append h more stream version old)

-- ---- a history with one more entry

-- The only kind of a list of one or none.
only_kind : (o : Option (Option Spec)) (k : ℕ) (spec : Spec) → get_or (cons_option o []) k None ≡ Some spec → o ≡ Some (Some spec)
only_kind None k spec at = absurd (cc)
only_kind (Some a) zero spec at = ap Some at
only_kind (Some a) (suc k) spec at = absurd (cc)

-- An output of the longer history is one of the shorter, or the entry makes it.
pub kind-push : (h : List Entry) (e : Entry) (stream : ℕ) (spec : Spec) → spec_of (h ++ e ∷ []) stream ≡ Some spec → (spec_of h stream ≡ Some spec) ⊎ ((length (ids h) ≤ stream) × (new_kind e ≡ Some (Some spec)))
kind-push h e stream spec output =
    elim (cases_lt stream (length (ids h))) [
      | inl low ↦ inl (sym (spec_of-append h (e ∷ []) stream low) ∙ output)
      | inr high ↦
          let all = kinds-append h (e ∷ []) in
          let last = get_or-append_right (kinds h) (kinds (e ∷ [])) (length (ids h)) stream None (length-kinds h) high in
          inr (high, only_kind (new_kind e) (stream - length (ids h)) spec (sym last ∙ sym (ap (λ (l : List (Option Spec)). get_or l stream None) all) ∙ output))
    ]

-- An entry that is a commit of the stream makes one version.
pub latest-push : (h : List Entry) (e : Entry) (stream : ℕ) (c : Change) → change_of stream e ≡ Some c → latest (h ++ e ∷ []) stream ≡ suc (latest h stream)
latest-push h e stream c is =
    let one : latest (e ∷ []) stream ≡ 1 = ap (λ (o : Option Change). length (cons_option o [])) is in
    omega (arith, latest-append h (e ∷ []) stream)

-- An entry that is no commit of the stream makes none.
pub latest-silent : (h : List Entry) (e : Entry) (stream : ℕ) → change_of stream e ≡ None → latest (h ++ e ∷ []) stream ≡ latest h stream
latest-silent h e stream is =
    let none : latest (e ∷ []) stream ≡ 0 = ap (λ (o : Option Change). length (cons_option o [])) is in
    omega (arith, latest-append h (e ∷ []) stream)

pub commits-push : (h : List Entry) (e : Entry) (stream : ℕ) (o : Option Change) → change_of stream e ≡ o → commits (h ++ e ∷ []) stream ≡ commits h stream ++ cons_option o []
commits-push h e stream o is =
    commits-append h (e ∷ []) stream ∙ ap (λ (x : Option Change). commits h stream ++ cons_option x []) is

-- The points after the commit of a stream, at its new version and all numbers after that.
pub bag-push : (h : List Entry) (e : Entry) (stream version : ℕ) (c : Change) → change_of stream e ≡ Some c → latest h stream < version → bag (h ++ e ∷ []) stream version ≡ next_bag h stream c
bag-push h e stream version c is new =
    let all = commits-push h e stream (Some c) is in
    let long = length-append (commits h stream) (c ∷ []) in
    ap (λ (l : List Change). replay [] (take version l)) all
    ∙ ap (replay []) (take_all version (commits h stream ++ c ∷ []) (omega arith))
    ∙ replay-append [] (commits h stream) (c ∷ [])
    ∙ ap (λ (b : List Point). after b c) (sym (bag-latest h stream))

-- What holds of the points of each version, and of those after the entry, holds of the points of each version with it.
pub each_bag-push : (P : List Point → Type 0) (h : List Entry) (e : Entry) (stream : ℕ) → ((version : ℕ) → P (bag h stream version)) → ((c : Change) → change_of stream e ≡ Some c → P (next_bag h stream c)) → (version : ℕ) → P (bag (h ++ e ∷ []) stream version)
each_bag-push P h e stream old next version = go (change_of stream e) refl
  where
    go : (o : Option Change) → change_of stream e ≡ o → P (bag (h ++ e ∷ []) stream version)
    go None is =
        let same = commits-push h e stream None is ∙ append-nil (commits h stream) in
        subst P (sym (ap (λ (l : List Change). replay [] (take version l)) same)) (old version)
    go (Some c) is =
        elim (cases_lt (latest h stream) version) [
          | inl new ↦ subst P (sym (bag-push h e stream version c is new)) (next c is)
          | inr low ↦ subst P (sym (bag-append h (e ∷ []) stream version low)) (old version)
        ]

-- What holds of each version, and of the one that the entry makes, holds of each version with it.
pub each_version-push : (P : ℕ → Type 0) (h : List Entry) (e : Entry) (stream : ℕ) → ((version : ℕ) → version ≤ latest h stream → P version) → ((c : Change) → change_of stream e ≡ Some c → P (suc (latest h stream))) → (version : ℕ) → version ≤ latest (h ++ e ∷ []) stream → P version
each_version-push P h e stream old next version low = go (change_of stream e) refl
  where
    go : (o : Option Change) → change_of stream e ≡ o → P version
    go None is = old version (omega (arith, latest-silent h e stream is))
    go (Some c) is =
        elim (cases_lt (latest h stream) version) [
          | inl new ↦
              let last : suc (latest h stream) ≡ version = omega (arith, latest-push h e stream c is) in
              subst P last (next c is)
          | inr before ↦ old version before
        ]

-- What the new version has read.
pub read_by-push : (h : List Entry) (e : Entry) (stream : ℕ) (r : Option Reads) → read_of stream e ≡ Some r → read_by (h ++ e ∷ []) stream (suc (latest h stream)) ≡ r
read_by-push h e stream r is =
    let all = recorded-append h (e ∷ []) stream ∙ ap (λ (o : Option (Option Reads)). recorded h stream ++ cons_option o []) is in
    ap (λ (l : List (Option Reads)). get_or l (latest h stream) None) all
    ∙ get_or_push (recorded h stream) r None (latest h stream) (length-recorded h stream)
