-- Lemmas on histories whose entries are each accepted: the points of each version, and what each output is and has read.
use Rattle.std.specs.Prelude.{◌≡◌, ℕ, ◌<◌, ◌≤◌, Bool, List, [], ◌∷◌, ◌++◌, length, take, cond, Option, Some, None}
use Rattle.std.specs.Option.{option_map, unwrap_or}
use Rattle.std.proofs.Common.{zero, suc, refl, sym, ap, ◌∙◌, arith, inl, inr, subst}
use Rattle.std.proofs.lemmas.Bool.{eq-eqb}
use Rattle.std.proofs.lemmas.List.{append-nil}
use Rattle.btr_base.specs.declared.limits.TheConstants.{MAX_POINTS}
use Rattle.btr_base.specs.Point.{InDomain, AreInDomain}
use Rattle.btr_base.specs.Commit.{Change}
use Rattle.btr_hist.specs.declared.entry.Entry.{Entry}
use Rattle.btr_hist.specs.declared.entry.Entry.TheVariants.{Distillate}
use Rattle.btr_hist.specs.declared.kernel.Spec.{Spec}
use Rattle.btr_hist.specs.declared.kernel.Reads.{Reads}
use Rattle.btr_hist.specs.History.{new_kind, change_of, read_of, ids, spec_of, commits, latest, bag, read_by, reads}
use Rattle.btr_hist.specs.Legal.{rejection, Legal, Follows}
use Rattle.btr_hist.proofs.HistoryLemmas.{read_by-append, each-after, legal-follows}
use Rattle.btr_hist.proofs.VersionLemmas.{from_end, ids-more, reads-append, kind-push, latest-silent}
use Rattle.btr_hist.proofs.VersionLemmas.{commits-push, each_bag-push, each_version-push, read_by-push}
use Rattle.btr_hist.proofs.ReadsLemmas.{AreThere, there-more, there-nothing, may_read-there}
use Rattle.btr_hist.proofs.AcceptedLemmas.{change-accepted, IsNext, output-next, IsDefined, new-defined, new-silent}

-- The spec of an output is good, and its inputs are streams. Each version has read versions that the inputs have, and each after
-- version 0 has read some.
pub record IsOutput (h : List Entry) (stream : ℕ) (spec : Spec) : Type 0 where
  pub defined : IsDefined h spec
  pub there : (version : ℕ) → version ≤ latest h stream → AreThere h spec (reads h stream spec version)
  pub has_read : (version : ℕ) → 0 < version → version ≤ latest h stream → (r : Reads) × (read_by h stream version ≡ Some r)

-- There are no commits of streams that do not exist, each version holds what it may hold, and each output is as above.
pub record IsSound (h : List Entry) : Type 0 where
  pub beyond : (stream : ℕ) → length (ids h) ≤ stream → commits h stream ≡ []
  pub in_domain : (stream version : ℕ) → AreInDomain (bag h stream version)
  pub bounded : (stream version : ℕ) → length (bag h stream version) ≤ MAX_POINTS
  pub outputs : (stream : ℕ) (spec : Spec) → spec_of h stream ≡ Some spec → IsOutput h stream spec

-- ---- one more entry

defined-more : (h more : List Entry) (spec : Spec) → IsDefined h spec → IsDefined (h ++ more) spec
defined-more h more spec is =
    let first = is.first in
    record {
      good = is.good;
      first = omega (arith, ids-more h more);
      second = λ s at. let second = is.second s at in omega (arith, ids-more h more);
    }

-- The versions that the next distillate of an output reads.
next-read : (h : List Entry) (e : Entry) (stream : ℕ) (spec : Spec) (c : Change) (n : IsNext h stream spec c e) → read_by (h ++ e ∷ []) stream (suc (latest h stream)) ≡ Some n.new
next-read h e stream spec c n =
    let here : read_of stream (Distillate stream c.cut c.added n.new) ≡ Some (Some n.new) = ap (λ (t : Bool). cond {A = Option (Option Reads)} t (Some (Some n.new)) None) (eq-eqb stream stream refl) in
    read_by-push h e stream (Some n.new) (ap (read_of stream) n.is ∙ here)

pub next-reads : (h : List Entry) (e : Entry) (stream : ℕ) (spec : Spec) (c : Change) (n : IsNext h stream spec c e) → reads (h ++ e ∷ []) stream spec (suc (latest h stream)) ≡ n.new
next-reads h e stream spec c n =
    ap (λ (o : Option Reads). unwrap_or o (record { first = 0; second = option_map (λ s. 0) spec.second })) (next-read h e stream spec c n)

output-stays : (h : List Entry) (e : Entry) (stream : ℕ) (spec : Spec) → rejection h e ≡ None → spec_of h stream ≡ Some spec → IsOutput h stream spec → IsOutput (h ++ e ∷ []) stream spec
output-stays h e stream spec accepted output is =
    let all = h ++ e ∷ [] in
    record {
      defined = defined-more h (e ∷ []) spec is.defined;
      there = each_version-push (λ v. AreThere all spec (reads all stream spec v)) h e stream (λ v old.
          subst (AreThere all spec) (sym (reads-append h (e ∷ []) stream spec v old)) (there-more h (e ∷ []) spec (reads h stream spec v) (is.there v old))) (λ c made.
          let n = output-next h e stream spec c accepted output made in
          subst (AreThere all spec) (sym (next-reads h e stream spec c n)) (there-more h (e ∷ []) spec n.new (may_read-there h spec (reads h stream spec (latest h stream)) n.new n.may)));
      has_read = λ version some low. each_version-push (λ v. 0 < v → (r : Reads) × (read_by all stream v ≡ Some r)) h e stream (λ v old more.
          let r = is.has_read v more old in
          (r.0, read_by-append h (e ∷ []) stream v old ∙ r.1)) (λ c made more.
          let n = output-next h e stream spec c accepted output made in
          (n.new, next-read h e stream spec c n)) version low some;
    }

output-new : (h : List Entry) (e : Entry) (stream : ℕ) (spec : Spec) → rejection h e ≡ None → new_kind e ≡ Some (Some spec) → commits h stream ≡ [] → IsOutput (h ++ e ∷ []) stream spec
output-new h e stream spec accepted new unused =
    let all = h ++ e ∷ [] in
    let none : latest h stream ≡ 0 = ap (length {A = Change}) unused in
    let silent = latest-silent h e stream (new-silent e stream (Some spec) new) in
    record {
      defined = defined-more h (e ∷ []) spec (new-defined h e spec accepted new);
      there = λ version low.
          let first : 0 ≡ version = omega arith in
          subst (λ v. AreThere all spec (reads all stream spec v)) first (there-nothing all spec);
      has_read = λ version some low. absurd (omega arith);
    }

-- An entry is no commit of a stream that does not exist.
unknown-silent : (h : List Entry) (e : Entry) (stream : ℕ) → rejection h e ≡ None → length (ids h) ≤ stream → change_of stream e ≡ None
unknown-silent h e stream accepted far = go (change_of stream e) refl
  where
    go : (o : Option Change) → change_of stream e ≡ o → change_of stream e ≡ None
    go None is = is
    go (Some c) is =
        let known = (change-accepted h e stream c accepted is).known in
        absurd (omega arith)

pub sound-push : (h : List Entry) (e : Entry) → IsSound h → rejection h e ≡ None → IsSound (h ++ e ∷ [])
sound-push h e sound accepted =
    let all = h ++ e ∷ [] in
    let more = ids-more h (e ∷ []) in
    record {
      beyond = λ stream far.
          let old = sound.beyond stream (omega arith) in
          commits-push h e stream None (unknown-silent h e stream accepted (omega arith)) ∙ append-nil (commits h stream) ∙ old;
      in_domain = λ stream. each_bag-push AreInDomain h e stream (sound.in_domain stream) (λ c is.
          each-after (λ p. InDomain p.time) (bag h stream (latest h stream)) c (sound.in_domain stream (latest h stream)) (change-accepted h e stream c accepted is).in_domain);
      bounded = λ stream. each_bag-push (λ b. length b ≤ MAX_POINTS) h e stream (sound.bounded stream) (λ c is.
          (change-accepted h e stream c accepted is).bounded);
      outputs = λ stream spec output. elim (kind-push h e stream spec output) [
        | inl old ↦ output-stays h e stream spec accepted old (sound.outputs stream spec old)
        | inr new ↦ output-new h e stream spec accepted new.1 (sound.beyond stream new.0)
      ];
    }

-- ---- all entries

pub sound-none : IsSound []
sound-none = record {
  beyond = λ stream far. refl;
  in_domain = λ stream version. subst AreInDomain (sym (none stream version)) tt;
  bounded = λ stream version. subst (λ b. length b ≤ MAX_POINTS) (sym (none stream version)) (omega arith);
  outputs = λ stream spec output. absurd (cc);
}
  where
    none : (stream version : ℕ) → bag [] stream version ≡ []
    none stream zero = refl
    none stream (suc version) = refl

pub follows-sound : (h : List Entry) → Follows h → IsSound h
follows-sound h follows =
    from_end IsSound h sound-none (λ n e at sound. sound-push (take n h) e sound (follows n e at))

pub legal-sound : (h : List Entry) → Legal h → IsSound h
legal-sound h legal = follows-sound h (legal-follows h legal)

-- ---- what an accepted history gives of an output

-- What an output is and has read.
pub follows-output : (h : List Entry) (stream : ℕ) (spec : Spec) → Follows h → spec_of h stream ≡ Some spec → IsOutput h stream spec
follows-output h stream spec follows output = (follows-sound h follows).outputs stream spec output
