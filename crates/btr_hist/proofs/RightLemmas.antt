-- Lemmas on what outputs hold in legal histories: each version is right, and the distillate of the definition is allowed.
use Rattle.std.specs.Prelude.{◌≡◌, ℕ, ◌<◌, ◌≤◌, nat_le, true, false, not, Bool, List, [], ◌∷◌, ◌++◌, length, take, Option, Some, None}
use Rattle.std.specs.List.{AllByRecursion}
use Rattle.std.proofs.Common.{suc, refl, sym, ap, ◌∙◌, arith, inl, inr, subst}
use Rattle.std.proofs.lemmas.Bool.{lt-leb}
use Rattle.btr_base.specs.declared.limits.TheConstants.{MAX_VERSIONS, MAX_POINTS}
use Rattle.btr_base.specs.declared.point.Point.{Point}
use Rattle.btr_base.specs.Point.{AreInDomain}
use Rattle.btr_base.specs.Bag.{IsInOrder}
use Rattle.btr_base.specs.Commit.{Change, after}
use Rattle.btr_hist.specs.declared.entry.Entry.{Entry}
use Rattle.btr_hist.specs.declared.entry.Entry.TheVariants.{Distillate}
use Rattle.btr_hist.specs.declared.kernel.Spec.{Spec}
use Rattle.btr_hist.specs.declared.kernel.Reads.{Reads}
use Rattle.btr_hist.specs.declared.rejection.Rejection.{Rejection}
use Rattle.btr_hist.specs.declared.rejection.Rejection.TheVariants.{NoStream, NotWritable, VersionLimit}
use Rattle.btr_hist.specs.Distil.{AreBags, output_points, distillate}
use Rattle.btr_hist.specs.History.{new_kind, ids, spec_of, latest, bag, reads, second_points, inputs_at}
use Rattle.btr_hist.specs.Legal.{first_some, when, next_bag, points_rejection, takes_reads, distillate_change_rejection}
use Rattle.btr_hist.specs.Legal.{IsComputed, IsDistillate, Allowed, Legal}
use Rattle.btr_hist.specs.Laws.{Right}
use Rattle.btr_hist.proofs.HistoryLemmas.{bag-append, bag-in_order}
use Rattle.btr_hist.proofs.DistilLemmas.{good-is, output-none, output-accepted, distillate-right, HaveFew, distillate-change_accepted}
use Rattle.btr_hist.proofs.VersionLemmas.{from_end, spec_of-known, reads-append, kind-push, latest-silent, bag-push, each_version-push}
use Rattle.btr_hist.proofs.ReadsLemmas.{may_read-there, inputs_at-append}
use Rattle.btr_hist.proofs.AcceptedLemmas.{distillate_causes, IsNext, output-next, new-silent}
use Rattle.btr_hist.proofs.OutputLemmas.{IsSound, sound-none, sound-push, legal-sound, next-reads}

-- ---- the points of the inputs

second-in_order : (h : List Entry) (s version : Option ℕ) → IsInOrder (second_points h s version)
second-in_order h None None = tt
second-in_order h None (Some v) = tt
second-in_order h (Some s) None = tt
second-in_order h (Some s) (Some v) = bag-in_order h s v

second-in_domain : (h : List Entry) (s version : Option ℕ) → IsSound h → AreInDomain (second_points h s version)
second-in_domain h None None sound = tt
second-in_domain h None (Some v) sound = tt
second-in_domain h (Some s) None sound = tt
second-in_domain h (Some s) (Some v) sound = sound.in_domain s v

second-few : (h : List Entry) (s version : Option ℕ) → IsSound h → length (second_points h s version) ≤ MAX_POINTS
second-few h None None sound = omega arith
second-few h None (Some v) sound = omega arith
second-few h (Some s) None sound = omega arith
second-few h (Some s) (Some v) sound = sound.bounded s v

pub inputs-bags : (h : List Entry) (spec : Spec) (r : Reads) → IsSound h → AreBags (inputs_at h spec r)
inputs-bags h spec r sound = record {
  first_in_order = bag-in_order h spec.first r.first;
  first_in_domain = sound.in_domain spec.first r.first;
  second_in_order = second-in_order h spec.second r.second;
  second_in_domain = second-in_domain h spec.second r.second sound;
}

pub inputs-few : (h : List Entry) (spec : Spec) (r : Reads) → IsSound h → HaveFew (inputs_at h spec r)
inputs-few h spec r sound =
    record { first = sound.bounded spec.first r.first; second = second-few h spec.second r.second sound }

-- ---- one more entry

-- The points after the distillate of the definition are those of the output at the new inputs.
pub next-right : (h : List Entry) (stream : ℕ) (spec : Spec) (c : Change) (new : Reads) → IsSound h → Right h → spec_of h stream ≡ Some spec → c ≡ distillate spec (inputs_at h spec (reads h stream spec (latest h stream))) (inputs_at h spec new) → next_bag h stream c ≡ output_points spec (inputs_at h spec new)
next-right h stream spec c new sound right output is =
    let old = inputs_at h spec (reads h stream spec (latest h stream)) in
    let now = inputs_at h spec new in
    let good = good-is spec (sound.outputs stream spec output).defined.good in
    let bags = inputs-bags h spec (reads h stream spec (latest h stream)) sound in
    ap (λ (d : Change). after (bag h stream (latest h stream)) d) is
    ∙ ap (λ (b : List Point). after b (distillate spec old now)) (right stream spec output (latest h stream) (omega arith))
    ∙ distillate-right spec old now good bags (inputs-bags h spec new sound)

-- The change of an allowed distillate is the definition's.
next-computed : (h : List Entry) (e : Entry) (stream : ℕ) (spec : Spec) (c : Change) (n : IsNext h stream spec c e) → spec_of h stream ≡ Some spec → IsComputed h e → c ≡ distillate spec (inputs_at h spec (reads h stream spec (latest h stream))) (inputs_at h spec n.new)
next-computed h e stream spec c n output computed =
    let is : IsDistillate h stream c n.new = subst (λ x. IsComputed h x) n.is computed in
    let same : is.spec ≡ spec = cc (sym is.output, output) in
    subst (λ s. c ≡ distillate s (inputs_at h s (reads h stream s (latest h stream))) (inputs_at h s n.new)) same is.change

right-stays : (h : List Entry) (e : Entry) (stream : ℕ) (spec : Spec) → IsSound h → Right h → Allowed h e → spec_of h stream ≡ Some spec → (version : ℕ) → version ≤ latest (h ++ e ∷ []) stream → bag (h ++ e ∷ []) stream version ≡ output_points spec (inputs_at (h ++ e ∷ []) spec (reads (h ++ e ∷ []) stream spec version))
right-stays h e stream spec sound right allowed output =
    let all = h ++ e ∷ [] in
    let is = sound.outputs stream spec output in
    each_version-push (λ v. bag all stream v ≡ output_points spec (inputs_at all spec (reads all stream spec v))) h e stream (λ v old.
    let same = inputs_at-append h (e ∷ []) spec (reads h stream spec v) (is.there v old) in
    let read = reads-append h (e ∷ []) stream spec v old in
    bag-append h (e ∷ []) stream v old
    ∙ right stream spec output v old
    ∙ sym (ap (output_points spec) (ap (inputs_at all spec) read ∙ same))) (λ c made.
    let n = output-next h e stream spec c allowed.accepted output made in
    let computed = next-computed h e stream spec c n output allowed.computed in
    let there = may_read-there h spec (reads h stream spec (latest h stream)) n.new n.may in
    let same = inputs_at-append h (e ∷ []) spec n.new there in
    bag-push h e stream (suc (latest h stream)) c made (omega arith)
    ∙ next-right h stream spec c n.new sound right output computed
    ∙ sym (ap (output_points spec) (ap (inputs_at all spec) (next-reads h e stream spec c n) ∙ same)))

right-new : (h : List Entry) (e : Entry) (stream : ℕ) (spec : Spec) → IsSound h → length (ids h) ≤ stream → new_kind e ≡ Some (Some spec) → (version : ℕ) → version ≤ latest (h ++ e ∷ []) stream → bag (h ++ e ∷ []) stream version ≡ output_points spec (inputs_at (h ++ e ∷ []) spec (reads (h ++ e ∷ []) stream spec version))
right-new h e stream spec sound far new version low =
    let all = h ++ e ∷ [] in
    let none : latest h stream ≡ 0 = ap (length {A = Change}) (sound.beyond stream far) in
    let silent = latest-silent h e stream (new-silent e stream (Some spec) new) in
    let first : 0 ≡ version = omega arith in
    subst (λ v. bag all stream v ≡ output_points spec (inputs_at all spec (reads all stream spec v))) first (sym (output-none spec (inputs_at all spec (reads all stream spec 0)).second))

pub right-push : (h : List Entry) (e : Entry) → IsSound h → Right h → Allowed h e → Right (h ++ e ∷ [])
right-push h e sound right allowed stream spec output =
    elim (kind-push h e stream spec output) [
      | inl old ↦ right-stays h e stream spec sound right allowed old
      | inr new ↦ right-new h e stream spec sound new.0 new.1
    ]

-- ---- all entries

pub legal-right : (h : List Entry) → Legal h → Right h
legal-right h legal =
    let both : IsSound h × Right h =
    from_end (λ l. IsSound l × Right l) h (sound-none, λ stream spec output. absurd (cc)) (λ n e at is.
    let allowed = legal n e at in
    (sound-push (take n h) e is.0 allowed.accepted, right-push (take n h) e is.0 is.1 allowed)) in
    both.1

-- ---- the distillate of the definition

causes-none : (os : List (Option Rejection)) → AllByRecursion (λ o. o ≡ None) os → first_some os ≡ None
causes-none [] h = refl
causes-none (o ∷ os) h = ap (λ (x : Option Rejection). first_some (x ∷ os)) h.0 ∙ causes-none os h.1

passes : (b : Bool) (r : Rejection) → b ≡ false → when b r ≡ None
passes b r fails = ap (λ (t : Bool). when t r) fails

pub distillate-allowed : (h : List Entry) (stream : ℕ) (c : Change) (new : Reads) → Legal h → IsDistillate h stream c new → takes_reads h stream (spec_of h stream) new ≡ true → latest h stream < MAX_VERSIONS → Allowed h (Distillate stream c.cut c.added new)
distillate-allowed h stream c new legal is takes room =
    let sound = legal-sound h legal in
    let spec = is.spec in
    let old = reads h stream spec (latest h stream) in
    let known = spec_of-known h stream spec is.output in
    let good = good-is spec (sound.outputs stream spec is.output).defined.good in
    let bags = inputs-bags h spec new sound in
    let change = distillate-change_accepted spec (inputs_at h spec old) (inputs_at h spec new) good bags (inputs-few h spec old sound) (inputs-few h spec new sound) in
    let fits = ap distillate_change_rejection is.change ∙ change in
    let made = next-right h stream spec c new sound (legal-right h legal) is.output is.change in
    let holds = ap points_rejection made ∙ output-accepted spec (inputs_at h spec new) good bags (sound.bounded spec.first new.first) in
    record {
      accepted = causes-none (distillate_causes h stream c new) (
        passes (nat_le (length (ids h)) stream) NoStream (lt-leb (length (ids h)) stream known),
        (
          passes (not (takes_reads h stream (spec_of h stream) new)) NotWritable (ap not takes),
          (fits, (passes (nat_le MAX_VERSIONS (latest h stream)) VersionLimit (lt-leb MAX_VERSIONS (latest h stream) room), (holds, tt))),
        ),
      );
      computed = is;
    }
