-- Lemmas on the versions that outputs have read last, and that plans read: where each distillate was planned, none is retired.
use Rattle.std.specs.Prelude.{◌≡◌, ℕ, ◌<◌, ◌≤◌, nat_lt, nat_le, Bool, true, false, ◌&&◌, List, [], ◌∷◌, ◌++◌, length, cond, Option, Some, None}
use Rattle.std.specs.Option.{option_map}
use Rattle.std.proofs.Common.{refl, sym, ap, ◌∙◌, arith, inl, inr, subst, append_assoc}
use Rattle.std.proofs.lemmas.List.{append-nil}
use Rattle.std.proofs.lemmas.Bool.{ltb-false, leb-false, leb-true, and_parts}
use Rattle.btr_base.specs.declared.limits.TheConstants.{MAX_VERSIONS}
use Rattle.btr_base.specs.declared.point.Point.{Point}
use Rattle.btr_base.specs.Range.{RangeValue}
use Rattle.btr_base.specs.Commit.{Change}
use Rattle.btr_hist.specs.declared.entry.Entry.{Entry}
use Rattle.btr_hist.specs.declared.entry.Entry.TheVariants.{Distillate}
use Rattle.btr_hist.specs.declared.kernel.Spec.{Spec}
use Rattle.btr_hist.specs.declared.kernel.Reads.{Reads}
use Rattle.btr_hist.specs.declared.rejection.Rejection.{Rejection}
use Rattle.btr_hist.specs.declared.rejection.Rejection.TheVariants.{VersionLimit}
use Rattle.btr_hist.specs.History.{change_of, first_of, ids, spec_of, latest, reads, latest_reads, earliest, nothing_read}
use Rattle.btr_hist.specs.Legal.{when, may_read_second, may_read, rejection, Legal}
use Rattle.btr_hist.specs.Laws.{IsPresent, IsSecondPresent, ArePresent, ReadsArePresent}
use Rattle.btr_hist.specs.Machine.{Landing, offered, committed, same_reads, planned, plan_of, landing, landed, after_landing}
use Rattle.btr_hist.proofs.HistoryLemmas.{legal-prefix, legal-last, allowed-of_offered}
use Rattle.btr_hist.proofs.VersionLemmas.{spec_of-stays, reads-append, kind-push, latest-more, latest-push, latest-silent}
use Rattle.btr_hist.proofs.AcceptedLemmas.{output-next, new-silent}
use Rattle.btr_hist.proofs.RetireLemmas.{earliest-push, earliest-silent, first-accepted, free-output, free-first, free-second, legal-past}
use Rattle.btr_hist.proofs.OutputLemmas.{IsSound, legal-sound, next-reads}
use Rattle.btr_hist.proofs.LandingLemmas.{IsFront, StandsFor, Stands, stands-stays, landing-allowed}

-- ---- versions that are not retired

-- The version of an input is not retired.
abbrev IsKept : List Entry → ℕ → ℕ → Type 0
IsKept h stream version = earliest h stream ≤ version

-- The version of a second input, if there are both, is not retired.
abbrev IsSecondKept : List Entry → Option ℕ → Option ℕ → Type 0
IsSecondKept h (Some stream) (Some version) = IsKept h stream version
IsSecondKept h stream version = Unit {0}

-- The versions of the inputs are not retired.
pub record AreKept (h : List Entry) (spec : Spec) (r : Reads) : Type 0 where
  pub first : IsKept h spec.first r.first
  pub second : IsSecondKept h spec.second r.second

second_kept-present : (h : List Entry) (s version : Option ℕ) → IsSecondKept h s version → IsSecondPresent h s version
second_kept-present h None None kept = tt
second_kept-present h None (Some v) kept = tt
second_kept-present h (Some s) None kept = tt
second_kept-present h (Some s) (Some v) kept = inr kept

kept-present : (h : List Entry) (spec : Spec) (r : Reads) → AreKept h spec r → ArePresent h spec r
kept-present h spec r kept =
    record { first = inr kept.first; second = second_kept-present h spec.second r.second kept.second }

second_nothing-present : (h : List Entry) (s : Option ℕ) → IsSecondPresent h s (option_map (λ t. 0) s)
second_nothing-present h None = tt
second_nothing-present h (Some s) = inl refl

-- Version 0 of each input is never retired.
nothing-present : (h : List Entry) (spec : Spec) → ArePresent h spec (nothing_read spec)
nothing-present h spec = record { first = inl refl; second = second_nothing-present h spec.second }

-- ---- one more entry

-- A version that is not retired, as long as an entry that retires versions of the stream leaves it.
kept-push : (h : List Entry) (e : Entry) (stream version : ℕ) → IsKept h stream version → ((first : ℕ) → first_of stream e ≡ Some first → first ≤ version) → IsKept (h ++ e ∷ []) stream version
kept-push h e stream version old left = go (first_of stream e) refl
  where
    go : (o : Option ℕ) → first_of stream e ≡ o → IsKept (h ++ e ∷ []) stream version
    go None is = omega (arith, earliest-silent h e stream is)
    go (Some first) is =
        let leaves = left first is in
        omega (arith, earliest-push h e stream first is)

present-push : (h : List Entry) (e : Entry) (stream version : ℕ) → IsPresent h stream version → ((first : ℕ) → first_of stream e ≡ Some first → first ≤ version) → IsPresent (h ++ e ∷ []) stream version
present-push h e stream version (inl none) left = inl none
present-push h e stream version (inr old) left = inr (kept-push h e stream version old left)

second_kept-push : (h : List Entry) (e : Entry) (s version : Option ℕ) → IsSecondKept h s version → ((stream v first : ℕ) → s ≡ Some stream → version ≡ Some v → first_of stream e ≡ Some first → first ≤ v) → IsSecondKept (h ++ e ∷ []) s version
second_kept-push h e None None old left = tt
second_kept-push h e None (Some v) old left = tt
second_kept-push h e (Some s) None old left = tt
second_kept-push h e (Some s) (Some v) old left = kept-push h e s v old (λ first is. left s v first refl refl is)

second_present-push : (h : List Entry) (e : Entry) (s version : Option ℕ) → IsSecondPresent h s version → ((stream v first : ℕ) → s ≡ Some stream → version ≡ Some v → first_of stream e ≡ Some first → first ≤ v) → IsSecondPresent (h ++ e ∷ []) s version
second_present-push h e None None old left = tt
second_present-push h e None (Some v) old left = tt
second_present-push h e (Some s) None old left = tt
second_present-push h e (Some s) (Some v) old left = present-push h e s v old (λ first is. left s v first refl refl is)

-- ---- what an output has read last

-- An accepted entry retires no version that an output has read last.
last-first : (h : List Entry) (e : Entry) (output : ℕ) (spec : Spec) (first : ℕ) → rejection h e ≡ None → spec_of h output ≡ Some spec → first_of spec.first e ≡ Some first → first ≤ (reads h output spec (latest h output)).first
last-first h e output spec first accepted is retires =
    let retired = first-accepted h e spec.first first accepted retires in
    free-first first output spec (reads h output spec (latest h output)) (free-output h spec.first first output spec retired is)

last-second : (h : List Entry) (e : Entry) (output : ℕ) (spec : Spec) (stream v first : ℕ) → rejection h e ≡ None → spec_of h output ≡ Some spec → spec.second ≡ Some stream → (reads h output spec (latest h output)).second ≡ Some v → first_of stream e ≡ Some first → first ≤ v
last-second h e output spec stream v first accepted is input read retires =
    let retired = first-accepted h e stream first accepted retires in
    free-second first output stream v spec (reads h output spec (latest h output)) input read (free-output h stream first output spec retired is)

-- What an output has read last is still so after an entry that is no commit of it.
reads-silent : (h : List Entry) (e : Entry) (stream : ℕ) (spec : Spec) → change_of stream e ≡ None → reads (h ++ e ∷ []) stream spec (latest (h ++ e ∷ []) stream) ≡ reads h stream spec (latest h stream)
reads-silent h e stream spec none =
    ap (reads (h ++ e ∷ []) stream spec) (latest-silent h e stream none) ∙ reads-append h (e ∷ []) stream spec (latest h stream) (omega arith)

present-silent : (h : List Entry) (e : Entry) (stream : ℕ) (spec : Spec) → rejection h e ≡ None → spec_of h stream ≡ Some spec → change_of stream e ≡ None → ArePresent h spec (reads h stream spec (latest h stream)) → ArePresent (h ++ e ∷ []) spec (reads (h ++ e ∷ []) stream spec (latest (h ++ e ∷ []) stream))
present-silent h e stream spec accepted is none old =
    let last = reads h stream spec (latest h stream) in
    subst (ArePresent (h ++ e ∷ []) spec) (sym (reads-silent h e stream spec none)) (record {
      first = present-push h e spec.first last.first old.first (λ first retires. last-first h e stream spec first accepted is retires);
      second = second_present-push h e spec.second last.second old.second (λ s v first input read retires.
          last-second h e stream spec s v first accepted is input read retires);
    })

-- A new output has read version 0 of each input.
present-new : (h : List Entry) (e : Entry) (stream : ℕ) (spec : Spec) → IsSound h → length (ids h) ≤ stream → change_of stream e ≡ None → ArePresent (h ++ e ∷ []) spec (reads (h ++ e ∷ []) stream spec (latest (h ++ e ∷ []) stream))
present-new h e stream spec sound far none =
    let all = h ++ e ∷ [] in
    let unused : latest h stream ≡ 0 = ap (length {A = Change}) (sound.beyond stream far) in
    let zero : latest all stream ≡ 0 = latest-silent h e stream none ∙ unused in
    subst (λ v. ArePresent all spec (reads all stream spec v)) (sym zero) (nothing-present all spec)

-- What each output has read last stays not retired with an accepted entry, if that of an output which the entry is a commit of is not.
pub present-more : (h : List Entry) (e : Entry) → IsSound h → ReadsArePresent h → rejection h e ≡ None → ((stream : ℕ) (spec : Spec) (c : Change) → spec_of h stream ≡ Some spec → change_of stream e ≡ Some c → ArePresent (h ++ e ∷ []) spec (reads (h ++ e ∷ []) stream spec (latest (h ++ e ∷ []) stream))) → ReadsArePresent (h ++ e ∷ [])
present-more h e sound present accepted made stream spec output =
    elim (kind-push h e stream spec output) [
      | inl old ↦ go old (change_of stream e) refl
      | inr new ↦ present-new h e stream spec sound new.0 (new-silent e stream (Some spec) new.1)
    ]
  where
    go : spec_of h stream ≡ Some spec → (o : Option Change) → change_of stream e ≡ o → ArePresent (h ++ e ∷ []) spec (reads (h ++ e ∷ []) stream spec (latest (h ++ e ∷ []) stream))
    go old None none = present-silent h e stream spec accepted old none (present stream spec old)
    go old (Some c) is = made stream spec c old is

-- ---- what a plan reads

-- As long as the output has no later version than the one that the plan follows, no version that the plan reads is retired.
abbrev pub IsLeft : List Entry → Landing → Type 0
IsLeft h p = (spec : Spec) → spec_of h p.stream ≡ Some spec → latest h p.stream ≤ p.base → AreKept h spec p.reads

-- The plan, if there is one, is as above.
abbrev pub AreLeft : List Entry → Option Landing → Type 0
AreLeft h None = Unit {0}
AreLeft h (Some p) = IsLeft h p

second_latest-kept : (h : List Entry) (s : Option ℕ) → ((stream : ℕ) → earliest h stream ≤ latest h stream) → IsSecondKept h s (option_map (λ t. latest h t) s)
second_latest-kept h None past = tt
second_latest-kept h (Some s) past = past s

latest-kept : (h : List Entry) (spec : Spec) → Legal h → AreKept h spec (latest_reads h spec)
latest-kept h spec legal = record {
  first = legal-past h spec.first legal;
  second = second_latest-kept h spec.second (λ s. legal-past h s legal);
}

planned-left : (h : List Entry) (stream : ℕ) (spec : Spec) → Legal h → spec_of h stream ≡ Some spec → AreLeft h (planned h stream spec)
planned-left h stream spec legal output =
    let p : Landing = record { stream = stream; base = latest h stream; reads = latest_reads h spec } in
    let left : IsLeft h p = λ other is current.
    let same : spec ≡ other = cc (sym output, is) in
    subst (λ s. AreKept h s (latest_reads h spec)) same (latest-kept h spec legal) in
    elim (same_reads (reads h stream spec (latest h stream)) (latest_reads h spec)) as (λ t. AreLeft h (cond t None (Some p))) [
      | true ↦ tt
      | false ↦ left
    ]

-- A new plan reads the latest versions, which are not retired.
pub plan-left : (h : List Entry) (stream : ℕ) (o : Option Spec) → Legal h → spec_of h stream ≡ o → AreLeft h (plan_of h stream o)
plan-left h stream None legal output = tt
plan-left h stream (Some spec) legal output = planned-left h stream spec legal output

-- ---- a plan and one more entry

-- Of a second input a plan reads no version before the one that was read last.
second-later : (h : List Entry) (s old new : Option ℕ) (stream v first : ℕ) → may_read_second h s old new ≡ true → s ≡ Some stream → new ≡ Some v → ((u : ℕ) → old ≡ Some u → first ≤ u) → first ≤ v
second-later h None old new stream v first may input read each = absurd (cc)
second-later h (Some s) old None stream v first may input read each = absurd (cc)
second-later h (Some s) None (Some n) stream v first may input read each = absurd (cc)
second-later h (Some s) (Some o) (Some n) stream v first may input read each =
    let low = leb-true o n (and_parts (nat_le o n) (nat_le n (latest h s)) may).0 in
    let here = each o refl in
    let same : n ≡ v = cc in
    omega arith

-- Of the first input a plan reads no version before the one that was read last.
first-later : (h : List Entry) (spec : Spec) (old new : Reads) → may_read h spec old new ≡ true → old.first ≤ new.first
first-later h spec old new may =
    leb-true old.first new.first (and_parts (nat_le old.first new.first) (nat_le new.first (latest h spec.first) && may_read_second h spec.second old.second new.second) may).0

left-current : (h : List Entry) (e : Entry) (p : Landing) (spec : Spec) → rejection h e ≡ None → spec_of h p.stream ≡ Some spec → may_read h spec (reads h p.stream spec (latest h p.stream)) p.reads ≡ true → AreKept h spec p.reads → AreKept (h ++ e ∷ []) spec p.reads
left-current h e p spec accepted output may kept =
    let last = reads h p.stream spec (latest h p.stream) in
    let second = (and_parts (nat_le p.reads.first (latest h spec.first)) (may_read_second h spec.second last.second p.reads.second)
    (and_parts (nat_le last.first p.reads.first) (nat_le p.reads.first (latest h spec.first) && may_read_second h spec.second last.second p.reads.second) may).1).1 in
    record {
      first = kept-push h e spec.first p.reads.first kept.first (λ first retires.
          let read = last-first h e p.stream spec first accepted output retires in
          let later = first-later h spec last p.reads may in
          omega arith);
      second = second_kept-push h e spec.second p.reads.second kept.second (λ s v first input read retires.
          second-later h spec.second last.second p.reads.second s v first second input read (λ u old.
          last-second h e p.stream spec s u first accepted output input old retires));
    }

-- An accepted entry retires no version that a plan reads, as long as the output has no later version.
left-push : (h : List Entry) (e : Entry) (p : Landing) → StandsFor h p → IsLeft h p → rejection h e ≡ None → IsLeft (h ++ e ∷ []) p
left-push h e p stands left accepted spec output current =
    let base = stands.base in
    let last : p.base ≡ latest h p.stream = omega (arith, latest-more h (e ∷ []) p.stream) in
    let same : stands.spec ≡ spec = cc (sym (spec_of-stays h (e ∷ []) p.stream stands.spec stands.output), output) in
    let may = subst (λ v. may_read h stands.spec (reads h p.stream stands.spec v) p.reads ≡ true) last stands.may in
    let kept = left stands.spec stands.output (omega arith) in
    subst (λ s. AreKept (h ++ e ∷ []) s p.reads) same (left-current h e p stands.spec accepted stands.output may kept)

left-all : (g more : List Entry) (p : Landing) → Legal (g ++ more) → StandsFor g p → IsLeft g p → IsLeft (g ++ more) p
left-all g [] p legal stands left = subst (λ l. IsLeft l p) (sym (append-nil g)) left
left-all g (e ∷ more) p legal stands left =
    let next = g ++ e ∷ [] in
    let split : next ++ more ≡ g ++ e ∷ more = append_assoc g (e ∷ []) more in
    let all = subst Legal (sym split) legal in
    let accepted = (legal-last g e (legal-prefix next more all)).accepted in
    subst (λ l. IsLeft l p) split (left-all next more p all (stands-stays g (e ∷ []) p stands) (left-push g e p stands left accepted))

-- What a plan reads is still not retired in a longer legal history, as long as the output has no later version.
pub left-front : (g h : List Entry) (o : Option Landing) → IsFront g h → Legal h → Stands g o → AreLeft g o → AreLeft h o
left-front g h None front legal stands left = tt
left-front g h (Some p) front legal stands left =
    subst (λ l. IsLeft l p) front.1 (left-all g front.0 p (subst Legal (sym front.1) legal) stands left)

-- ---- a user's entry

offered-present : (h : List Entry) (e : Entry) → Legal h → ReadsArePresent h → offered h e ≡ None → ReadsArePresent (h ++ e ∷ [])
offered-present h e legal present may =
    let accepted = (allowed-of_offered h e may).accepted in
    present-more h e (legal-sound h legal) present accepted (λ stream spec c output is.
    let n = output-next h e stream spec c accepted output is in
    let never = subst (λ x. offered h x ≡ None) n.is may in
    absurd (cc))

pub committed-present : (h : List Entry) (e : Entry) → Legal h → ReadsArePresent h → ReadsArePresent (committed h e (offered h e))
committed-present h e legal present =
    elim (offered h e) as (λ (r : Option Rejection). offered h e ≡ r → ReadsArePresent (committed h e r)) [
      | None ↦ λ may. offered-present h e legal present may
      | Some r ↦ λ _. present
    ] refl

-- ---- plans that land

distilled-present : (h : List Entry) (stream s : ℕ) (cut : List RangeValue) (added : List Point) (new : Reads) (spec : Spec) (c : Change) → rejection h (Distillate s cut added new) ≡ None → spec_of h stream ≡ Some spec → change_of stream (Distillate s cut added new) ≡ Some c → ((other : Spec) → spec_of h s ≡ Some other → AreKept h other new) → ArePresent (h ++ Distillate s cut added new ∷ []) spec (reads (h ++ Distillate s cut added new ∷ []) stream spec (latest (h ++ Distillate s cut added new ∷ []) stream))
distilled-present h stream s cut added new spec c accepted output is kept =
    let e = Distillate s cut added new in
    let all = h ++ e ∷ [] in
    let n = output-next h e stream spec c accepted output is in
    let here : s ≡ stream = cc (n.is) in
    let read : n.new ≡ new = cc (n.is) in
    let old = kept spec (subst (λ t. spec_of h t ≡ Some spec) (sym here) output) in
    let now : AreKept all spec new = record {
      first = kept-push h e spec.first new.first old.first (λ first retires. absurd (cc));
      second = second_kept-push h e spec.second new.second old.second (λ t v first input of retires. absurd (cc));
    } in
    let last : reads all stream spec (latest all stream) ≡ new = ap (reads all stream spec) (latest-push h e stream c is) ∙ next-reads h e stream spec c n ∙ read in
    subst (ArePresent all spec) (sym last) (kept-present all spec new now)

landing-present : (h : List Entry) (p : Landing) (spec : Spec) → Legal h → ReadsArePresent h → StandsFor h p → IsLeft h p → spec_of h p.stream ≡ Some spec → latest h p.stream ≤ p.base → latest h p.stream < MAX_VERSIONS → ReadsArePresent (h ++ landing h p spec ∷ [])
landing-present h p spec legal present stands left output current room =
    let accepted = (landing-allowed h p spec legal stands output current room).accepted in
    present-more h (landing h p spec) (legal-sound h legal) present accepted (λ stream other c is made.
    distilled-present h stream p.stream _ _ p.reads other c accepted is made (λ of known. left of known current))

landed-at : (h : List Entry) (p : Landing) (spec : Spec) (late full : Bool) → Legal h → ReadsArePresent h → StandsFor h p → IsLeft h p → spec_of h p.stream ≡ Some spec → nat_lt p.base (latest h p.stream) ≡ late → nat_le MAX_VERSIONS (latest h p.stream) ≡ full → ReadsArePresent (cond late h (committed h (landing h p spec) (when full VersionLimit)))
landed-at h p spec true full legal present stands left output is_late is_full = present
landed-at h p spec false true legal present stands left output is_late is_full = present
landed-at h p spec false false legal present stands left output is_late is_full =
    let current = ltb-false p.base (latest h p.stream) is_late in
    let room = leb-false MAX_VERSIONS (latest h p.stream) is_full in
    landing-present h p spec legal present stands left output current room

landed-present : (h : List Entry) (p : Landing) (o : Option Spec) → Legal h → ReadsArePresent h → StandsFor h p → IsLeft h p → spec_of h p.stream ≡ o → ReadsArePresent (landed h p o)
landed-present h p None legal present stands left output = present
landed-present h p (Some spec) legal present stands left output =
    landed-at h p spec (nat_lt p.base (latest h p.stream)) (nat_le MAX_VERSIONS (latest h p.stream)) legal present stands left output refl refl

-- What each output has read last is not retired after the landing of a plan that stands and reads no retired version.
pub after_landing-present : (h : List Entry) (o : Option Landing) → Legal h → ReadsArePresent h → Stands h o → AreLeft h o → ReadsArePresent (after_landing h o)
after_landing-present h None legal present stands left = present
after_landing-present h (Some p) legal present stands left = landed-present h p (spec_of h p.stream) legal present stands left refl
