-- Lemmas on plans: each plan stands for a history and all longer ones, and its landing is allowed.
use Rattle.std.specs.Prelude.{◌≡◌, ℕ, ◌<◌, ◌≤◌, nat_lt, nat_le, true, false, Bool, List, [], ◌∷◌, ◌++◌, cond, Option, Some, None}
use Rattle.std.proofs.Common.{refl, sym, ap, ◌∙◌, arith, subst}
use Rattle.std.proofs.lemmas.Bool.{leb-false, ltb-false}
use Rattle.std.proofs.lemmas.List.{append-nil, append_assoc}
use Rattle.btr_base.specs.declared.limits.TheConstants.{MAX_VERSIONS}
use Rattle.btr_hist.specs.declared.entry.Entry.{Entry}
use Rattle.btr_hist.specs.declared.kernel.Spec.{Spec}
use Rattle.btr_hist.specs.declared.kernel.Reads.{Reads}
use Rattle.btr_hist.specs.declared.rejection.Rejection.{Rejection}
use Rattle.btr_hist.specs.declared.rejection.Rejection.TheVariants.{VersionLimit}
use Rattle.btr_hist.specs.Distil.{distillate}
use Rattle.btr_hist.specs.History.{spec_of, latest, reads, latest_reads, inputs_at}
use Rattle.btr_hist.specs.Legal.{when, takes_reads, may_read, Allowed, Legal}
use Rattle.btr_hist.specs.Machine.{Landing, committed, same_reads, planned, plan_of, landing, landing_rejection, landed, after_landing}
use Rattle.btr_hist.proofs.HistoryLemmas.{legal-prefix, legal-push}
use Rattle.btr_hist.proofs.VersionLemmas.{latest-more, spec_of-stays, reads-append}
use Rattle.btr_hist.proofs.ReadsLemmas.{may_read-latest, may_read-more}
use Rattle.btr_hist.proofs.OutputLemmas.{IsSound}
use Rattle.btr_hist.proofs.RightLemmas.{distillate-allowed}

-- ---- a history and its fronts

-- The history is the other one, or that with more entries after it.
abbrev pub IsFront : List Entry → List Entry → Type 0
IsFront g h = (more : List Entry) × (g ++ more ≡ h)

pub front-itself : (h : List Entry) → IsFront h h
front-itself h = ([], append-nil h)

pub front-trans : (g h k : List Entry) → IsFront g h → IsFront h k → IsFront g k
front-trans g h k a b =
    (a.0 ++ b.0, sym (append_assoc g a.0 b.0) ∙ ap (λ (l : List Entry). l ++ b.0) a.1 ∙ b.1)

pub legal-front : (g h : List Entry) → IsFront g h → Legal h → Legal g
legal-front g h front legal = legal-prefix g front.0 (subst Legal (sym front.1) legal)

pub committed-front : (h : List Entry) (e : Entry) (r : Option Rejection) → IsFront h (committed h e r)
committed-front h e None = (e ∷ [], refl)
committed-front h e (Some r) = front-itself h

-- ---- plans that stand

-- The stream is an output that has the version, and from what that has read a distillate may go on to what the plan reads.
pub record StandsFor (h : List Entry) (p : Landing) : Type 0 where
  pub spec : Spec
  pub output : spec_of h p.stream ≡ Some spec
  pub base : p.base ≤ latest h p.stream
  pub may : may_read h spec (reads h p.stream spec p.base) p.reads ≡ true

-- The plan, if there is one, is as above.
abbrev pub Stands : List Entry → Option Landing → Type 0
Stands h None = Unit {0}
Stands h (Some p) = StandsFor h p

-- A plan that stands stands after more entries.
pub stands-stays : (h more : List Entry) (p : Landing) → StandsFor h p → StandsFor (h ++ more) p
stands-stays h more p is =
    let base = is.base in
    let same = reads-append h more p.stream is.spec p.base base in
    record {
      spec = is.spec;
      output = spec_of-stays h more p.stream is.spec is.output;
      base = omega (arith, latest-more h more p.stream);
      may = subst (λ (r : Reads). may_read (h ++ more) is.spec r p.reads ≡ true) (sym same) (may_read-more h more is.spec (reads h p.stream is.spec p.base) p.reads is.may);
    }

-- A plan that stands for a history stands for each longer one.
pub stands-front : (g h : List Entry) (o : Option Landing) → IsFront g h → Stands g o → Stands h o
stands-front g h None front is = tt
stands-front g h (Some p) front is = subst (λ l. StandsFor l p) front.1 (stands-stays g front.0 p is)

planned-stands : (h : List Entry) (stream : ℕ) (spec : Spec) → IsSound h → spec_of h stream ≡ Some spec → Stands h (planned h stream spec)
planned-stands h stream spec sound output =
    let last = latest h stream in
    let there = (sound.outputs stream spec output).there last (omega arith) in
    let old = reads h stream spec last in
    let p : Landing = record { stream = stream; base = last; reads = latest_reads h spec } in
    let is : StandsFor h p = record { spec = spec; output = output; base = omega arith; may = may_read-latest h spec old there } in
    elim (same_reads old (latest_reads h spec)) as (λ t. Stands h (cond t None (Some p))) [
      | true ↦ tt
      | false ↦ is
    ]

-- A new plan stands for the history that it was made from.
pub plan-stands : (h : List Entry) (stream : ℕ) (o : Option Spec) → IsSound h → spec_of h stream ≡ o → Stands h (plan_of h stream o)
plan-stands h stream None sound is = tt
plan-stands h stream (Some spec) sound is = planned-stands h stream spec sound is

-- ---- plans that land

-- A plan that stands, and that no other version of the output has followed, may land while the output has room for a version.
pub landing-allowed : (h : List Entry) (p : Landing) (spec : Spec) → Legal h → StandsFor h p → spec_of h p.stream ≡ Some spec → latest h p.stream ≤ p.base → latest h p.stream < MAX_VERSIONS → Allowed h (landing h p spec)
landing-allowed h p spec legal stands output current room =
    let base = stands.base in
    let last : p.base ≡ latest h p.stream = omega arith in
    let same : stands.spec ≡ spec = cc (sym stands.output, output) in
    let c = distillate spec (inputs_at h spec (reads h p.stream spec (latest h p.stream))) (inputs_at h spec p.reads) in
    let may : may_read h spec (reads h p.stream spec p.base) p.reads ≡ true = subst (λ s. may_read h s (reads h p.stream s p.base) p.reads ≡ true) same stands.may in
    let now = subst (λ v. may_read h spec (reads h p.stream spec v) p.reads ≡ true) last may in
    let takes = subst (λ (o : Option Spec). takes_reads h p.stream o p.reads ≡ true) (sym output) now in
    distillate-allowed h p.stream c p.reads legal (record { spec = spec; output = output; change = refl }) takes room

landed-at : (h : List Entry) (p : Landing) (spec : Spec) (late full : Bool) → Legal h → StandsFor h p → spec_of h p.stream ≡ Some spec → nat_lt p.base (latest h p.stream) ≡ late → nat_le MAX_VERSIONS (latest h p.stream) ≡ full → Legal (cond late h (committed h (landing h p spec) (when full VersionLimit)))
landed-at h p spec true full legal stands output is_late is_full = legal
landed-at h p spec false true legal stands output is_late is_full = legal
landed-at h p spec false false legal stands output is_late is_full =
    let current = ltb-false p.base (latest h p.stream) is_late in
    let room = leb-false MAX_VERSIONS (latest h p.stream) is_full in
    legal-push h (landing h p spec) legal (landing-allowed h p spec legal stands output current room)

landed-legal : (h : List Entry) (p : Landing) (o : Option Spec) → Legal h → StandsFor h p → spec_of h p.stream ≡ o → Legal (landed h p o)
landed-legal h p None legal stands output = legal
landed-legal h p (Some spec) legal stands output =
    landed-at h p spec (nat_lt p.base (latest h p.stream)) (nat_le MAX_VERSIONS (latest h p.stream)) legal stands output refl refl

-- The history is legal after the landing of a plan that stands.
pub landing-legal : (h : List Entry) (o : Option Landing) → Legal h → Stands h o → Legal (after_landing h o)
landing-legal h None legal stands = legal
landing-legal h (Some p) legal stands = landed-legal h p (spec_of h p.stream) legal stands refl

landed-front : (h : List Entry) (p : Landing) (o : Option Spec) → IsFront h (landed h p o)
landed-front h p None = front-itself h
landed-front h p (Some spec) =
    elim (nat_lt p.base (latest h p.stream)) as (λ t. IsFront h (cond t h (committed h (landing h p spec) (landing_rejection h p)))) [
      | true ↦ front-itself h
      | false ↦ committed-front h (landing h p spec) (landing_rejection h p)
    ]

pub landing-front : (h : List Entry) (o : Option Landing) → IsFront h (after_landing h o)
landing-front h None = front-itself h
landing-front h (Some p) = landed-front h p (spec_of h p.stream)
