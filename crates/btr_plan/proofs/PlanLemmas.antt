-- Lemmas on plans: a plan of a history is one of each longer history, and what its landing does is what the model says.
use Rattle.std.specs.Prelude.{◌≡◌, ℕ, ℤ, ◌<◌, ◌≤◌, ◌==◌, nat_lt, nat_le, true, false, not, Bool, List, [], ◌∷◌, ◌++◌, length, cond, Option, Some, None}
use Rattle.std.specs.Option.{option_map}
use Rattle.std.proofs.Common.{refl, sym, ap, ◌∙◌, arith, subst, ⊎_elim}
use Rattle.std.proofs.lemmas.Bool.{eq-eqb, eqb-true, and_parts, and_from, false_from_ne_true, le-leb, lt-leb, lt-ltb, le-ltb, cases_lt}
use Rattle.btr_base.specs.declared.limits.TheConstants.{MAX_VERSIONS, MAX_POINTS}
use Rattle.btr_base.specs.declared.point.Point.{Point}
use Rattle.btr_base.specs.Commit.{Change}
use Rattle.btr_base.specs.Crowded.{crowded}
use Rattle.btr_hist.specs.declared.entry.Entry.{Entry}
use Rattle.btr_hist.specs.declared.kernel.Spec.{Spec}
use Rattle.btr_hist.specs.declared.kernel.Reads.{Reads}
use Rattle.btr_hist.specs.declared.rejection.Rejection.{Rejection}
use Rattle.btr_hist.specs.declared.rejection.Rejection.TheVariants.{NoStream, NotWritable, VersionLimit, Crowded, TooManyPoints}
use Rattle.btr_hist.specs.Distil.{Inputs, distillate}
use Rattle.btr_hist.specs.History.{ids, spec_of, latest, reads, latest_reads, inputs_at}
use Rattle.btr_hist.specs.Legal.{first_some, when, rejection, takes_reads, may_read, distillate_change_rejection, next_bag, points_rejection, IsDistillate, Allowed, Legal, Follows}
use Rattle.btr_hist.specs.Machine.{Landing, same_second, same_reads, planned, plan_of, landing, landing_rejection, landing_reply, landed, receipt, commit_reply, committed}
use Rattle.btr_hist.specs.Machine as machine
use Rattle.btr_hist.specs.Machine.Reply.{Accepted, Rejected, Superseded}
use Rattle.btr_hist.proofs.VersionLemmas.{spec_of-known, spec_of-stays, latest-more, reads-append}
use Rattle.btr_hist.proofs.ReadsLemmas.{AreThere, may_read-there, may_read-latest, may_read-more, inputs_at-append}
use Rattle.btr_hist.proofs.OutputLemmas.{follows-sound, follows-output}
use Rattle.btr_hist.proofs.DistilLemmas.{good-is, distillate-change_accepted}
use Rattle.btr_hist.proofs.RightLemmas.{inputs-bags, inputs-few}
use Rattle.btr_hist.proofs.HistoryLemmas.{legal-follows}
use Rattle.btr_hist.proofs.RejectionLemmas.{first_none}
use Rattle.btr_hist.proofs.LandingLemmas.{IsFront, StandsFor, landing-allowed}
use Rattle.btr_distil.specs.Plan.{PlanValue, IsPlanFor, IsDistillateOf, change, entry_of}
use Rattle.btr_distil.specs.Sight.{SightValue}
use Rattle.btr_plan.specs.Sight.{IsSightAfter}
use Rattle.btr_plan.specs.Plan.{IsPlanOf, IsCurrent, MayReject, landing_of, reply_to, landed_after}
use Rattle.btr_plan.specs.Next.{IsUpToDate, IsNextPlan}
use Rattle.btr_plan.proofs.SightLemmas.{reads-there}

-- ---- the same versions

same_second-true : (a b : Option ℕ) → same_second a b ≡ true → a ≡ b
same_second-true None None e = refl
same_second-true None (Some y) e = absurd (cc)
same_second-true (Some x) None e = absurd (cc)
same_second-true (Some x) (Some y) e = ap (λ (n : ℕ). Some n) (eqb-true x y e)

same_second-own : (a : Option ℕ) → same_second a a ≡ true
same_second-own None = refl
same_second-own (Some x) = eq-eqb x x refl

same_reads-true : (a b : Reads) → same_reads a b ≡ true → a ≡ b
same_reads-true a b e =
    let both = and_parts (a.first == b.first) (same_second a.second b.second) e in
    let first : a.first ≡ b.first = eqb-true a.first b.first both.0 in
    let second : a.second ≡ b.second = same_second-true a.second b.second both.1 in
    λ i. record { first = first i; second = second i }

same_reads-own : (a : Reads) → same_reads a a ≡ true
same_reads-own a = and_from (a.first == a.first) (same_second a.second a.second) (eq-eqb a.first a.first refl) (same_second-own a.second)

-- ---- what the model plans

module _ (h : List Entry) (stream : ℕ) (spec : Spec) where
  abbrev has_read : Reads
  has_read = reads h stream spec (latest h stream)

  abbrev is_to_read : Reads
  is_to_read = latest_reads h spec

  -- The plan of the model for an output that is not up to date.
  abbrev pub next : Landing
  next = record { stream = stream; base = latest h stream; reads = is_to_read }

  -- For an output that has read the latest versions of its inputs the model plans nothing.
  pub planned-none : has_read ≡ is_to_read → planned h stream spec ≡ None
  planned-none same =
      ap (λ (t : Bool). cond {A = Option Landing} t None (Some next)) (subst (λ (r : Reads). same_reads r is_to_read ≡ true) (sym same) (same_reads-own is_to_read))

  -- For one that has not, the model plans that it reads them.
  pub planned-some : (has_read ≡ is_to_read → ⊥) → planned h stream spec ≡ Some next
  planned-some differs =
      ap (λ (t : Bool). cond {A = Option Landing} t None (Some next))
      (false_from_ne_true (same_reads has_read is_to_read) (λ e. differs (same_reads-true has_read is_to_read e)))

-- ---- a new plan

-- The plan of a sight is one of the history.
pub plan-made : (h : List Entry) (stream : ℕ) (s : SightValue) (p : PlanValue) → Follows h → IsSightAfter h stream s → IsPlanFor s p → IsDistillateOf s p → IsPlanOf h p
plan-made h stream s p follows sight made distils =
    let spec = s.spec in
    let last = latest h stream in
    let old : Reads = reads h stream spec last in
    let new : Reads = latest_reads h spec in
    let same_stream : p.stream ≡ stream = made.stream ∙ sight.same_stream in
    let same_base : p.base ≡ last = made.base ∙ sight.same_base in
    let same_reads : p.reads ≡ new = made.reads ∙ sight.is_to_read in
    let may : may_read h spec old new ≡ true = may_read-latest h spec old (reads-there h stream spec follows sight.output) in
    let is : change p ≡ distillate spec (inputs_at h spec old) (inputs_at h spec new) = distils (inputs_at h spec old) (inputs_at h spec new) sight.inputs in
    let low : p.base ≤ latest h stream = omega arith in
    record {
      spec = spec;
      output = subst (λ (n : ℕ). spec_of h n ≡ Some spec) (sym same_stream) sight.output;
      made = subst (λ (n : ℕ). p.base ≤ latest h n) (sym same_stream) low;
      may =
          subst (λ (n : ℕ). may_read h spec (reads h n spec p.base) p.reads ≡ true) (sym same_stream)
          (subst (λ (v : ℕ). may_read h spec (reads h stream spec v) p.reads ≡ true) (sym same_base)
          (subst (λ (r : Reads). may_read h spec old r ≡ true) (sym same_reads) may));
      change =
          subst (λ (n : ℕ). change p ≡ distillate spec (inputs_at h spec (reads h n spec p.base)) (inputs_at h spec p.reads)) (sym same_stream)
          (subst (λ (v : ℕ). change p ≡ distillate spec (inputs_at h spec (reads h stream spec v)) (inputs_at h spec p.reads)) (sym same_base)
          (subst (λ (r : Reads). change p ≡ distillate spec (inputs_at h spec old) (inputs_at h spec r)) (sym same_reads) is));
    }

-- It is that of the model.
pub landing-made : (h : List Entry) (stream : ℕ) (s : SightValue) (p : PlanValue) → IsSightAfter h stream s → IsPlanFor s p → landing_of p ≡ next h stream s.spec
landing-made h stream s p sight made =
    let same_stream : p.stream ≡ stream = made.stream ∙ sight.same_stream in
    let same_base : p.base ≡ latest h stream = made.base ∙ sight.same_base in
    let same_reads : p.reads ≡ latest_reads h s.spec = made.reads ∙ sight.is_to_read in
    λ i. record { stream = same_stream i; base = same_base i; reads = same_reads i }

-- If the output is to read other versions than it has read, the plan is the next one.
pub next-made : (h : List Entry) (stream : ℕ) (s : SightValue) (p : PlanValue) → Follows h → IsSightAfter h stream s → IsPlanFor s p → IsDistillateOf s p → (s.old_reads ≡ s.new_reads → ⊥) → IsNextPlan h stream p
next-made h stream s p follows sight made distils differs = record {
  of = plan-made h stream s p follows sight made distils;
  same_stream = made.stream ∙ sight.same_stream;
  planned =
      ap (λ (o : Option Spec). plan_of h stream o) sight.output
      ∙ planned-some h stream s.spec (λ same. differs (sight.has_read ∙ same ∙ sym sight.is_to_read))
      ∙ ap (λ (l : Landing). Some l) (sym (landing-made h stream s p sight made));
}

-- If it is to read what it has read, it is up to date.
pub next-none : (h : List Entry) (stream : ℕ) (s : SightValue) → IsSightAfter h stream s → s.old_reads ≡ s.new_reads → IsUpToDate h stream s.base
next-none h stream s sight same = record {
  spec = s.spec;
  output = sight.output;
  nothing = planned-none h stream s.spec (sym sight.has_read ∙ same ∙ sight.is_to_read);
  latest = sight.same_base;
}

-- ---- a plan stays one in each longer history

-- A plan of a history is one of each longer history.
pub plan-stays : (h more : List Entry) (p : PlanValue) → Follows h → IsPlanOf h p → IsPlanOf (h ++ more) p
plan-stays h more p follows is =
    let made = is.made in
    let spec = is.spec in
    let old : Reads = reads h p.stream spec p.base in
    let same : reads (h ++ more) p.stream spec p.base ≡ old = reads-append h more p.stream spec p.base made in
    let was : AreThere h spec old = (follows-output h p.stream spec follows is.output).there p.base made in
    let before = inputs_at-append h more spec old was in
    let after = inputs_at-append h more spec p.reads (may_read-there h spec old p.reads is.may) in
    record {
      spec = spec;
      output = spec_of-stays h more p.stream spec is.output;
      made = omega (arith, latest-more h more p.stream);
      may = subst (λ (r : Reads). may_read (h ++ more) spec r p.reads ≡ true) (sym same) (may_read-more h more spec old p.reads is.may);
      change =
          is.change
          ∙ ap (λ (i : Inputs). distillate spec i (inputs_at h spec p.reads)) (sym before)
          ∙ ap (λ (i : Inputs). distillate spec (inputs_at (h ++ more) spec old) i) (sym after)
          ∙ ap (λ (r : Reads). distillate spec (inputs_at (h ++ more) spec r) (inputs_at (h ++ more) spec p.reads)) (sym same);
    }

-- The same, if the longer history is given.
pub plan-front : (g h : List Entry) (p : PlanValue) → IsFront g h → Follows g → IsPlanOf g p → IsPlanOf h p
plan-front g h p front follows is = subst (λ (l : List Entry). IsPlanOf l p) front.1 (plan-stays g front.0 p follows is)

-- ---- a plan as the model has it

-- The plan stands for the history.
pub plan-stands : (h : List Entry) (p : PlanValue) → IsPlanOf h p → StandsFor h (landing_of p)
plan-stands h p is = record { spec = is.spec; output = is.output; base = is.made; may = is.may }

-- An output that has no later version than the plan follows has this version.
pub plan-current : (h : List Entry) (p : PlanValue) → IsPlanOf h p → latest h p.stream ≤ p.base → IsCurrent h p
plan-current h p is low =
    let made = is.made in
    omega arith

-- If no other version has followed, the plan is the distillate from what the latest version has read.
current-change : (h : List Entry) (p : PlanValue) (is : IsPlanOf h p) → IsCurrent h p → change p ≡ distillate is.spec (inputs_at h is.spec (reads h p.stream is.spec (latest h p.stream))) (inputs_at h is.spec p.reads)
current-change h p is current =
    is.change
    ∙ ap (λ (v : ℕ). distillate is.spec (inputs_at h is.spec (reads h p.stream is.spec v)) (inputs_at h is.spec p.reads)) (sym current)

-- If no other version has followed, the entry of the plan is the one that the model lands.
pub plan-entry : (h : List Entry) (p : PlanValue) (is : IsPlanOf h p) → IsCurrent h p → entry_of p ≡ landing h (landing_of p) is.spec
plan-entry h p is current = ap (λ (c : Change). machine.distillate_entry p.stream c p.reads) (current-change h p is current)

-- ---- why its entry may not follow

-- The reason why a version with the points of the plan may not follow, if no other version has followed.
abbrev pub version_rejection : List Entry → PlanValue → Option Rejection
version_rejection h p =
    first_some (when (nat_le MAX_VERSIONS (latest h p.stream)) VersionLimit ∷ points_rejection (next_bag h p.stream (change p)) ∷ [])

-- All other tests pass.
pub plan-rejection : (h : List Entry) (p : PlanValue) → Follows h → IsPlanOf h p → IsCurrent h p → rejection h (entry_of p) ≡ version_rejection h p
plan-rejection h p follows is current =
    let spec = is.spec in
    let s = p.stream in
    let sound = follows-sound h follows in
    let old : Reads = reads h s spec p.base in
    let c : Change = change p in
    let may : may_read h spec (reads h s spec (latest h s)) p.reads ≡ true = subst (λ (v : ℕ). may_read h spec (reads h s spec v) p.reads ≡ true) (sym current) is.may in
    let takes : takes_reads h s (spec_of h s) p.reads ≡ true = subst (λ (o : Option Spec). takes_reads h s o p.reads ≡ true) (sym is.output) may in
    let few : distillate_change_rejection c ≡ None =
    ap distillate_change_rejection is.change
    ∙ distillate-change_accepted spec (inputs_at h spec old) (inputs_at h spec p.reads) (good-is spec (sound.outputs s spec is.output).defined.good) (inputs-bags h spec p.reads sound) (inputs-few h spec old sound) (inputs-few h spec p.reads sound) in
    ap (λ (t : Bool). first_some (when t NoStream ∷ when (not (takes_reads h s (spec_of h s) p.reads)) NotWritable ∷ distillate_change_rejection c ∷ when (nat_le MAX_VERSIONS (latest h s)) VersionLimit ∷ points_rejection (next_bag h s c) ∷ []))
    (lt-leb (length (ids h)) s (spec_of-known h s spec is.output))
    ∙ ap (λ (t : Bool). first_some (when (not t) NotWritable ∷ distillate_change_rejection c ∷ when (nat_le MAX_VERSIONS (latest h s)) VersionLimit ∷ points_rejection (next_bag h s c) ∷ [])) takes
    ∙ ap (λ (o : Option Rejection). first_some (o ∷ when (nat_le MAX_VERSIONS (latest h s)) VersionLimit ∷ points_rejection (next_bag h s c) ∷ [])) few

is_why : (a b : Rejection) → Some a ≡ Some b → a ≡ b
is_why a b is = cc

points-may_reject : (o : Option ℤ) (t : Bool) (n : ℕ) (why : Rejection) → first_some (first_some (option_map (λ (start : ℤ). Crowded start) o ∷ when t (TooManyPoints n) ∷ []) ∷ []) ≡ Some why → MayReject why
points-may_reject (Some start) t n why is = subst MayReject (is_why (Crowded start) why is) tt
points-may_reject None true n why is = subst MayReject (is_why (TooManyPoints n) why is) tt
points-may_reject None false n why is = absurd (cc)

version-may_reject : (full : Bool) (b : List Point) (why : Rejection) → first_some (when full VersionLimit ∷ points_rejection b ∷ []) ≡ Some why → MayReject why
version-may_reject true b why is = subst MayReject (is_why VersionLimit why is) tt
version-may_reject false b why is = points-may_reject (crowded b) (nat_lt MAX_POINTS (length b)) (length b) why is

-- Its entry is rejected for one of three reasons.
pub plan-may_reject : (h : List Entry) (p : PlanValue) (why : Rejection) → Follows h → IsPlanOf h p → IsCurrent h p → rejection h (entry_of p) ≡ Some why → MayReject why
plan-may_reject h p why follows is current because =
    version-may_reject (nat_le MAX_VERSIONS (latest h p.stream)) (next_bag h p.stream (change p)) why (sym (plan-rejection h p follows is current) ∙ because)

points-not_limit : (o : Option ℤ) (t : Bool) (n : ℕ) → first_some (first_some (option_map (λ (start : ℤ). Crowded start) o ∷ when t (TooManyPoints n) ∷ []) ∷ []) ≡ Some VersionLimit → ⊥
points-not_limit (Some start) t n is = absurd (cc)
points-not_limit None true n is = absurd (cc)
points-not_limit None false n is = absurd (cc)

limit-full : (full : Bool) (b : List Point) → first_some (when full VersionLimit ∷ points_rejection b ∷ []) ≡ Some VersionLimit → full ≡ true
limit-full true b is = refl
limit-full false b is = absurd (points-not_limit (crowded b) (nat_lt MAX_POINTS (length b)) (length b) is)

-- ---- plans of legal histories

-- The entry is what it must be beside what its rejection tests.
pub plan-computed : (h : List Entry) (p : PlanValue) → IsPlanOf h p → IsCurrent h p → IsDistillate h p.stream (change p) p.reads
plan-computed h p is current = record { spec = is.spec; output = is.output; change = current-change h p is current }

-- If the history is legal and the output has room for a version, the entry is allowed.
pub plan-allowed : (h : List Entry) (p : PlanValue) → Legal h → IsPlanOf h p → IsCurrent h p → latest h p.stream < MAX_VERSIONS → Allowed h (entry_of p)
plan-allowed h p legal is current room =
    subst (Allowed h) (sym (plan-entry h p is current))
    (landing-allowed h (landing_of p) is.spec legal (plan-stands h p is) is.output (omega arith) room)

limited : (h : List Entry) (p : PlanValue) → Follows h → IsPlanOf h p → IsCurrent h p → MAX_VERSIONS ≤ latest h p.stream → rejection h (entry_of p) ≡ Some VersionLimit
limited h p follows is current full =
    plan-rejection h p follows is current
    ∙ ap (λ (t : Bool). first_some (when t VersionLimit ∷ points_rejection (next_bag h p.stream (change p)) ∷ [])) (le-leb MAX_VERSIONS (latest h p.stream) full)

-- If the history is legal, the entry is rejected exactly if the model rejects the landing.
pub plan-rejected : (h : List Entry) (p : PlanValue) → Legal h → IsPlanOf h p → IsCurrent h p → rejection h (entry_of p) ≡ landing_rejection h (landing_of p)
plan-rejected h p legal is current =
    ⊎_elim
    (λ room. (plan-allowed h p legal is current room).accepted
    ∙ sym (ap (λ (t : Bool). when t VersionLimit) (lt-leb MAX_VERSIONS (latest h p.stream) room)))
    (λ full. limited h p (legal-follows h legal) is current full
    ∙ sym (ap (λ (t : Bool). when t VersionLimit) (le-leb MAX_VERSIONS (latest h p.stream) full)))
    (cases_lt (latest h p.stream) MAX_VERSIONS)

only_limit : (full : Bool) (why : Rejection) → when full VersionLimit ≡ Some why → why ≡ VersionLimit
only_limit true why is = sym (is_why VersionLimit why is)
only_limit false why is = absurd (cc)

-- If the history is legal, the number of versions is the only reason.
pub plan-limit : (h : List Entry) (p : PlanValue) (why : Rejection) → Legal h → IsPlanOf h p → IsCurrent h p → rejection h (entry_of p) ≡ Some why → why ≡ VersionLimit
plan-limit h p why legal is current because =
    only_limit (nat_le MAX_VERSIONS (latest h p.stream)) why (sym (plan-rejected h p legal is current) ∙ because)

limit-not_crowded : (start : ℤ) → Crowded start ≡ VersionLimit → ⊥
limit-not_crowded start is = absurd (cc)

limit-not_many : (count : ℕ) → TooManyPoints count ≡ VersionLimit → ⊥
limit-not_many count is = absurd (cc)

-- If a bottom span would hold too many points, the history is not legal.
pub plan-not_crowded : (h : List Entry) (p : PlanValue) (start : ℤ) → IsPlanOf h p → IsCurrent h p → rejection h (entry_of p) ≡ Some (Crowded start) → Legal h → ⊥
plan-not_crowded h p start is current because legal = limit-not_crowded start (plan-limit h p (Crowded start) legal is current because)

-- If the version would hold too many points, the history is not legal.
pub plan-not_many : (h : List Entry) (p : PlanValue) (count : ℕ) → IsPlanOf h p → IsCurrent h p → rejection h (entry_of p) ≡ Some (TooManyPoints count) → Legal h → ⊥
plan-not_many h p count is current because legal = limit-not_many count (plan-limit h p (TooManyPoints count) legal is current because)

-- ---- what the model replies to the landing of a plan, and the history after it

-- If another version has followed, the plan changes nothing.
pub reply-superseded : (h : List Entry) (p : PlanValue) → IsPlanOf h p → p.base < latest h p.stream → (reply_to h p ≡ Superseded (latest h p.stream)) × (landed_after h p ≡ h)
reply-superseded h p is late =
    let l = landing_of p in
    let last = latest h p.stream in
    let e = landing h l is.spec in
    let r = landing_rejection h l in (
      ap (λ (o : Option Spec). landing_reply h l o) is.output
          ∙ ap (λ (t : Bool). cond t (Superseded last) (commit_reply h e r)) (lt-ltb p.base last late),
      ap (λ (o : Option Spec). landed h l o) is.output
          ∙ ap (λ (t : Bool). cond t h (committed h e r)) (lt-ltb p.base last late),
    )

-- If none has followed, the entry of the plan is committed.
pub reply-current : (h : List Entry) (p : PlanValue) → IsPlanOf h p → IsCurrent h p → (reply_to h p ≡ commit_reply h (entry_of p) (landing_rejection h (landing_of p))) × (landed_after h p ≡ committed h (entry_of p) (landing_rejection h (landing_of p)))
reply-current h p is current =
    let l = landing_of p in
    let last = latest h p.stream in
    let e = landing h l is.spec in
    let r = landing_rejection h l in
    let low : last ≤ p.base = omega (arith, current) in
    let same = sym (plan-entry h p is current) in (
      ap (λ (o : Option Spec). landing_reply h l o) is.output
          ∙ ap (λ (t : Bool). cond t (Superseded last) (commit_reply h e r)) (le-ltb p.base last low)
          ∙ ap (λ (x : Entry). commit_reply h x r) same,
      ap (λ (o : Option Spec). landed h l o) is.output
          ∙ ap (λ (t : Bool). cond t h (committed h e r)) (le-ltb p.base last low)
          ∙ ap (λ (x : Entry). committed h x r) same,
    )

replied-as : (h : List Entry) (p : PlanValue) (o : Option Rejection) → IsPlanOf h p → IsCurrent h p → landing_rejection h (landing_of p) ≡ o → (reply_to h p ≡ commit_reply h (entry_of p) o) × (landed_after h p ≡ committed h (entry_of p) o)
replied-as h p o is current rejected =
    let both = reply-current h p is current in (
      both.0 ∙ ap (λ (r : Option Rejection). commit_reply h (entry_of p) r) rejected,
      both.1 ∙ ap (λ (r : Option Rejection). committed h (entry_of p) r) rejected,
    )

-- If the entry may follow, the model accepts it.
pub reply-accepted : (h : List Entry) (p : PlanValue) → Follows h → IsPlanOf h p → IsCurrent h p → rejection h (entry_of p) ≡ None → (reply_to h p ≡ Accepted (receipt h (entry_of p))) × (landed_after h p ≡ h ++ entry_of p ∷ [])
reply-accepted h p follows is current accepted =
    let full = nat_le MAX_VERSIONS (latest h p.stream) in
    let rest = points_rejection (next_bag h p.stream (change p)) ∷ [] in
    replied-as h p None is current (first_none (when full VersionLimit) rest (sym (plan-rejection h p follows is current) ∙ accepted))

-- If it may not since the output has as many versions as a stream can have, the model rejects it.
pub reply-limit : (h : List Entry) (p : PlanValue) → Follows h → IsPlanOf h p → IsCurrent h p → rejection h (entry_of p) ≡ Some VersionLimit → (reply_to h p ≡ Rejected VersionLimit) × (landed_after h p ≡ h)
reply-limit h p follows is current because =
    let full = nat_le MAX_VERSIONS (latest h p.stream) in
    replied-as h p (Some VersionLimit) is current
    (ap (λ (t : Bool). when t VersionLimit) (limit-full full (next_bag h p.stream (change p)) (sym (plan-rejection h p follows is current) ∙ because)))

-- If the history is legal, the model accepts the entry exactly if it may follow.
pub reply-legal : (h : List Entry) (p : PlanValue) → Legal h → IsPlanOf h p → IsCurrent h p → (reply_to h p ≡ commit_reply h (entry_of p) (rejection h (entry_of p))) × (landed_after h p ≡ committed h (entry_of p) (rejection h (entry_of p)))
reply-legal h p legal is current =
    replied-as h p (rejection h (entry_of p)) is current (sym (plan-rejected h p legal is current))
