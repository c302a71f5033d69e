-- Lemmas on landings by many workers: each stream has the commits that one worker leaves.
use Rattle.std.specs.Prelude.{◌≡◌, ◌≢◌, ◌⊎◌, ℕ, ◌+◌, ◌-◌, ◌<◌, ◌≤◌, nat_lt, nat_le, Bool, true, false, List, [], ◌∷◌, ◌++◌, length, take, slice_get, slice_index_or, cond, map, Option, Some, None}
use Rattle.std.specs.List.{AllByRecursion, cons_option}
use Rattle.std.specs.Option.{is_some}
use Rattle.std.proofs.Common.{suc, refl, sym, ap, ◌∙◌, subst, arith, inl, inr, length-append, append-nil}
use Rattle.std.proofs.lemmas.Bool.{eq-eqb, ne_eqb, cases_lt, cases_eq, lt-ltb, le-ltb}
use Rattle.btr_base.specs.declared.limits.TheConstants.{MAX_VERSIONS}
use Rattle.btr_base.specs.Commit.{Change}
use Rattle.btr_hist.specs.declared.entry.Entry.{Entry}
use Rattle.btr_hist.specs.declared.kernel.Spec.{Spec}
use Rattle.btr_hist.specs.declared.kernel.Reads.{Reads}
use Rattle.btr_hist.specs.declared.rejection.Rejection.{Rejection}
use Rattle.btr_hist.specs.declared.rejection.Rejection.TheVariants as rejections
use Rattle.btr_hist.specs.Distil.{distillate}
use Rattle.btr_hist.specs.History.{change_of, spec_of, commits, recorded, latest, latest_reads, reads, replay, bag, second_points, inputs_at}
use Rattle.btr_hist.specs.Legal.{Legal, Follows, when}
use Rattle.btr_hist.specs.Machine.{Landing, planned, plan_of, same_reads, landing, landing_rejection, landed, after_landing, committed, commit_reply, receipt, distillate_entry}
use Rattle.btr_hist.specs.Machine as machine
use Rattle.btr_hist.specs.Machine.Reply.{Accepted, Rejected}
use Rattle.btr_hist.proofs.HistoryLemmas.{commits-append, recorded-append, legal-prefix, legal-follows, follows-prefix}
use Rattle.btr_hist.proofs.VersionLemmas.{latest-push}
use Rattle.btr_distil.specs.Plan.{PlanValue}
use Rattle.btr_distil.specs.Plan as plans
use Rattle.btr_gate.specs.Prefixes.{StartsWith}
use Rattle.btr_gate.specs.Numbers.{times, one}
use Rattle.btr_gate.proofs.PrefixLemmas.{starts_refl, starts_trans, starts_length, starts_whole}
use Rattle.btr_hall.specs.declared.land.LandFault.TheVariants as faults
use Rattle.btr_plan.specs.Next.{IsUpToDate, IsNextPlan}
use Rattle.btr_plan.specs.Plan.{IsPlanOf, IsCurrent, landing_of, reply_to}
use Rattle.btr_plan.proofs.PlanLemmas.{plan-stays, plan-entry, reply-current}
use Rattle.btr_jobs.specs.States.{StoreState, LogState}
use Rattle.btr_work.specs.declared.report.Refreshed.{Refreshed}
use Rattle.btr_work.specs.declared.report.Refreshed.TheVariants as refreshed
use Rattle.btr_work.specs.Report.{IsRefreshed, RefreshesEach, RefreshesLevels, Refreshes}
use Rattle.btr_work.specs.declared.report.RefreshLine.{RefreshLine}
use Rattle.btr_work.specs.Levels.{levels_of, outputs, AreGroups}
use Rattle.btr_work.specs.Laws.{AreAllSince}
use Rattle.btr_work.specs.Alike.{landed_next, landed_each, landed_levels, result_by, IsUndisturbed, IsAlike, RefreshedIsAlike}
use Rattle.btr_gate.proofs.NumberLemmas.{one_other, given_inside}
use Rattle.btr_work.proofs.OwnLemmas.{same_some, AreAll, IsSplit, each-split, levels-owned, all-first, all-rest}
use Rattle.btr_work.proofs.CurrentLemmas.{spec-stays, level-quiet, mine-quiet, not-superseded, levels-quiet, all-since}
use Rattle.btr_work.proofs.MemberLemmas.{IsIn, IsInAny, Distinct, Graded, groups-graded, groups-unique, graded-above, first-lower, second-below, level-output, output-level, output-in, output-spec}
use Rattle.btr_work.proofs.QuietLemmas.{IsOther, Quiet, Same, same_refl, same_sym, same_trans, quiet-same, quiet-more, quiet-less, get-past, get-before, SameInputs, latest-same, latest_reads-same, reads-same, planned-same}

-- ---- what is planned and landed depends on the commits of the output and of its inputs

same-append : (stream : ℕ) (a b more : List Entry) → Same stream a b → Same stream (a ++ more) (b ++ more)
same-append stream a b more same = record {
  commits = commits-append b more stream ∙ ap (λ l. l ++ commits more stream) same.commits ∙ sym (commits-append a more stream);
  recorded = recorded-append b more stream ∙ ap (λ l. l ++ recorded more stream) same.recorded ∙ sym (recorded-append a more stream);
}

other-append : (stream : ℕ) (a : List Entry) (e : Entry) → IsOther stream e → Same stream a (a ++ e ∷ [])
other-append stream a e other = record {
  commits = commits-append a (e ∷ []) stream ∙ ap (λ (o : Option Change). commits a stream ++ cons_option o []) other.change ∙ append-nil (commits a stream);
  recorded = recorded-append a (e ∷ []) stream ∙ ap (λ (o : Option (Option Reads)). recorded a stream ++ cons_option o []) other.read ∙ append-nil (recorded a stream);
}

-- A distillate is no commit of another stream.
entry-other : (output : ℕ) (c : Change) (r : Reads) (stream : ℕ) → output ≢ stream → IsOther stream (distillate_entry output c r)
entry-other output c r stream differs =
    let no = ne_eqb output stream differs in
    record {
      change = ap (λ b. cond {A = Option Change} b (Some c) None) no;
      read = ap (λ b. cond {A = Option (Option Reads)} b (Some (Some r)) None) no;
    }

module _ (a b : List Entry) where
  bag-same : (stream version : ℕ) → Same stream a b → bag b stream version ≡ bag a stream version
  bag-same stream version same = ap (λ cs. replay [] (take version cs)) same.commits

  second-same : (second version : Option ℕ) → ((s : ℕ) → second ≡ Some s → Same s a b) → second_points b second version ≡ second_points a second version
  second-same None None each = refl
  second-same None (Some v) each = refl
  second-same (Some s) None each = refl
  second-same (Some s) (Some v) each = bag-same s v (each s refl)

  inputs-same : (spec : Spec) (r : Reads) → SameInputs a b spec → inputs_at b spec r ≡ inputs_at a spec r
  inputs-same spec r same =
      let first = bag-same spec.first r.first same.first in
      let second = second-same spec.second r.second same.second in
      λ i. record { first = first i; second = second i }

-- The plan of the model for an output.
abbrev next : List Entry → ℕ → Spec → Landing
next h output spec = record { stream = output; base = latest h output; reads = latest_reads h spec }

-- The history after it is landed.
abbrev after_next : List Entry → ℕ → Spec → Bool → List Entry
after_next h output spec up_to_date =
    cond up_to_date h (committed h (landing h (next h output spec) spec) (landing_rejection h (next h output spec)))

-- Whether an output has read the latest versions of its inputs.
abbrev is_current : List Entry → ℕ → Spec → Bool
is_current h output spec = same_reads (reads h output spec (latest h output)) (latest_reads h spec)

landed-some : (h : List Entry) (output : ℕ) (spec : Spec) → spec_of h output ≡ Some spec → after_landing h (Some (next h output spec)) ≡ after_next h output spec false
landed-some h output spec is =
    ap (λ o. landed h (next h output spec) o) is
    ∙ ap (λ t. cond t h (committed h (landing h (next h output spec) spec) (landing_rejection h (next h output spec)))) (le-ltb (latest h output) (latest h output) (omega arith))

landed-is : (h : List Entry) (output : ℕ) (spec : Spec) → spec_of h output ≡ Some spec → landed_next h output ≡ after_next h output spec (is_current h output spec)
landed-is h output spec is =
    ap (λ o. after_landing h (plan_of h output o)) is
    ∙ elim (is_current h output spec) as (λ t. after_landing h (cond {A = Option Landing} t None (Some (next h output spec))) ≡ after_next h output spec t) [
      | true ↦ refl
      | false ↦ landed-some h output spec is
    ]

committed-same : (stream : ℕ) (a b : List Entry) (e : Entry) (r : Option Rejection) → Same stream a b → Same stream (committed a e r) (committed b e r)
committed-same stream a b e None same = same-append stream a b (e ∷ []) same
committed-same stream a b e (Some r) same = same

committed-other : (stream : ℕ) (h : List Entry) (e : Entry) (r : Option Rejection) → IsOther stream e → Same stream h (committed h e r)
committed-other stream h e None other = other-append stream h e other
committed-other stream h e (Some r) other = same_refl stream h

chosen-same : (stream : ℕ) (a b x y : List Entry) (t : Bool) → Same stream a b → Same stream x y → Same stream (cond t a x) (cond t b y)
chosen-same stream a b x y true first second = first
chosen-same stream a b x y false first second = second

chosen-from : (stream : ℕ) (h x : List Entry) (t : Bool) → Same stream h x → Same stream h (cond t h x)
chosen-from stream h x true same = same_refl stream h
chosen-from stream h x false same = same

-- The landing of an output leaves the same commits of it, if it and its inputs had the same commits.
pub landed-same : (a b : List Entry) (output : ℕ) (spec : Spec) → spec_of a output ≡ Some spec → spec_of b output ≡ Some spec → Same output a b → SameInputs a b spec → Same output (landed_next a output) (landed_next b output)
landed-same a b output spec in_a in_b same inputs =
    let last : latest b output ≡ latest a output = latest-same a b output same in
    let to_read : latest_reads b spec ≡ latest_reads a spec = latest_reads-same a b spec inputs in
    let has_read : reads b output spec (latest b output) ≡ reads a output spec (latest a output) =
    ap (reads b output spec) last ∙ reads-same a b output spec (latest a output) same in
    let old : inputs_at b spec (reads b output spec (latest b output)) ≡ inputs_at a spec (reads a output spec (latest a output)) =
    ap (inputs_at b spec) has_read ∙ inputs-same a b spec (reads a output spec (latest a output)) inputs in
    let new : inputs_at b spec (latest_reads b spec) ≡ inputs_at a spec (latest_reads a spec) =
    ap (inputs_at b spec) to_read ∙ inputs-same a b spec (latest_reads a spec) inputs in
    let entry : landing b (next b output spec) spec ≡ landing a (next a output spec) spec =
    λ i. distillate_entry output (distillate spec (old i) (new i)) (to_read i) in
    let refused : landing_rejection b (next b output spec) ≡ landing_rejection a (next a output spec) =
    ap (λ n. when (nat_le MAX_VERSIONS n) rejections.VersionLimit) last in
    let current : is_current b output spec ≡ is_current a output spec = λ i. same_reads (has_read i) (to_read i) in
    let e = landing a (next a output spec) spec in
    let r = landing_rejection a (next a output spec) in
    let t = is_current a output spec in
    let b_is : landed_next b output ≡ cond t b (committed b e r) =
    landed-is b output spec in_b ∙ ap (after_next b output spec) current ∙ (λ i. cond t b (committed b (entry i) (refused i))) in
    subst (Same output (landed_next a output)) (sym b_is)
    (subst (λ l. Same output l (cond t b (committed b e r))) (sym (landed-is a output spec in_a))
    (chosen-same output a b (committed a e r) (committed b e r) t same (committed-same output a b e r same)))

-- It leaves the other streams alone.
pub landed-other : (h : List Entry) (output : ℕ) (spec : Spec) (stream : ℕ) → spec_of h output ≡ Some spec → output ≢ stream → Same stream h (landed_next h output)
landed-other h output spec stream is differs =
    let l = next h output spec in
    let other = entry-other output (distillate spec (inputs_at h spec (reads h output spec (latest h output))) (inputs_at h spec l.reads)) l.reads stream differs in
    subst (Same stream h) (sym (landed-is h output spec is))
    (chosen-from stream h (committed h (landing h l spec) (landing_rejection h l)) (is_current h output spec)
    (committed-other stream h (landing h l spec) (landing_rejection h l) other))

committed-starts : (h : List Entry) (e : Entry) (r : Option Rejection) → StartsWith (committed h e r) h
committed-starts h e None = (e ∷ [], refl)
committed-starts h e (Some r) = starts_refl h

chosen-starts : (h x : List Entry) (t : Bool) → StartsWith x h → StartsWith (cond t h x) h
chosen-starts h x true starts = starts_refl h
chosen-starts h x false starts = starts

pub landed-starts : (h : List Entry) (output : ℕ) (spec : Spec) → spec_of h output ≡ Some spec → StartsWith (landed_next h output) h
landed-starts h output spec is =
    let l = next h output spec in
    subst (λ x. StartsWith x h) (sym (landed-is h output spec is))
    (chosen-starts h (committed h (landing h l spec) (landing_rejection h l)) (is_current h output spec) (committed-starts h (landing h l spec) (landing_rejection h l)))

-- ---- a level, one output after another

-- Each of these is an output.
abbrev pub AreOutputs : List Entry → List ℕ → Type 0
AreOutputs h outputs = (output : ℕ) → IsIn output outputs → (spec : Spec) × (spec_of h output ≡ Some spec)

module _ (seen : List Entry) where
  pub each-starts : (h : List Entry) (outputs : List ℕ) → StartsWith h seen → AreOutputs seen outputs → StartsWith (landed_each h outputs) h
  each-starts h [] starts are = starts_refl h
  each-starts h (output ∷ outputs) starts are =
      let spec = are output (inl refl) in
      let first = landed-starts h output spec.0 (spec-stays h seen output spec.0 starts spec.1) in
      starts_trans (landed_each (landed_next h output) outputs) (landed_next h output) h
      (each-starts (landed_next h output) outputs (starts_trans (landed_next h output) h seen first starts) (λ s is. are s (inr is))) first

  -- A stream that is none of the outputs is left alone.
  pub each-other : (h : List Entry) (outputs : List ℕ) (stream : ℕ) → StartsWith h seen → AreOutputs seen outputs → (IsIn stream outputs → ⊥) → Same stream h (landed_each h outputs)
  each-other h [] stream starts are not = same_refl stream h
  each-other h (output ∷ outputs) stream starts are not =
      let spec = are output (inl refl) in
      let here = spec-stays h seen output spec.0 starts spec.1 in
      let first = landed-starts h output spec.0 here in
      same_trans stream h (landed_next h output) (landed_each (landed_next h output) outputs)
      (landed-other h output spec.0 stream here (λ same. not (inl (sym same))))
      (each-other (landed_next h output) outputs stream (starts_trans (landed_next h output) h seen first starts) (λ s is. are s (inr is)) (λ is. not (inr is)))

  -- An output has what its landing alone leaves, if its inputs are none of the outputs.
  pub each-mine : (h : List Entry) (outputs : List ℕ) (output : ℕ) (spec : Spec) → StartsWith h seen → AreOutputs seen outputs → Distinct outputs → IsIn output outputs → spec_of seen output ≡ Some spec → (IsIn spec.first outputs → ⊥) → ((s : ℕ) → spec.second ≡ Some s → IsIn s outputs → ⊥) → Same output (landed_next h output) (landed_each h outputs)
  each-mine h [] output spec starts are distinct is spec_is not_first not_second = absurd is
  each-mine h (first ∷ outputs) output spec starts are distinct (inl here) spec_is not_first not_second =
      let mid = landed_next h first in
      let first_spec = are first (inl refl) in
      let mid_starts = starts_trans mid h seen (landed-starts h first first_spec.0 (spec-stays h seen first first_spec.0 starts first_spec.1)) starts in
      subst (λ s. Same output (landed_next h s) (landed_each mid outputs)) (sym here)
      (each-other mid outputs output mid_starts (λ s is. are s (inr is)) (λ is. distinct.0 (subst (λ s. IsIn s outputs) here is)))
  each-mine h (first ∷ outputs) output spec starts are distinct (inr later) spec_is not_first not_second =
      let mid = landed_next h first in
      let first_spec = are first (inl refl) in
      let in_h = spec-stays h seen first first_spec.0 starts first_spec.1 in
      let mid_starts = starts_trans mid h seen (landed-starts h first first_spec.0 in_h) starts in
      let other : (stream : ℕ) → first ≢ stream → Same stream h mid = λ stream differs. landed-other h first first_spec.0 stream in_h differs in
      let inputs : SameInputs h mid spec = record {
        first = other spec.first (λ same. not_first (inl (sym same)));
        second = λ s is. other s (λ same. not_second s is (inl (sym same)));
      } in
      let rest = each-mine mid outputs output spec mid_starts (λ s is. are s (inr is)) distinct.1 later spec_is (λ is. not_first (inr is)) (λ s at is. not_second s at (inr is)) in
      same_trans output (landed_next h output) (landed_next mid output) (landed_each mid outputs)
      (landed-same h mid output spec (spec-stays h seen output spec starts spec_is) (spec-stays mid seen output spec mid_starts spec_is)
      (other output (λ same. distinct.0 (subst (λ s. IsIn s outputs) (sym same) later))) inputs)
      rest

-- ---- what the landings by many workers leave

same-sum : (n m : ℕ) → n ≡ m → n < m → ⊥
same-sum n m same less = absurd (omega (arith, same, less))

accepted-none : (h : List Entry) (e : Entry) (o : Option Rejection) (r : machine.Receipt) → commit_reply h e o ≡ Accepted r → o ≡ None
accepted-none h e None r is = refl
accepted-none h e (Some why) r is = absurd (cc)

rejected-some : (h : List Entry) (e : Entry) (o : Option Rejection) (why : Rejection) → commit_reply h e o ≡ Rejected why → o ≡ Some why
rejected-some h e None why is = absurd (cc)
rejected-some h e (Some other) why is = let same : other ≡ why = cc in ap (λ (r : Rejection). Some r) same

planned-parts : (h : List Entry) (output : ℕ) (spec : Spec) (l : Landing) (t : Bool) → cond {A = Option Landing} t None (Some (next h output spec)) ≡ Some l → (t ≡ false) × (next h output spec ≡ l)
planned-parts h output spec l true is = absurd (cc)
planned-parts h output spec l false is = (refl, same_some (next h output spec) l is)

planned-none-parts : (h : List Entry) (output : ℕ) (spec : Spec) (t : Bool) → cond {A = Option Landing} t None (Some (next h output spec)) ≡ None → t ≡ true
planned-none-parts h output spec true is = refl
planned-none-parts h output spec false is = absurd (cc)

-- A plan that was made at `at` is landed at p, and nothing was added to the output and to its inputs in between.
module _ (at p : List Entry) (output : ℕ) (spec : Spec) (plan : PlanValue) (follows : Follows p) (starts : StartsWith p at) (is_spec : spec_of at output ≡ Some spec) (is : IsNextPlan at output plan) (same : Same output at p) (inputs : SameInputs at p spec) where
  at-follows : Follows at
  at-follows = follows-prefix at starts.0 (subst Follows starts.1 follows)

  plan-here : IsPlanOf p plan
  plan-here = subst (λ l. IsPlanOf l plan) (sym starts.1) (plan-stays at starts.0 plan at-follows is.of)

  parts : (is_current at output spec ≡ false) × (next at output spec ≡ landing_of plan)
  parts = planned-parts at output spec (landing_of plan) (is_current at output spec) (sym (ap (plan_of at output) is_spec) ∙ is.planned)

  last : latest p output ≡ latest at output
  last = latest-same at p output same

  pub plan-current : IsCurrent p plan
  plan-current =
      ap (latest p) is.same_stream ∙ last ∙ ap (λ (l : Landing). l.base) parts.1

  next-here : next p output spec ≡ landing_of plan
  next-here =
      let to_read = latest_reads-same at p spec inputs in
      (λ i. record { stream = output; base = last i; reads = to_read i }) ∙ parts.1

  current-here : is_current p output spec ≡ false
  current-here =
      let to_read = latest_reads-same at p spec inputs in
      let has_read : reads p output spec (latest p output) ≡ reads at output spec (latest at output) = ap (reads p output spec) last ∙ reads-same at p output spec (latest at output) same in
      (λ i. same_reads (has_read i) (to_read i)) ∙ parts.0

  spec-here : spec_of p output ≡ Some spec
  spec-here = spec-stays p at output spec starts is_spec

  pub entry-here : landing p (landing_of plan) spec ≡ plans.entry_of plan
  entry-here =
      let own : spec_of p plan.stream ≡ Some spec = ap (spec_of p) is.same_stream ∙ spec-here in
      let same_one : plan-here.spec ≡ spec = same_some plan-here.spec spec (sym plan-here.output ∙ own) in
      sym (plan-entry p plan plan-here plan-current ∙ ap (landing p (landing_of plan)) same_one)

  -- What its landing leaves at p.
  pub landed-here : landed_next p output ≡ committed p (plans.entry_of plan) (landing_rejection p (landing_of plan))
  landed-here =
      landed-is p output spec spec-here ∙ ap (after_next p output spec) current-here
      ∙ ap (λ (l : Landing). committed p (landing p l spec) (landing_rejection p l)) next-here
      ∙ ap (λ (e : Entry). committed p e (landing_rejection p (landing_of plan))) entry-here

  pub accepted-here : (r : machine.Receipt) → reply_to p plan ≡ Accepted r → landing_rejection p (landing_of plan) ≡ None
  accepted-here r reply =
      accepted-none p (plans.entry_of plan) (landing_rejection p (landing_of plan)) r (sym (reply-current p plan plan-here plan-current).0 ∙ reply)

  pub rejected-here : (why : Rejection) → reply_to p plan ≡ Rejected why → landing_rejection p (landing_of plan) ≡ Some why
  rejected-here why reply =
      rejected-some p (plans.entry_of plan) (landing_rejection p (landing_of plan)) why (sym (reply-current p plan plan-here plan-current).0 ∙ reply)

-- ---- the result of an output, by the versions before and after

module _ (low hist : List Entry) (output : ℕ) where
  abbrev chosen : Bool → Bool → Refreshed
  chosen more behind =
      cond more (refreshed.Landed (latest hist output)) (cond behind (refreshed.Refused faults.VersionLimit) (refreshed.Current (latest hist output)))

  behind : (o : Option Landing) → plan_of hist output (spec_of hist output) ≡ o → nat_lt (latest low output) (latest hist output) ≡ false → result_by low hist output ≡ chosen false (is_some o)
  behind o is not_more = ap (λ t. chosen t (is_some (plan_of hist output (spec_of hist output)))) not_more ∙ ap (λ x. chosen false (is_some x)) is

  result-landed : (version : ℕ) → latest low output < latest hist output → version ≡ latest hist output → refreshed.Landed version ≡ result_by low hist output
  result-landed version more is =
      ap refreshed.Landed is ∙ sym (ap (λ t. chosen t (is_some (plan_of hist output (spec_of hist output)))) (lt-ltb (latest low output) (latest hist output) more))

  module _ (spec : Spec) (is_spec : spec_of hist output ≡ Some spec) (same : Same output low hist) (inputs : SameInputs low hist spec) where
    planned-hist : plan_of hist output (spec_of hist output) ≡ planned low output spec
    planned-hist = ap (plan_of hist output) is_spec ∙ planned-same low hist output spec same inputs

    no-more : nat_lt (latest low output) (latest hist output) ≡ false
    no-more = le-ltb (latest low output) (latest hist output) (let l = latest-same low hist output same in omega (arith, l))

    result-current : (version : ℕ) → planned low output spec ≡ None → version ≡ latest hist output → refreshed.Current version ≡ result_by low hist output
    result-current version none is = ap refreshed.Current is ∙ sym (behind None (planned-hist ∙ none) no-more)

    result-limit : (l : Landing) → planned low output spec ≡ Some l → refreshed.Refused faults.VersionLimit ≡ result_by low hist output
    result-limit l some = sym (behind (Some l) (planned-hist ∙ some) no-more)

-- It depends on the commits of the output and of its inputs alone.
pub result-same : (low other hist after : List Entry) (output : ℕ) (spec : Spec) → spec_of hist output ≡ Some spec → spec_of after output ≡ Some spec → Same output low other → Same output hist after → SameInputs hist after spec → result_by other after output ≡ result_by low hist output
result-same low other hist after output spec in_hist in_after before same inputs =
    let from = latest-same low other output before in
    let to = latest-same hist after output same in
    let plan : plan_of after output (spec_of after output) ≡ plan_of hist output (spec_of hist output) =
    ap (plan_of after output) in_after ∙ planned-same hist after output spec same inputs ∙ sym (ap (plan_of hist output) in_hist) in
    λ i. cond (nat_lt (from i) (to i)) (refreshed.Landed (to i)) (cond (is_some (plan i)) (refreshed.Refused faults.VersionLimit) (refreshed.Current (to i)))

-- ---- one output of a level

module _ (low hist : List Entry) (output : ℕ) (spec : Spec) (is_spec : spec_of low output ≡ Some spec) (whole : StartsWith hist low) (first : Quiet spec.first low hist) (second : (s : ℕ) → spec.second ≡ Some s → Quiet s low hist) where
  inputs-between : (a b : List Entry) → StartsWith a low → StartsWith b a → StartsWith hist b → SameInputs a b spec
  inputs-between a b above starts inside = record {
    first = quiet-same spec.first a b starts (quiet-more spec.first low a b above (quiet-less spec.first low b hist inside first));
    second = λ s is. quiet-same s a b starts (quiet-more s low a b above (quiet-less s low b hist inside (second s is)));
  }

  -- What is said of an output in the end.
  abbrev pub IsEnd : Refreshed → Type 0
  IsEnd r = Same output (landed_next low output) hist × (r ≡ result_by low hist output)

  -- An output that was up to date.
  pub end-current : (at : List Entry) (version : ℕ) → StartsWith at low → StartsWith hist at → IsUpToDate at output version → Quiet output low hist → IsEnd (refreshed.Current version)
  end-current at version above inside is quiet =
      let same_at = quiet-same output low at above (quiet-less output low at hist inside quiet) in
      let same_hist = quiet-same output low hist whole quiet in
      let spec_same : is.spec ≡ spec = same_some is.spec spec (sym is.output ∙ spec-stays at low output spec above is_spec) in
      let none : planned low output spec ≡ None =
      sym (planned-same low at output spec same_at (inputs-between low at (starts_refl low) above inside)) ∙ ap (planned at output) (sym spec_same) ∙ is.nothing in
      let landed : landed_next low output ≡ low =
      landed-is low output spec is_spec ∙ ap (after_next low output spec) (planned-none-parts low output spec (is_current low output spec) none) in
      let version_is : version ≡ latest hist output = is.latest ∙ latest-same low at output same_at ∙ sym (latest-same low hist output same_hist) in (
        subst (λ l. Same output l hist) (sym landed) same_hist,
        result-current low hist output spec (spec-stays hist low output spec whole is_spec) same_hist (inputs-between low hist (starts_refl low) whole (starts_refl hist)) version none version_is,
      )

  module _ (at p : List Entry) (plan : PlanValue) (follows : Follows p) (above : StartsWith at low) (starts : StartsWith p at) (inside : StartsWith hist p) (is : IsNextPlan at output plan) (quiet : Quiet output low p) where
    low-p : StartsWith p low
    low-p = starts_trans p at low starts above

    same-at : Same output at p
    same-at = quiet-same output at p starts (quiet-more output low at p above quiet)

    same-low : Same output low p
    same-low = quiet-same output low p low-p quiet

    spec-at : spec_of at output ≡ Some spec
    spec-at = spec-stays at low output spec above is_spec

    inputs-at : SameInputs at p spec
    inputs-at = inputs-between at p above starts inside

    landed-p : Same output (landed_next low output) (landed_next p output)
    landed-p = landed-same low p output spec is_spec (spec-stays p low output spec low-p is_spec) same-low (inputs-between low p (starts_refl low) low-p inside)

    p-is : landed_next p output ≡ committed p (plans.entry_of plan) (landing_rejection p (landing_of plan))
    p-is = landed-here at p output spec plan follows starts spec-at is same-at inputs-at

    -- An output whose plan landed.
    pub end-landed : (version : ℕ) (r : machine.Receipt) → reply_to p plan ≡ Accepted r → version ≡ latest p plan.stream + 1 → StartsWith hist (p ++ plans.entry_of plan ∷ []) → Quiet output (p ++ plans.entry_of plan ∷ []) hist → IsEnd (refreshed.Landed version)
    end-landed version r reply version_is follows_p after =
        let e = plans.entry_of plan in
        let none = accepted-here at p output spec plan follows starts spec-at is same-at inputs-at r reply in
        let landed : landed_next p output ≡ p ++ e ∷ [] = p-is ∙ ap (committed p e) none in
        let same_hist = quiet-same output (p ++ e ∷ []) hist follows_p after in
        let yes = eq-eqb plan.stream output is.same_stream in
        let changes : change_of output e ≡ Some (plans.change plan) = ap (λ b. cond {A = Option Change} b (Some (plans.change plan)) None) yes in
        let pushed = latest-push p e output (plans.change plan) changes in
        let from = latest-same low p output same-low in
        let to = latest-same (p ++ e ∷ []) hist output same_hist in
        let own : latest p plan.stream ≡ latest p output = ap (latest p) is.same_stream in (
          same_trans output (landed_next low output) (landed_next p output) hist landed-p (subst (λ l. Same output l hist) (sym landed) same_hist),
          result-landed low hist output version (omega (arith, pushed, from, to)) (omega (arith, version_is, own, pushed, to)),
        )

    -- An output that has as many versions as a stream can have.
    pub end-limit : reply_to p plan ≡ Rejected rejections.VersionLimit → Quiet output low hist → IsEnd (refreshed.Refused faults.VersionLimit)
    end-limit reply quiet_hist =
        let e = plans.entry_of plan in
        let why = rejected-here at p output spec plan follows starts spec-at is same-at inputs-at rejections.VersionLimit reply in
        let landed : landed_next p output ≡ p = p-is ∙ ap (committed p e) why in
        let same_hist = quiet-same output low hist whole quiet_hist in
        let same_p : Same output p hist = quiet-same output p hist inside (quiet-more output low p hist low-p quiet_hist) in
        let some : planned low output spec ≡ Some (landing_of plan) =
        sym (planned-same low at output spec (quiet-same output low at above (quiet-less output low at p starts quiet)) (inputs-between low at (starts_refl low) above (starts_trans hist p at inside starts)))
        ∙ sym (ap (plan_of at output) spec-at) ∙ is.planned in (
          same_trans output (landed_next low output) (landed_next p output) hist landed-p (subst (λ l. Same output l hist) (sym landed) same_p),
          result-limit low hist output spec (spec-stays hist low output spec whole is_spec) same_hist (inputs-between low hist (starts_refl low) whole (starts_refl hist)) (landing_of plan) some,
        )

module _ (start : StoreState) (log : LogState) (low : List Entry) (result : ℕ → Refreshed) (level own : List ℕ) (refreshes : RefreshesEach start log low result level own) (all : AreAll low log.history own) (output : ℕ) (split : IsSplit start log low result output level own) (legal : Legal log.history) (spec : Spec) (is_spec : spec_of low output ≡ Some spec) (whole : StartsWith log.history low) (first : Quiet spec.first low log.history) (second : (s : ℕ) → spec.second ≡ Some s → Quiet s low log.history) where
  abbrev pub hist : List Entry
  hist = log.history

  quiet-idle : split.mine ≡ [] → Quiet output low hist
  quiet-idle none n after e at = mine-quiet start log low result level own refreshes all output split n after (ap (times n) none) e at

  follows-at : (p : List Entry) → StartsWith hist p → Legal p
  follows-at p inside = legal-prefix p inside.0 (subst Legal inside.1 legal)

  -- The output has in the end what its landing alone leaves, and its result is by that.
  pub level-end : (r : Refreshed) → IsUndisturbed r → IsRefreshed start log low output r split.mine → IsEnd low hist output spec is_spec whole first second r
  level-end (refreshed.Landed version) free is =
      let l = is.2 in
      let p = l.landed.0 in
      let e = plans.entry_of l.plan in
      let added = l.landed.3.2 in
      let long = length-append p (e ∷ []) in
      let besides : (n : ℕ) → length low < n → (n ≡ length p + 1 → ⊥) → (x : Entry) → slice_get hist (n - 1) ≡ Some x → IsOther output x = λ n after differs x at.
      let m = one_other (length p + 1) n (λ same. differs (sym same)) in
      let none : times n split.mine ≡ 0 = ap (times n) added.own ∙ (omega (arith, m)) in
      mine-quiet start log low result level own refreshes all output split n after none x at in
      let quiet : Quiet output low p = λ n after x at.
      let inside = get-past p (n - 1) x at in
      besides n after (λ same. absurd (omega (arith, same, inside))) x
      (ap (λ h. slice_get h (n - 1)) l.landed.2.1 ∙ get-before p l.landed.2.0 (n - 1) inside ∙ at) in
      let after : Quiet output (p ++ e ∷ []) hist = λ n more x at.
      let above : length low < n = omega (arith, more, long, starts_length p l.at l.landed.1, starts_length l.at low l.after) in
      besides n above (λ same. absurd (omega (arith, same, more, long))) x at in
      end-landed low hist output spec is_spec whole first second l.at p l.plan (legal-follows p (follows-at p l.landed.2)) l.after l.landed.1 l.landed.2 l.planned quiet
      version (machine.receipt p e) l.landed.3.0 (is.1 ∙ l.landed.3.1.version) added.follows after
  level-end (refreshed.Current version) free is =
      end-current low hist output spec is_spec whole first second is.at version is.after is.seen is.current (quiet-idle is.none)
  level-end (refreshed.Refused faults.VersionLimit) free is =
      let p = is.landed.0 in
      let quiet = quiet-idle is.landed.3.2.own in
      end-limit low hist output spec is_spec whole first second is.at p is.plan (legal-follows p (follows-at p is.landed.2)) is.after is.landed.1 is.landed.2 is.planned (quiet-less output low p hist is.landed.2 quiet)
      is.landed.3.1 quiet
  level-end (refreshed.Refused (faults.Superseded version)) free is =
      absurd (not-superseded start log low result level own refreshes all output split spec version is_spec is)
  level-end (refreshed.Refused (faults.Crowded at)) free is = absurd (is.landed.3.2 (follows-at is.landed.0 is.landed.2))
  level-end (refreshed.Refused (faults.TooManyPoints count)) free is = absurd (is.landed.3.2 (follows-at is.landed.0 is.landed.2))
  level-end (refreshed.Refused (faults.Stopped entries)) free is = absurd free
  level-end (refreshed.Refused faults.Sealed) free is = absurd free
  level-end (refreshed.Refused faults.Want) free is = absurd free
  level-end (refreshed.Refused (faults.DeviceFull need left)) free is = absurd free
  level-end (refreshed.Refused faults.DeviceFault) free is = absurd free

-- ---- all levels

in-cases : (x : ℕ) (xs : List ℕ) → IsIn x xs ⊎ (IsIn x xs → ⊥)
in-cases x [] = inr (λ is. is)
in-cases x (y ∷ ys) =
    elim (cases_eq x y) [
      | inl same ↦ inl (inl same)
      | inr other ↦ elim (in-cases x ys) [
        | inl later ↦ inl (inr later)
        | inr not ↦ inr (λ is. elim is as (λ _. ⊥) [ inl same ↦ absurd (other same) | inr later ↦ absurd (not later) ])
      ]
    ]

-- Each of these is an output.
abbrev AreAllOutputs : List Entry → List (List ℕ) → Type 0
AreAllOutputs h levels = (output : ℕ) → IsInAny output levels → (spec : Spec) × (spec_of h output ≡ Some spec)

levels-starts : (seen h : List Entry) (levels : List (List ℕ)) → StartsWith h seen → AreAllOutputs seen levels → StartsWith (landed_levels h levels) seen
levels-starts seen h [] starts are = starts
levels-starts seen h (level ∷ levels) starts are =
    levels-starts seen (landed_each h level) levels
    (starts_trans (landed_each h level) h seen (each-starts seen h level starts (λ s is. are s (inl is))) starts) (λ s is. are s (inr is))

module _ (start : StoreState) (result : ℕ → Refreshed) (seen : List Entry) (follows : Follows seen) where
  abbrev of : ℕ → ℕ
  of stream = slice_index_or (levels_of seen) stream 0

  -- What is said of a level.
  module _ (base : ℕ) (low : List Entry) (level : List ℕ) (levels : List (List ℕ)) (late : LogState) (own : List ℕ) (begins : StartsWith low seen) (graded : Graded (levels_of seen) base (level ∷ levels)) (are : AreAllOutputs seen (level ∷ levels)) (refreshes : RefreshesLevels start low result (level ∷ levels) late own) (all : AreAll low late.history own) (legal : Legal late.history) (free : (s : ℕ) → IsInAny s (level ∷ levels) → IsUndisturbed (result s)) where
    abbrev middle : LogState
    middle = refreshes.0

    first-all : AreAll low middle.history refreshes.3
    first-all = all-first start result low level levels late own refreshes all

    legal-middle : Legal middle.history
    legal-middle = legal-prefix middle.history refreshes.1.begins.0 (subst Legal refreshes.1.begins.1 legal)

    quiet-other : (stream : ℕ) → (IsIn stream level → ⊥) → Quiet stream low middle.history
    quiet-other stream not = level-quiet start middle low result level refreshes.3 refreshes.5 first-all stream not

    lower-not : (stream : ℕ) → of stream < base → IsIn stream level → ⊥
    lower-not stream lower is = absurd (omega (arith, lower, graded.0 stream is))

    end-first : (output : ℕ) (here : IsIn output level) → Quiet (are output (inl here)).0.first low middle.history
    end-first output here =
        let spec = are output (inl here) in
        quiet-other spec.0.first (lower-not spec.0.first (omega (arith, first-lower seen follows output spec.0 spec.1, graded.0 output here)))

    end-second : (output : ℕ) (here : IsIn output level) (s : ℕ) → (are output (inl here)).0.second ≡ Some s → Quiet s low middle.history
    end-second output here s is =
        let spec = are output (inl here) in
        quiet-other s (lower-not s (omega (arith, second-below seen follows output spec.0 spec.1 s is, graded.0 output here)))

    -- An output of the level has at its end what its landing alone leaves.
    level-ends : (output : ℕ) → IsIn output level → Same output (landed_next low output) middle.history × (result output ≡ result_by low middle.history output)
    level-ends output here =
        let spec = are output (inl here) in
        let split = each-split start middle low result level refreshes.3 output refreshes.5 graded.1 here in
        level-end start middle low result level refreshes.3 refreshes.5 first-all output split legal-middle spec.0 (spec-stays low seen output spec.0 begins spec.1) refreshes.2
        (end-first output here) (end-second output here) (result output) (free output (inl here)) split.refreshed

    -- If each stream had the same commits before the level, each has so after it.
    level-alike : (h : List Entry) → StartsWith h seen → ((stream : ℕ) → Same stream h low) → (stream : ℕ) → Same stream (landed_each h level) middle.history
    level-alike h starts same stream =
        elim (in-cases stream level) [
          | inl here ↦
              let spec = are stream (inl here) in
              let lower = λ (s : ℕ) (is : of s < of stream). lower-not s (omega (arith, is, graded.0 stream here)) in
              let mine = each-mine seen h level stream spec.0 starts (λ s is. are s (inl is)) graded.1 here spec.1
              (lower spec.0.first (first-lower seen follows stream spec.0 spec.1)) (λ s is. lower s (second-below seen follows stream spec.0 spec.1 s is)) in
              let inputs : SameInputs h low spec.0 = record { first = same spec.0.first; second = λ s is. same s } in
              let landed = landed-same h low stream spec.0 (spec-stays h seen stream spec.0 starts spec.1) (spec-stays low seen stream spec.0 begins spec.1) (same stream) inputs in
              same_trans stream (landed_each h level) (landed_next h stream) middle.history
              (same_sym stream (landed_next h stream) (landed_each h level) mine)
              (same_trans stream (landed_next h stream) (landed_next low stream) middle.history landed (level-ends stream here).0)
          | inr not ↦
              same_trans stream (landed_each h level) h middle.history
              (same_sym stream h (landed_each h level) (each-other seen h level stream starts (λ s is. are s (inl is)) not))
              (same_trans stream h low middle.history (same stream) (quiet-same stream low middle.history refreshes.2 (quiet-other stream not)))
        ]

  none-after : (low : List Entry) (late : LogState) (own : List ℕ) → ((n : ℕ) → times n own ≡ 0) → AreAll low late.history own → (stream : ℕ) → Quiet stream low late.history
  none-after low late own none all stream n after e at =
      let inside = get-past late.history (n - 1) e at in
      let some = all n after (omega (arith, inside, after)) in
      absurd (omega (arith, some, none n))

  -- Each stream has in the end the commits that one worker leaves.
  pub levels-alike : (base : ℕ) (low h : List Entry) (levels : List (List ℕ)) (late : LogState) (own : List ℕ) → StartsWith low seen → StartsWith h seen → Graded (levels_of seen) base levels → AreAllOutputs seen levels → RefreshesLevels start low result levels late own → AreAll low late.history own → Legal late.history → ((s : ℕ) → IsInAny s levels → IsUndisturbed (result s)) → ((stream : ℕ) → Same stream h low) → (stream : ℕ) → Same stream (landed_levels h levels) late.history
  levels-alike base low h [] late own begins starts graded are refreshes all legal free same stream =
      same_trans stream h low late.history (same stream) (quiet-same stream low late.history refreshes.0 (none-after low late own refreshes.1 all stream))
  levels-alike base low h (level ∷ levels) late own begins starts graded are refreshes all legal free same stream =
      levels-alike (suc base) refreshes.0.history (landed_each h level) levels late refreshes.4 (starts_trans refreshes.0.history low seen refreshes.2 begins)
      (starts_trans (landed_each h level) h seen (each-starts seen h level starts (λ s is. are s (inl is))) starts)
      graded.2 (λ s is. are s (inr is)) refreshes.6 (all-rest start result low level levels late own refreshes all) legal (λ s is. free s (inr is))
      (level-alike base low level levels late own begins graded are refreshes all legal free h starts same) stream

  -- Each result is that by the versions before and after.
  pub levels-results : (base : ℕ) (low : List Entry) (levels : List (List ℕ)) (late : LogState) (own : List ℕ) → StartsWith low seen → Graded (levels_of seen) base levels → AreAllOutputs seen levels → RefreshesLevels start low result levels late own → AreAll low late.history own → Legal late.history → ((s : ℕ) → IsInAny s levels → IsUndisturbed (result s)) → (output : ℕ) → IsInAny output levels → result output ≡ result_by low late.history output
  levels-results base low [] late own begins graded are refreshes all legal free output any = absurd any
  levels-results base low (level ∷ levels) late own begins graded are refreshes all legal free output (inl here) =
      let mid = refreshes.0.history in
      let spec = are output (inl here) in
      let in_mid = spec-stays mid seen output spec.0 (starts_trans mid low seen refreshes.2 begins) spec.1 in
      let in_late = spec-stays late.history mid output spec.0 refreshes.1.begins in_mid in
      let rest = all-rest start result low level levels late own refreshes all in
      let still : (s : ℕ) → of s ≤ of output → Same s mid late.history = λ s lower.
      quiet-same s mid late.history refreshes.1.begins
      (levels-quiet start result seen follows (suc base) mid levels late refreshes.4 graded.2 refreshes.6 rest s (omega (arith, lower, graded.0 output here))) in
      let inputs : SameInputs mid late.history spec.0 = record {
        first = still spec.0.first (let l = first-lower seen follows output spec.0 spec.1 in omega (arith, l));
        second = λ s is. still s (let l = second-below seen follows output spec.0 spec.1 s is in omega (arith, l));
      } in
      (level-ends base low level levels late own begins graded are refreshes all legal free output here).1
      ∙ sym (result-same low low mid late.history output spec.0 in_mid in_late (same_refl output low) (still output (omega arith)) inputs)
  levels-results base low (level ∷ levels) late own begins graded are refreshes all legal free output (inr later) =
      let mid = refreshes.0.history in
      let spec = are output (inr later) in
      let in_late = spec-stays late.history seen output spec.0 (starts_trans late.history mid seen refreshes.1.begins (starts_trans mid low seen refreshes.2 begins)) spec.1 in
      let above = graded-above (levels_of seen) (suc base) levels output graded.2 later in
      let before : Same output low mid = quiet-same output low mid refreshes.2
      (quiet-other base low level levels late own begins graded are refreshes all legal free output (λ is. absurd (omega (arith, above, graded.0 output is)))) in
      let inputs : SameInputs late.history late.history spec.0 = record { first = same_refl spec.0.first late.history; second = λ s is. same_refl s late.history } in
      levels-results (suc base) mid levels late refreshes.4 (starts_trans mid low seen refreshes.2 begins) graded.2 (λ s is. are s (inr is)) refreshes.6 (all-rest start result low level levels late own refreshes all) legal (λ s is. free s (inr is)) output later
      ∙ sym (result-same mid low late.history late.history output spec.0 in_late in_late (same_sym output low mid before) (same_refl output late.history) inputs)

-- ---- the whole

-- Nobody added anything before the call saw the history.
pub seen-low : (start : StoreState) (log : LogState) (low : List Entry) (report : List RefreshLine) (own : List ℕ) (refreshes : Refreshes start log low report own) → AreAllSince low log own → refreshes.seen ≡ low
seen-low start log low report own refreshes all =
    elim (cases_lt (length low) (length refreshes.seen)) [
      | inl more ↦
          let n = length low + 1 in
          let inside = starts_length log.history refreshes.seen refreshes.before in
          let one = given_inside (length low) (length log.history + one (is_some log.failed)) n (omega arith) (omega (arith, more, inside)) in
          let r = levels-owned start refreshes.result refreshes.seen refreshes.levels log own refreshes.refreshes n (omega (arith, all n, one)) in
          let above = r.2.above in
          absurd (omega (arith, above, more))
      | inr short ↦ starts_whole refreshes.seen low refreshes.after short
    ]

same-result : {A : Type 0} (f g : ℕ → A) (xs : List ℕ) → ((x : ℕ) → IsIn x xs → f x ≡ g x) → map f xs ≡ map g xs
same-result f g [] each = refl
same-result f g (x ∷ xs) each =
    let here = each x (inl refl) in
    let rest = same-result f g xs (λ y is. each y (inr is)) in
    λ i. here i ∷ rest i

pub member-of : {A : Type 0} (P : A → Type 0) (f : ℕ → A) (xs : List ℕ) → AllByRecursion P (map f xs) → (x : ℕ) → IsIn x xs → P (f x)
member-of P f [] all x is = absurd is
member-of P f (y ∷ xs) all x (inl here) = subst (λ z. P (f z)) (sym here) all.0
member-of P f (y ∷ xs) all x (inr later) = member-of P f xs all.1 x later

module _ (start : StoreState) (log : LogState) (low : List Entry) (report : List RefreshLine) (own : List ℕ) (refreshes : Refreshes start log low report own) (legal : Legal log.history) (every : AreAll refreshes.seen log.history own) (undisturbed : AllByRecursion (λ (line : RefreshLine). IsUndisturbed line.result) report) where
  abbrev seen : List Entry
  seen = refreshes.seen

  abbrev line : ℕ → RefreshLine
  line output = record { output = output; result = refreshes.result output }

  seen-follows : Follows seen
  seen-follows = legal-follows seen (legal-prefix seen refreshes.before.0 (subst Legal refreshes.before.1 legal))

  graded : Graded (levels_of seen) 1 refreshes.levels
  graded = groups-graded (levels_of seen) refreshes.levels refreshes.are

  are-outputs : AreAllOutputs seen refreshes.levels
  are-outputs output any = level-output seen output (graded-above (levels_of seen) 1 refreshes.levels output graded any)

  free : (s : ℕ) → IsInAny s refreshes.levels → IsUndisturbed (refreshes.result s)
  free s any =
      let spec = are-outputs s any in
      member-of (λ (l : RefreshLine). IsUndisturbed l.result) line (outputs seen) (subst (AllByRecursion (λ (l : RefreshLine). IsUndisturbed l.result)) refreshes.lines undisturbed) s
      (output-in seen s spec.0 spec.1)

  after : List Entry
  after = landed_levels seen refreshes.levels

  alike : (stream : ℕ) → Same stream (landed_levels seen refreshes.levels) log.history
  alike = levels-alike start refreshes.result seen seen-follows 1 seen seen refreshes.levels log own (starts_refl seen) (starts_refl seen) graded are-outputs refreshes.refreshes every legal free (λ s. same_refl s seen)

  result-is : (output : ℕ) → IsIn output (outputs seen) → refreshes.result output ≡ result_by seen (landed_levels seen refreshes.levels) output
  result-is output is =
      let spec = output-spec seen output is in
      let any = output-level seen refreshes.levels seen-follows refreshes.are output spec.0 spec.1 in
      let end = landed_levels seen refreshes.levels in
      let back : (s : ℕ) → Same s log.history end = λ s. same_sym s end log.history (alike s) in
      levels-results start refreshes.result seen seen-follows 1 seen refreshes.levels log own (starts_refl seen) graded are-outputs refreshes.refreshes every legal free output any
      ∙ sym (result-same seen seen log.history end output spec.0 (spec-stays log.history seen output spec.0 refreshes.before spec.1)
      (spec-stays end seen output spec.0 (levels-starts seen seen refreshes.levels (starts_refl seen) are-outputs) spec.1)
      (same_refl output seen) (back output) (record { first = back spec.0.first; second = λ s at. back s }))

  pub seen-alike : IsAlike log.history (landed_levels seen refreshes.levels) seen report
  seen-alike = record {
    commits = λ stream. (alike stream).commits;
    recorded = λ stream. (alike stream).recorded;
    lines =
        refreshes.lines
        ∙ same-result line (λ output. record { output = output; result = result_by seen (landed_levels seen refreshes.levels) output }) (outputs seen)
        (λ output is. ap (λ r. record { output = output; result = r }) (result-is output is));
  }

pub refreshed-alike : RefreshedIsAlike
refreshed-alike start log low report own levels refreshes legal all are undisturbed =
    let seen_is = seen-low start log low report own refreshes all in
    let every = all-since low refreshes.seen log own refreshes.after all in
    let at_seen = seen-alike start log low report own refreshes legal every undisturbed in
    let same : refreshes.levels ≡ levels = groups-unique (levels_of refreshes.seen) refreshes.levels levels refreshes.are (subst (λ h. AreGroups (levels_of h) levels) (sym seen_is) are) in
    subst (λ h. IsAlike log.history (landed_levels h levels) h report) seen_is
    (subst (λ ls. IsAlike log.history (landed_levels refreshes.seen ls) refreshes.seen report) same at_seen)
