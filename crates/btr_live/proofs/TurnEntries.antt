-- Lemmas on turns: what each added, and that the landing of a plan that is current is a step of its entry.
use Rattle.std.specs.Prelude.{◌≡◌, ◌⊎◌, ℕ, ◌+◌, ◌<◌, ◌≤◌, nat_le, Bool, true, false, cond, List, [], ◌∷◌, ◌++◌, length}
use Rattle.std.specs.Prelude.{Option, Some, None, Result, Ok, Err}
use Rattle.std.proofs.Common.{refl, sym, ap, ◌∙◌, subst, arith, inl, inr}
use Rattle.std.proofs.lemmas.Bool.{cases_eq}
use Rattle.btr_base.specs.declared.limits.TheConstants.{MAX_VERSIONS}
use Rattle.btr_hist.specs.declared.entry.Entry.{Entry}
use Rattle.btr_hist.specs.declared.kernel.Spec.{Spec}
use Rattle.btr_hist.specs.declared.rejection.Rejection.{Rejection}
use Rattle.btr_hist.specs.declared.rejection.Rejection.TheVariants as rejections
use Rattle.btr_hist.specs.History.{spec_of, latest, reads, latest_reads}
use Rattle.btr_hist.specs.Legal.{Follows, rejection, first_some, when, points_rejection, next_bag}
use Rattle.btr_hist.specs.Machine.{Landing, commit_reply, same_reads, planned, plan_of}
use Rattle.btr_hist.specs.Machine.Reply.{Rejected}
use Rattle.btr_hist.proofs.HistoryLemmas.{follows-prefix, follows-last}
use Rattle.btr_distil.specs.Plan.{PlanValue, entry_of, change}
use Rattle.btr_plan.specs.Plan.{IsPlanOf, IsCurrent, landing_of, reply_to}
use Rattle.btr_plan.specs.Next.{IsNextPlan}
use Rattle.btr_plan.proofs.PlanLemmas.{plan-rejection, reply-current}
use Rattle.btr_text.specs.declared.reply.LineReply.{LineReply}
use Rattle.btr_text.specs.declared.reply.LineReply.TheVariants.{Done, No}
use Rattle.btr_text.specs.declared.reply.Reason.TheVariants as reasons
use Rattle.btr_streams.specs.declared.board.Receipt.{Receipt}
use Rattle.btr_engine.specs.declared.step.StepFault.{StepFault}
use Rattle.btr_engine.specs.declared.step.StepFault.TheVariants as steps
use Rattle.btr_gate.specs.Numbers.{times}
use Rattle.btr_gate.specs.Prefixes.{StartsWith}
use Rattle.btr_gate.proofs.NumberLemmas.{one_other}
use Rattle.btr_gate.proofs.PrefixLemmas.{starts_refl, starts_append}
use Rattle.btr_hall.specs.declared.land.LandFault.{LandFault}
use Rattle.btr_hall.specs.declared.land.LandFault.TheVariants as faults
use Rattle.btr_jobs.specs.States.{StoreState, LogState}
use Rattle.btr_jobs.specs.Turns.{IsAdded, IsFailed, IsIdle, SaysSealed, Committed, Landed}
use Rattle.btr_live.specs.Lanes.{reply_of_step, reply_of_landing}

-- ---- what a turn added

-- What was done is no refusal since the device failed.
pub done_apart : {P : Type 0} (version count : ℕ) → Done version ≡ No (reasons.Stopped count) → P
done_apart version count is = absurd (cc)

-- A failure in the step is none of before.
pub device_apart : {P : Type 0} (count : ℕ) → No reasons.Device ≡ No (reasons.Stopped count) → P
device_apart count is = absurd (cc)

-- A turn at `p` added nothing, or what has the next number, and the history after it begins with `p`. If it was refused since the device
-- had failed, it added nothing.
pub record Adds (p : List Entry) (reply : LineReply) (own : List ℕ) (next : List Entry) : Type 0 where
  pub numbers : (own ≡ []) ⊎ (own ≡ (length p + 1) ∷ [])
  pub later : StartsWith next p
  pub stops : (count : ℕ) → reply ≡ No (reasons.Stopped count) → own ≡ []

-- A turn that was idle added nothing.
pub adds_none : (p : List Entry) (reply : LineReply) (own : List ℕ) (next : List Entry) → IsIdle p own next → Adds p reply own next
adds_none p reply own next is = record {
  numbers = inl is.own;
  later = subst (λ h. StartsWith h p) (sym is.next) (starts_refl p);
  stops = λ count refused. is.own;
}

-- The numbers of a turn are above the history at which it began.
pub adds_above : (p : List Entry) (reply : LineReply) (own : List ℕ) (next : List Entry) → Adds p reply own next → (n : ℕ) → 1 ≤ times n own → length p < n
adds_above p reply own next adds n some =
    elim adds.numbers [
      | inl none ↦ let no = ap (times n) none in absurd (omega (arith, some, no))
      | inr is ↦ elim (cases_eq (length p + 1) n) [
        | inl same ↦ omega (arith, same)
        | inr other ↦
            let no = one_other (length p + 1) n other in
            let its = ap (times n) is in
            absurd (omega (arith, some, its, no))
      ]
    ]

module _ (start : StoreState) (log : LogState) (p : List Entry) where
  -- A turn of an entry that was added has the next number.
  adds_one : (e : Entry) (version : ℕ) (own : List ℕ) (next : List Entry) → IsAdded log p e own next → Adds p (Done version) own next
  adds_one e version own next is = record {
    numbers = inr is.own;
    later = subst (λ h. StartsWith h p) (sym is.next) (starts_append p (e ∷ []));
    stops = λ count refused. done_apart version count refused;
  }

  -- A turn in which the device failed has the next number.
  adds_failed : (e : Entry) (own : List ℕ) (next : List Entry) → IsFailed log p e own next → Adds p (No reasons.Device) own next
  adds_failed e own next is = record {
    numbers = inr is.own;
    later = subst (λ h. StartsWith h p) (sym is.next) (starts_refl p);
    stops = λ count refused. device_apart count refused;
  }

  -- What a turn of an entry added.
  pub committed_adds : (e : Entry) (result : Result Receipt StepFault) (own : List ℕ) (next : List Entry) → Committed start log p e result own next → Adds p (reply_of_step p result) own next
  committed_adds e (Ok receipt) own next is = adds_one e receipt.version own next is.2
  committed_adds e (Err (steps.Stopped entries)) own next is = adds_none p (reply_of_step p (Err (steps.Stopped entries))) own next is.1
  committed_adds e (Err steps.Sealed) own next is = adds_none p (reply_of_step p (Err steps.Sealed)) own next is.1
  committed_adds e (Err (steps.Rejected why)) own next is = adds_none p (reply_of_step p (Err (steps.Rejected why))) own next is.1
  committed_adds e (Err steps.Want) own next is = adds_none p (reply_of_step p (Err steps.Want)) own next is.1
  committed_adds e (Err (steps.DeviceFull need left)) own next is = adds_none p (reply_of_step p (Err (steps.DeviceFull need left))) own next is.2
  committed_adds e (Err steps.DeviceFault) own next is = adds_failed e own next is.1

  -- What a turn of a plan added.
  pub landed_adds : (plan : PlanValue) (result : Result Receipt LandFault) (own : List ℕ) (next : List Entry) → Landed start log p plan result own next → Adds p (reply_of_landing result) own next
  landed_adds plan (Ok receipt) own next is = adds_one (entry_of plan) receipt.version own next is.2
  landed_adds plan (Err (faults.Stopped entries)) own next is = adds_none p (reply_of_landing (Err (faults.Stopped entries))) own next is.1
  landed_adds plan (Err faults.Sealed) own next is = adds_none p (reply_of_landing (Err faults.Sealed)) own next is.1
  landed_adds plan (Err (faults.Superseded version)) own next is = adds_none p (reply_of_landing (Err (faults.Superseded version))) own next is.3
  landed_adds plan (Err faults.VersionLimit) own next is = adds_none p (reply_of_landing (Err faults.VersionLimit)) own next is.2
  landed_adds plan (Err (faults.Crowded at)) own next is = adds_none p (reply_of_landing (Err (faults.Crowded at))) own next is.3
  landed_adds plan (Err (faults.TooManyPoints count)) own next is = adds_none p (reply_of_landing (Err (faults.TooManyPoints count))) own next is.3
  landed_adds plan (Err faults.Want) own next is = adds_none p (reply_of_landing (Err faults.Want)) own next is.2
  landed_adds plan (Err (faults.DeviceFull need left)) own next is = adds_none p (reply_of_landing (Err (faults.DeviceFull need left))) own next is.3
  landed_adds plan (Err faults.DeviceFault) own next is = adds_failed (entry_of plan) own next is.2

-- ---- plans that are current

-- A plan that is made has the version that it is made for.
plan_base : (t : Bool) (n p : Landing) → cond {A = Option Landing} t None (Some n) ≡ Some p → p.base ≡ n.base
plan_base true n p is = absurd (cc)
plan_base false n p is = cc

-- The next plan of a history is current in it.
pub next_current : (h : List Entry) (stream : ℕ) (p : PlanValue) → IsNextPlan h stream p → IsCurrent h p
next_current h stream p made =
    let spec : Spec = made.of.spec in
    let output : spec_of h stream ≡ Some spec = subst (λ (n : ℕ). spec_of h n ≡ Some spec) made.same_stream made.of.output in
    let is : planned h stream spec ≡ Some (landing_of p) = sym (ap (λ (o : Option Spec). plan_of h stream o) output) ∙ made.planned in
    let next : Landing = record { stream = stream; base = latest h stream; reads = latest_reads h spec } in
    let base : p.base ≡ latest h stream = plan_base (same_reads (reads h stream spec (latest h stream)) (latest_reads h spec)) next (landing_of p) is in
    subst (λ (n : ℕ). latest h n ≡ p.base) (sym made.same_stream) (sym base)

-- A landing that the model rejects is one of an output with as many versions as a stream can have.
limit_so : (h : List Entry) (e : Entry) (full : Bool) (rest : Option Rejection) → commit_reply h e (when full rejections.VersionLimit) ≡ Rejected rejections.VersionLimit → first_some (when full rejections.VersionLimit ∷ rest ∷ []) ≡ Some rejections.VersionLimit
limit_so h e true rest is = refl
limit_so h e false rest is = absurd (cc)

module _ (start : StoreState) (log : LogState) (all : Follows log.history) where
  -- Each history that begins that of a state of the log follows too.
  pub follows_at : (h : List Entry) → StartsWith log.history h → Follows h
  follows_at h begins = follows-prefix h begins.0 (subst Follows begins.1 all)

  module _ (h : List Entry) (begins : StartsWith log.history h) (plan : PlanValue) (made : IsPlanOf h plan) (current : IsCurrent h plan) where
    -- A turn of a plan is one of its entry, with the same reply.
    pub record IsStepOf (result : Result Receipt LandFault) (own : List ℕ) (next : List Entry) : Type 0 where
      pub step : Result Receipt StepFault
      pub committed : Committed start log h (entry_of plan) step own next
      pub same : reply_of_landing result ≡ reply_of_step h step
      pub says_sealed : SaysSealed start faults.Sealed result → SaysSealed start steps.Sealed step

    -- The entry of such a landing is rejected for that reason.
    limited : reply_to h plan ≡ Rejected rejections.VersionLimit → rejection h (entry_of plan) ≡ Some rejections.VersionLimit
    limited is =
        let full : Bool = nat_le MAX_VERSIONS (latest h plan.stream) in
        let rest : Option Rejection = points_rejection (next_bag h plan.stream (change plan)) in
        plan-rejection h plan (follows_at h begins) made current
        ∙ limit_so h (entry_of plan) full rest (sym (reply-current h plan made current).0 ∙ is)

    -- What a turn of a plan says is said by one of its entry. A plan that is current is not superseded.
    pub as_step : (result : Result Receipt LandFault) (own : List ℕ) (next : List Entry) → Landed start log h plan result own next → IsStepOf result own next
    as_step (Ok receipt) own next is = record {
      step = Ok receipt;
      committed = (follows-last h (entry_of plan) (follows_at (h ++ entry_of plan ∷ []) is.2.follows), is.1, is.2);
      same = refl;
      says_sealed = λ says sealed runs. let is = says sealed runs in absurd (cc);
    }
    as_step (Err (faults.Stopped entries)) own next is = record {
      step = Err (steps.Stopped entries);
      committed = (is.0, is.1);
      same = refl;
      says_sealed = λ says sealed runs. let is = says sealed runs in absurd (cc);
    }
    as_step (Err faults.Sealed) own next is = record {
      step = Err steps.Sealed;
      committed = (is.0, is.1);
      same = refl;
      says_sealed = λ says sealed runs. refl;
    }
    as_step (Err (faults.Superseded version)) own next is =
        let late = is.1 in let last = is.2 in absurd (omega (arith, late, last, current))
    as_step (Err faults.VersionLimit) own next is = record {
      step = Err (steps.Rejected rejections.VersionLimit);
      committed = (limited is.1, is.2);
      same = refl;
      says_sealed = λ says sealed runs. let is = says sealed runs in absurd (cc);
    }
    as_step (Err (faults.Crowded at)) own next is = record {
      step = Err (steps.Rejected (rejections.Crowded at));
      committed = (is.1, is.3);
      same = refl;
      says_sealed = λ says sealed runs. let is = says sealed runs in absurd (cc);
    }
    as_step (Err (faults.TooManyPoints count)) own next is = record {
      step = Err (steps.Rejected (rejections.TooManyPoints count));
      committed = (is.1, is.3);
      same = refl;
      says_sealed = λ says sealed runs. let is = says sealed runs in absurd (cc);
    }
    as_step (Err faults.Want) own next is = record { step = Err steps.Want; committed = (is.1, is.2); same = refl; says_sealed = λ says sealed runs. let is = says sealed runs in absurd (cc) }
    as_step (Err (faults.DeviceFull need left)) own next is = record {
      step = Err (steps.DeviceFull need left);
      committed = (is.1, is.2, is.3);
      same = refl;
      says_sealed = λ says sealed runs. let is = says sealed runs in absurd (cc);
    }
    as_step (Err faults.DeviceFault) own next is = record { step = Err steps.DeviceFault; committed = (is.1, is.2); same = refl; says_sealed = λ says sealed runs. let is = says sealed runs in absurd (cc) }
