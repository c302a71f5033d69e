-- What became of an entry that a line asked for, if the device does not fail: it was added, or it was refused, for lack of room or for a
-- reason with a benign status.
use Rattle.std.specs.Prelude.{◌≡◌, ◌⊎◌, ℕ, ◌+◌, Bool, true, false, ◌||◌, List, [], ◌∷◌, ◌++◌, length, Option, Some, None, Result, Ok, Err}
use Rattle.std.specs.Option.{is_some}
use Rattle.std.proofs.Common.{refl, sym, ap, ◌∙◌, subst, inl, inr}
use Rattle.std.proofs.lemmas.Bool.{cases_lt}
use Rattle.btr_hist.specs.declared.entry.Entry.{Entry}
use Rattle.btr_hist.specs.declared.entry.Entry.TheVariants as entries
use Rattle.btr_hist.specs.History.{latest}
use Rattle.btr_hist.specs.Legal.{Follows, rejection}
use Rattle.btr_hist.specs.Machine.{Receipt as ModelReceipt}
use Rattle.btr_hist.specs.Machine.Reply.{Accepted, Superseded}
use Rattle.btr_hist.proofs.HistoryLemmas.{follows-last, follows-prefix}
use Rattle.btr_distil.specs.Plan.{PlanValue, entry_of}
use Rattle.btr_plan.specs.Next.{IsNextPlan}
use Rattle.btr_plan.specs.Plan.{IsPlanOf, IsCurrent, reply_to}
use Rattle.btr_plan.proofs.PlanLemmas.{plan-current, plan-stays, reply-superseded}
use Rattle.btr_streams.specs.declared.board.Receipt.{Receipt}
use Rattle.btr_engine.specs.declared.step.StepFault.{StepFault}
use Rattle.btr_engine.specs.declared.step.StepFault.TheVariants as steps
use Rattle.btr_gate.specs.Prefixes.{StartsWith}
use Rattle.btr_hall.specs.declared.land.LandFault.{LandFault}
use Rattle.btr_hall.specs.declared.land.LandFault.TheVariants as faults
use Rattle.btr_jobs.specs.States.{StoreState, LogState}
use Rattle.btr_jobs.specs.Turns.{IsAdded, IsFull, IsIdle, Committed, Landed}
use Rattle.btr_text.specs.declared.reply.LineReply.{LineReply}
use Rattle.btr_text.specs.declared.reply.LineReply.TheVariants.{Done, No}
use Rattle.btr_text.specs.declared.reply.Reason.{Reason}
use Rattle.btr_live.specs.Lanes.{reply_of_step, reply_of_landing, Offers}
use Rattle.btr_live.specs.Reasons.{holder, reason_of_step, reason_of_landing}
use Rattle.btr_store.specs.Completes.{IsBenign}
use Rattle.btr_store.specs.Replies.{status_of_reply}
use Rattle.btr_top.specs.Room.{LandsFor}
use Rattle.btr_top.proofs.BenignStatuses.{benign_rejection, along}

module _ (start : StoreState) (log : LogState) (running : start.stopped ≡ false) (sound : log.failed ≡ None) (follows : Follows log.history) (low : List Entry) where
  pub not_stopped : (start.stopped || is_some log.failed) ≡ true → ⊥
  not_stopped stopped =
      let never : (start.stopped || is_some log.failed) ≡ false = ap (λ b. b || is_some log.failed) running ∙ ap (λ (o : Option Entry). is_some o) sound in
      both (start.stopped || is_some log.failed) never stopped
    where
      both : (b : Bool) → b ≡ false → b ≡ true → ⊥
      both b is_not is = absurd (cc)

  pub not_failed : (e : Entry) → log.failed ≡ Some e → ⊥
  not_failed e is = let both : None ≡ Some e = sym sound ∙ is in absurd (cc)

  pub follows_here : (p : List Entry) → StartsWith log.history p → Follows p
  follows_here p starts = follows-prefix p starts.0 (subst Follows starts.1 follows)

  accepted : (p : List Entry) (e : Entry) → StartsWith log.history (p ++ e ∷ []) → rejection p e ≡ None
  accepted p e starts = follows-last p e (follows_here (p ++ e ∷ []) starts)

  -- ---- what is said of an entry

  -- A distillate lands what is planned for its output.
  abbrev pub Lands : List Entry → Entry → Type 0
  Lands p (entries.Distillate stream cut added reads) = LandsFor low p (entries.Distillate stream cut added reads) stream
  Lands p e = Unit {0}

  -- The entry was refused after `p` because the device was full.
  pub record WasFull (p : List Entry) (e : Entry) : Type 0 where
    pub accepted : rejection p e ≡ None
    pub lands : Lands p e
    pub need : ℕ
    pub left : ℕ
    pub full : IsFull start p e need left

  -- The entry, which was asked for at `a`, was added.
  pub record WasAdded (a : List Entry) (e : Entry) (reply : LineReply) (own : List ℕ) (next : List Entry) : Type 0 where
    pub p : List Entry
    pub after : StartsWith p a
    pub there : StartsWith log.history (p ++ e ∷ [])
    pub lands : Lands p e
    pub numbers : own ≡ (length p + 1) ∷ []
    pub known : next ≡ p ++ e ∷ []
    pub version : ℕ
    pub replied : reply ≡ Done version

  -- It was refused.
  pub record WasRefused (a : List Entry) (e : Entry) (reply : LineReply) (own : List ℕ) (next : List Entry) : Type 0 where
    pub p : List Entry
    pub after : StartsWith p a
    pub there : StartsWith log.history p
    pub numbers : own ≡ []
    pub known : next ≡ p
    pub reason : Reason
    pub replied : reply ≡ No reason
    pub why : IsBenign (status_of_reply reply) ⊎ WasFull p e

  abbrev pub Turned : List Entry → Entry → LineReply → List ℕ → List Entry → Type 0
  Turned a e reply own next = WasAdded a e reply own next ⊎ WasRefused a e reply own next

  module _ (a p : List Entry) (e : Entry) (reply : LineReply) (own : List ℕ) (next : List Entry) (after : StartsWith p a) where
    added : (version : ℕ) → reply ≡ Done version → Lands p e → IsAdded log p e own next → Turned a e reply own next
    added version replied lands is = inl record { p = p; after = after; there = is.follows; lands = lands; numbers = is.own; known = is.next; version = version; replied = replied }

    refused : (reason : Reason) → reply ≡ No reason → StartsWith log.history p → IsBenign (status_of_reply reply) ⊎ WasFull p e → IsIdle p own next → Turned a e reply own next
    refused reason replied there why is = inr record { p = p; after = after; there = there; numbers = is.own; known = is.next; reason = reason; replied = replied; why = why }

  -- ---- commits

  committed_turn : (a p : List Entry) (e : Entry) (result : Result Receipt StepFault) (reply : LineReply) (own : List ℕ) (next : List Entry) → StartsWith p a → StartsWith log.history p → Lands p e → reply ≡ reply_of_step p result → Committed start log p e result own next → Turned a e reply own next
  committed_turn a p e (Ok receipt) reply own next after there lands replied is = added a p e reply own next after receipt.version replied lands is.2
  committed_turn a p e (Err (steps.Stopped entries)) reply own next after there lands replied is = absurd (not_stopped is.0.stopped)
  committed_turn a p e (Err steps.Sealed) reply own next after there lands replied is =
      refused a p e reply own next after (reason_of_step 0 steps.Sealed) replied there (inl (along reply _ replied (inr (inl refl)))) is.1
  committed_turn a p e (Err (steps.Rejected why)) reply own next after there lands replied is =
      refused a p e reply own next after (reason_of_step (holder p why) (steps.Rejected why)) replied there (inl (along reply _ replied (benign_rejection p e why))) is.1
  committed_turn a p e (Err steps.Want) reply own next after there lands replied is =
      refused a p e reply own next after (reason_of_step 0 steps.Want) replied there (inl (along reply _ replied (inr (inr refl)))) is.1
  committed_turn a p e (Err (steps.DeviceFull need left)) reply own next after there lands replied is =
      refused a p e reply own next after (reason_of_step 0 (steps.DeviceFull need left)) replied there (inr record { accepted = is.0; lands = lands; need = need; left = left; full = is.1 }) is.2
  committed_turn a p e (Err steps.DeviceFault) reply own next after there lands replied is = absurd (not_failed e is.1.failed)

  -- ---- landings

  -- A plan that the model accepts is current.
  pub current_plan : (p : List Entry) (plan : PlanValue) (r : ModelReceipt) → IsPlanOf p plan → reply_to p plan ≡ Accepted r → IsCurrent p plan
  current_plan p plan r of is =
      elim (cases_lt plan.base (latest p plan.stream)) [
        | inl above ↦ let both : Superseded (latest p plan.stream) ≡ Accepted r = sym (reply-superseded p plan of above).0 ∙ is in absurd (cc)
        | inr low ↦ plan-current p plan of low
      ]

  pub plan_here : (a p : List Entry) (plan : PlanValue) → StartsWith p a → StartsWith log.history p → IsNextPlan a plan.stream plan → IsPlanOf p plan
  plan_here a p plan after there planned =
      let then : Follows a = follows-prefix a after.0 (subst Follows after.1 (follows_here p there)) in
      subst (λ (h : List Entry). IsPlanOf h plan) (sym after.1) (plan-stays a after.0 plan then planned.of)

  pub lands_here : (a p : List Entry) (plan : PlanValue) → StartsWith a low → StartsWith p a → IsNextPlan a plan.stream plan → IsCurrent p plan → LandsFor low p (entry_of plan) plan.stream
  lands_here a p plan since after planned is = record {
    planned = record { at = a; since = since; before = after; plan = plan; planned = planned; current = is; entry = refl };
    same_output = refl;
  }

  pub landed_turn : (a p : List Entry) (plan : PlanValue) (result : Result Receipt LandFault) (reply : LineReply) (own : List ℕ) (next : List Entry) → StartsWith a low → StartsWith p a → StartsWith log.history p → IsNextPlan a plan.stream plan → reply ≡ reply_of_landing result → Landed start log p plan result own next → Turned a (entry_of plan) reply own next
  landed_turn a p plan (Ok receipt) reply own next since after there planned replied is =
      added a p (entry_of plan) reply own next after receipt.version replied
      (lands_here a p plan since after planned (current_plan p plan _ (plan_here a p plan after there planned) is.0)) is.2
  landed_turn a p plan (Err (faults.Stopped entries)) reply own next since after there planned replied is = absurd (not_stopped is.0.stopped)
  landed_turn a p plan (Err faults.Sealed) reply own next since after there planned replied is =
      refused a p (entry_of plan) reply own next after (reason_of_landing faults.Sealed) replied there (inl (along reply _ replied (inr (inl refl)))) is.1
  landed_turn a p plan (Err (faults.Superseded version)) reply own next since after there planned replied is =
      refused a p (entry_of plan) reply own next after (reason_of_landing (faults.Superseded version)) replied there (inl (along reply _ replied (inr (inl refl)))) is.3
  landed_turn a p plan (Err faults.VersionLimit) reply own next since after there planned replied is =
      refused a p (entry_of plan) reply own next after (reason_of_landing faults.VersionLimit) replied there (inl (along reply _ replied (inr (inl refl)))) is.2
  landed_turn a p plan (Err (faults.Crowded at)) reply own next since after there planned replied is =
      refused a p (entry_of plan) reply own next after (reason_of_landing (faults.Crowded at)) replied there (inl (along reply _ replied (inr (inl refl)))) is.3
  landed_turn a p plan (Err (faults.TooManyPoints count)) reply own next since after there planned replied is =
      refused a p (entry_of plan) reply own next after (reason_of_landing (faults.TooManyPoints count)) replied there (inl (along reply _ replied (inr (inl refl)))) is.3
  landed_turn a p plan (Err faults.Want) reply own next since after there planned replied is =
      refused a p (entry_of plan) reply own next after (reason_of_landing faults.Want) replied there (inl (along reply _ replied (inr (inr refl)))) is.2
  landed_turn a p plan (Err (faults.DeviceFull need left)) reply own next since after there planned replied is =
      refused a p (entry_of plan) reply own next after (reason_of_landing (faults.DeviceFull need left)) replied there
      (inr record { accepted = is.1; lands = lands_here a p plan since after planned is.0; need = need; left = left; full = is.2 }) is.3
  landed_turn a p plan (Err faults.DeviceFault) reply own next since after there planned replied is = absurd (not_failed (entry_of plan) is.2.failed)

  -- ---- what was offered

  pub offered_turn : (saw_failure : Bool) (a : List Entry) (e : Entry) (reply : LineReply) (own : List ℕ) (next : List Entry) → StartsWith a low → Offers start log saw_failure a e reply own next → Turned a e reply own next
  offered_turn saw_failure a (entries.Create id) reply own next since is =
      committed_turn a is.1.0 (entries.Create id) is.0 reply own next is.1.1 is.1.2 tt is.2 is.1.3
  offered_turn saw_failure a (entries.Define id spec) reply own next since is =
      committed_turn a is.1.0 (entries.Define id spec) is.0 reply own next is.1.1 is.1.2 tt is.2 is.1.3
  offered_turn saw_failure a (entries.Commit stream cut added) reply own next since is =
      committed_turn a is.1.0 (entries.Commit stream cut added) is.0 reply own next is.1.1 is.1.2 tt is.2 is.1.3
  offered_turn saw_failure a (entries.Distillate stream cut added reads) reply own next since is =
      let plan : PlanValue = is.0 in
      let planned : IsNextPlan a plan.stream plan = subst (λ (s : ℕ). IsNextPlan a s plan) (sym is.1.same_stream) is.1 in
      subst (λ (e : Entry). Turned a e reply own next) is.2
      (landed_turn a is.4.0 plan is.3 reply own next since is.4.1 is.4.2 planned is.5 is.4.3)
  offered_turn saw_failure a (entries.Retire stream first) reply own next since is =
      committed_turn a is.1.0 (entries.Retire stream first) is.0 reply own next is.1.1 is.1.2 tt is.2 is.1.3
