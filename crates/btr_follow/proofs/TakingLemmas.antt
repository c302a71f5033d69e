-- What taking an entry makes of an engine: it is refused, added, or the device fails; and what a crash leaves.
use Rattle.std.specs.Prelude.{◌≡◌, ℕ, ◌+◌, true, false, List, [], ◌∷◌, ◌++◌, length, Result, Ok, Err, IfOk, IfErr, OnOk, IsTrue, IsFalse}
use Rattle.std.proofs.Common.{refl, sym, ◌∙◌, ap, subst, inl, inr, arith}
use Rattle.std.proofs.lemmas.Bool.{false_from_ne_true}
use Rattle.btr_disk.specs.declared.disk.Disk.{Ghosts}
use Rattle.btr_disk.specs.Bytes.{Image}
use Rattle.btr_disk.proofs.MomentLemmas.{begins, weakens}
use Rattle.btr_log.specs.Log as log
use Rattle.btr_super.specs.Super.{has_seal}
use Rattle.btr_hist.specs.declared.entry.Entry.{Entry}
use Rattle.btr_hist.specs.declared.entry.Entry.TheVariants as entries
use Rattle.btr_hist.specs.Legal.{Allowed, IsComputed}
use Rattle.btr_hist.specs.Machine as machine
use Rattle.btr_streams.specs.declared.board.Receipt.{Receipt}
use Rattle.btr_engine.specs.declared.engine.Engine.{Engine}
use Rattle.btr_engine.specs.declared.step.StepFault.{StepFault}
use Rattle.btr_engine.specs.declared.step.StepFault.TheVariants.{Stopped, Sealed, Rejected, Want, DeviceFull, DeviceFault}
use Rattle.btr_engine.specs.Holds.{HoldsHistory}
use Rattle.btr_engine.specs.Engine.{device, is_stopped, is_sealed, is_home, IsEngineOf, IsAtRest, EngineLeaves}
use Rattle.btr_engine.specs.Step.{IsBeforeOrAfter, IsStep, HasResult}
use Rattle.btr_engine.specs.Travel.{IsLike}
use Rattle.btr_engine.proofs.EngineLemmas.{holds_in, durable_as}
use Rattle.btr_engine.proofs.TravelLemmas.{HasMoments, of_like}
use Rattle.btr_follow.specs.declared.follower.Follower.{Follower}
use Rattle.btr_follow.specs.declared.frame.Frame.{Frame}
use Rattle.btr_follow.specs.declared.heard.Heard.{Heard}
use Rattle.btr_follow.specs.declared.heard.Heard.TheVariants as heard
use Rattle.btr_follow.specs.declared.taking.Refused.{Refused}
use Rattle.btr_follow.specs.declared.taking.Refused.TheVariants.{Foreign, Fault}
use Rattle.btr_follow.specs.Hears.{Brings}
use Rattle.btr_follow.specs.declared.event.FollowEvent.{FollowEvent}
use Rattle.btr_follow.specs.World.{world_after}
use Rattle.btr_follow.specs.Followed.{DeliversAreHeard}
use Rattle.btr_follow.specs.Follower.{engine_of, IsFollowerOf, acked_of, HasAcknowledged, IsTornBy, LeavesTorn, IsFullFor, TakeCause, HasHeard, HearCause}
use Rattle.btr_follow.specs.Delivery.{HoldsDelivery, IsDeliveredTo, AnswersDelivery, LeavesDelivery}
use Rattle.btr_follow.specs.Taking.{outcome_of, TellsSeal, IsQuiet, IsRefusal, RefusalCause, TakeStep, IsTaking}

-- The number of an entry is the one after those before it.
receipt-number : (h : List Entry) (e : Entry) → (machine.receipt h e).number ≡ length h + 1
receipt-number h (entries.Create id) = refl
receipt-number h (entries.Commit stream cut added) = refl
receipt-number h (entries.Define id spec) = refl
receipt-number h (entries.Distillate stream cut added new) = refl
receipt-number h (entries.Retire stream first) = refl

module _ {D : Type 0} {disk : Ghosts D} where
  -- ---- an entry that is refused

  -- What is staged for an engine that runs tells whether the engine is sealed.
  module _ {R : Type 0} (engine : Engine D disk) (e : Entry) (fault : StepFault) (result : Result R StepFault) (is : result ≡ Err fault) (says : IsFalse (is_stopped engine) → IsTrue (is_sealed engine) → result ≡ Err Sealed) where
    same_fault : IsFalse (is_stopped engine) → IsTrue (is_sealed engine) → fault ≡ Sealed
    same_fault runs sealed = let both : ◌≡◌ {A = Result R StepFault} (Err fault) (Err Sealed) = sym is ∙ says runs sealed in cc

    unsealed_by : IsFalse (is_stopped engine) → (fault ≡ Sealed → ⊥) → is_sealed engine ≡ false
    unsealed_by runs other = false_from_ne_true (is_sealed engine) (λ sealed. other (same_fault runs sealed))

  pub tells_seal : {R : Type 0} (engine : Engine D disk) (e : Entry) (fault : StepFault) (result : Result R StepFault) → result ≡ Err fault → (IsFalse (is_stopped engine) → IsTrue (is_sealed engine) → result ≡ Err Sealed) → HasResult engine engine e (Err fault) → TellsSeal engine fault
  tells_seal engine e (Stopped n) result is says has = tt
  tells_seal engine e Sealed result is says has = tt
  tells_seal engine e (Rejected why) result is says has = unsealed_by engine e (Rejected why) result is says has.0 (λ no. cc)
  tells_seal engine e Want result is says has = unsealed_by engine e Want result is says has.0 (λ no. cc)
  tells_seal engine e (DeviceFull need left) result is says has = unsealed_by engine e (DeviceFull need left) result is says has.0 (λ no. cc)
  tells_seal engine e DeviceFault result is says has = unsealed_by engine e DeviceFault result is says has.0 (λ no. cc)

  module _ (out old new : Engine D disk) (like : IsLike out old) (same : new ≡ old) (home : is_home old ≡ true) (e : Entry) where
    stopped_is : is_stopped old ≡ is_stopped out
    stopped_is = ap log.is_log_stopped (sym like.log)

    sealed_is : is_sealed old ≡ is_sealed out
    sealed_is = ap has_seal (sym like.chosen)

    full_like : (h : List Entry) (need left : ℕ) → IsFullFor h out e need left → IsFullFor h old e need left
    full_like h need left full = record {
      runs = stopped_is ∙ full.runs;
      unsealed = sealed_is ∙ full.unsealed;
      needs = full.needs;
      leaves = full.leaves ∙ ap log.log_room like.log;
      less = full.less;
    }

    cause_of : (h : List Entry) (fault : StepFault) → IsQuiet out e fault → TakeCause h out out e fault → TakeCause h old new e fault
    cause_of h (Stopped n) quiet cause = (stopped_is ∙ cause.0, cause.1)
    cause_of h Sealed quiet cause = (stopped_is ∙ cause.0, sealed_is ∙ cause.1)
    cause_of h (Rejected why) quiet cause = absurd quiet
    cause_of h Want quiet cause = tt
    cause_of h (DeviceFull n left) quiet cause = (cause.0, full_like h n left cause.1)
    cause_of h DeviceFault quiet cause = absurd quiet

    step_of : (fault : StepFault) → IsQuiet out e fault → TakeStep old new e (Err fault)
    step_of (Stopped n) quiet = same
    step_of Sealed quiet = same
    step_of (Rejected why) quiet = absurd quiet
    step_of Want quiet = same
    step_of (DeviceFull n left) quiet = same
    step_of DeviceFault quiet = absurd quiet

    refused_as : (r : Refused) → IsRefusal out e r → ((h : List Entry) → IsEngineOf h out → RefusalCause h out e r) → IsTaking old new e (outcome_of r)
    refused_as Foreign refusal cause = record {
      home = ap is_home same ∙ home;
      answer = λ h of. (stopped_is ∙ refusal.0, sealed_is ∙ refusal.1, cause h (of_like out old like h of));
      cause = λ h of. tt;
      step = same;
    }
    refused_as (Fault fault) refusal cause = record {
      home = ap is_home same ∙ home;
      answer = λ h of. tt;
      cause = λ h of. cause_of h fault refusal (cause h (of_like out old like h of));
      step = step_of fault refusal;
    }

    pub refused_taking : (r : Refused) (result : Result Heard StepFault) → result ≡ outcome_of r → IsRefusal out e r → ((h : List Entry) → IsEngineOf h out → RefusalCause h out e r) → IsTaking old new e result
    refused_taking r result is refusal cause = subst (IsTaking old new e) (sym is) (refused_as r refusal cause)

  -- ---- an entry that is written

  module _ (old new : Engine D disk) (e : Entry) (computed : (h : List Entry) → IsEngineOf h old → IsComputed h e) where
    pub written_taking : (receipt : Receipt) → IsStep old new e (Ok receipt) → IsTaking old new e (Ok (heard.Taken receipt.number))
    written_taking receipt step = record {
      home = step.home;
      answer = λ h of.
          let stepped = step.stepped h of in
          (stepped.could.runs, stepped.could.unsealed, record { accepted = stepped.could.allowed; computed = computed h of }, stepped.is_receipt.number ∙ receipt-number h e);
      cause = λ h of. tt;
      step = record { receipt = receipt; numbered = refl; step = step };
    }

    pub failed_taking : IsStep old new e (Err DeviceFault) → IsTaking old new e (Err DeviceFault)
    failed_taking step = record {
      home = step.home;
      answer = λ h of. tt;
      cause = λ h of.
          let cause = step.cause h of in
          (record { accepted = cause.0.allowed; computed = computed h of }, cause.0, cause.1);
      step = step;
    }

  -- ---- what a frame does

  pub taking_heard : (h : List Entry) (old new : Follower D disk) (f : Frame) (e : Entry) (result : Result Heard StepFault) → IsFollowerOf h old → Brings h f e → IsTaking (engine_of old) (engine_of new) e result → IfOk result (HasHeard h old new f)
  taking_heard h old new f e (Ok (heard.Stale n)) of brings taking = absurd (taking.answer h of)
  taking_heard h old new f e (Ok (heard.Early n)) of brings taking = absurd (taking.answer h of)
  taking_heard h old new f e (Ok heard.Garbled) of brings taking = absurd (taking.answer h of)
  taking_heard h old new f e (Ok heard.Foreign) of brings taking =
      let answer = taking.answer h of in
      record {
        after = h;
        hears = (record { entry = e; brings = brings; foreign = answer.2 }, refl);
        of = subst (IsEngineOf h) (sym taking.step) of;
        runs = (answer.0, answer.1);
      }
  taking_heard h old new f e (Ok (heard.Taken n)) of brings taking =
      let answer = taking.answer h of in
      record {
        after = h ++ e ∷ [];
        hears = (answer.3 ∙ sym brings.next, record { entry = e; brings = brings; allowed = answer.2; grown = refl });
        of = (taking.step.step.stepped h of).of;
        runs = (answer.0, answer.1);
      }
  taking_heard h old new f e (Err fault) of brings taking = tt

  pub taking_cause : (h : List Entry) (old new : Follower D disk) (f : Frame) (e : Entry) (result : Result Heard StepFault) → IsFollowerOf h old → Brings h f e → IsTaking (engine_of old) (engine_of new) e result → IfErr result (HearCause h old new f)
  taking_cause h old new f e (Ok answer) of brings taking = tt
  taking_cause h old new f e (Err (Stopped n)) of brings taking = (e, brings, taking.cause h of)
  taking_cause h old new f e (Err Sealed) of brings taking = (e, brings, taking.cause h of)
  taking_cause h old new f e (Err (Rejected why)) of brings taking = (e, brings, taking.cause h of)
  taking_cause h old new f e (Err Want) of brings taking = brings.next
  taking_cause h old new f e (Err (DeviceFull n left)) of brings taking = (e, brings, taking.cause h of)
  taking_cause h old new f e (Err DeviceFault) of brings taking = (e, brings, taking.cause h of)

  -- ---- what a crash leaves

  module _ (laws : HasMoments disk) (seen : disk.is_observable) (h : List Entry) (old new : Engine D disk) (rest : IsAtRest h old) (f : Frame) where
    -- No call was made.
    pub leaves_same : new ≡ old → EngineLeaves old new (IsTornBy (disk.size (device old)) h f)
    leaves_same same =
        subst (λ x. EngineLeaves old x (IsTornBy (disk.size (device old)) h f)) (sym same)
        (begins disk.calls disk.images_since (device old) (IsTornBy (disk.size (device old)) h f) (λ c now. inl (holds_in h old rest c (rest.only.each c (laws.only_now seen (device old) c now)))))

    -- A step with the entry of the frame was made.
    leaves_step : (e : Entry) (result : Result Receipt StepFault) → IsStep old new e result → Brings h f e → Allowed h e → EngineLeaves old new (IsTornBy (disk.size (device old)) h f)
    leaves_step e result step brings allowed =
        weakens disk.calls disk.images_since (device old) (device new) (IsBeforeOrAfter (disk.size (device old)) h e) (IsTornBy (disk.size (device old)) h f)
        (λ c left. elim left as (λ (x : IsBeforeOrAfter (disk.size (device old)) h e c). IsTornBy (disk.size (device old)) h f c) [
          | inl before ↦ inl before
          | inr after ↦ inr (record {
            after = h ++ e ∷ [];
            allowed = record { entry = e; brings = brings; allowed = allowed; grown = refl };
            holds = after;
          })
        ])
        (step.moments seen h rest)

    pub leaves_taking : (e : Entry) (result : Result Heard StepFault) → Brings h f e → IsTaking old new e result → EngineLeaves old new (IsTornBy (disk.size (device old)) h f)
    leaves_taking e (Ok (heard.Stale n)) brings taking = leaves_same taking.step
    leaves_taking e (Ok (heard.Early n)) brings taking = leaves_same taking.step
    leaves_taking e (Ok heard.Garbled) brings taking = leaves_same taking.step
    leaves_taking e (Ok heard.Foreign) brings taking = leaves_same taking.step
    leaves_taking e (Ok (heard.Taken n)) brings taking =
        leaves_step e (Ok taking.step.receipt) taking.step.step brings (taking.answer h rest.of).2
    leaves_taking e (Err (Stopped n)) brings taking = leaves_same taking.step
    leaves_taking e (Err Sealed) brings taking = leaves_same taking.step
    leaves_taking e (Err (Rejected why)) brings taking = absurd taking.step
    leaves_taking e (Err Want) brings taking = leaves_same taking.step
    leaves_taking e (Err (DeviceFull n left)) brings taking = leaves_same taking.step
    leaves_taking e (Err DeviceFault) brings taking = leaves_step e (Err DeviceFault) taking.step brings (taking.cause h rest.of).0

  -- ---- what is acknowledged

  module _ (laws : HasMoments disk) (seen : disk.is_observable) where
    -- An engine at rest has all its entries durable.
    pub acks-at_rest : (h : List Entry) (new : Follower D disk) → IsAtRest h (engine_of new) → HasAcknowledged new
    acks-at_rest h new rest = record {
      history = h;
      at_rest = rest;
      durable = durable_as h (engine_of new) (acked_of new) (omega (arith, rest.of.entries)) (laws.only_now seen (device (engine_of new))) rest;
    }

    acks-same : (h : List Entry) (old new : Follower D disk) → IsAtRest h (engine_of old) → engine_of new ≡ engine_of old → HasAcknowledged new
    acks-same h old new rest same = acks-at_rest h new (subst (IsAtRest h) (sym same) rest)

    pub acks-taking : (h : List Entry) (old new : Follower D disk) (e : Entry) (result : Result Heard StepFault) → IsAtRest h (engine_of old) → IsTaking (engine_of old) (engine_of new) e result → OnOk result (HasAcknowledged new)
    acks-taking h old new e (Ok (heard.Stale n)) rest taking = acks-same h old new rest taking.step
    acks-taking h old new e (Ok (heard.Early n)) rest taking = acks-same h old new rest taking.step
    acks-taking h old new e (Ok heard.Garbled) rest taking = acks-same h old new rest taking.step
    acks-taking h old new e (Ok heard.Foreign) rest taking = acks-same h old new rest taking.step
    acks-taking h old new e (Ok (heard.Taken n)) rest taking = acks-at_rest (h ++ e ∷ []) new (taking.step.step.at_rest seen h rest)
    acks-taking h old new e (Err fault) rest taking = tt

  -- ---- a frame of the leader

  module _ (laws : DeliversAreHeard) (es : List FollowEvent) (i : ℕ) (f : Frame) (old new : Follower D disk) (d : IsDeliveredTo es i f old) where
    pub delivery_answered : (result : Result Heard StepFault) → ((h : List Entry) → IsFollowerOf h old → IfOk result (HasHeard h old new f)) → IfOk result (AnswersDelivery es i new)
    delivery_answered (Ok answer) says =
        let heard = says (world_after es).follower d.of in
        let is = laws es i d.shipped f answer heard.after d.at d.frame heard.hears in
        record { of_leader = is.of_leader; of = subst (λ h. IsFollowerOf h new) is.delivery heard.of }
    delivery_answered (Err fault) says = tt

    -- What a crash leaves of it.
    torn_is : (c : Image) → IsTornBy (disk.size (device (engine_of old))) (world_after es).follower f c → HoldsDelivery es i (disk.size (device (engine_of old))) c
    torn_is c (inl before) = record { kept = false; holds = before }
    torn_is c (inr after) =
        let is = laws es i d.shipped f (heard.Taken f.number) after.after d.at d.frame (refl, after.allowed) in
        record { kept = true; holds = subst (HoldsHistory (disk.size (device (engine_of old))) c) is.delivery after.holds }

    pub delivery_torn : LeavesTorn (world_after es).follower old new f → LeavesDelivery es i old new
    delivery_torn leaves rest =
        weakens disk.calls disk.images_since (device (engine_of old)) (device (engine_of new)) (IsTornBy (disk.size (device (engine_of old))) (world_after es).follower f)
        (HoldsDelivery es i (disk.size (device (engine_of old)))) torn_is (leaves rest)
