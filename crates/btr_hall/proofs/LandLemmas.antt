-- Lemmas on the turn of a plan: what its result says of the history.
use Rattle.std.specs.Prelude.{◌≡◌, ◌⊎◌, ℕ, ◌<◌, Bool, true, false, List, ◌++◌, length}
use Rattle.std.specs.Prelude.{Option, Some, None, option_to_list, Result, Ok, Err, nat_le, if◌then◌else◌}
use Rattle.std.proofs.Common.{refl, sym, ap, ◌∙◌, subst, inl, inr, ⊎_elim}
use Rattle.std.specs.Option.{unwrap_or}
use Rattle.std.proofs.lemmas.Bool.{leb-true, false_from_ne_true}
use Rattle.std.proofs.lemmas.List.{append-nil, append_assoc}
use Rattle.btr_disk.specs.declared.disk.Disk.{Ghosts}
use Rattle.btr_hist.specs.declared.entry.Entry.{Entry}
use Rattle.btr_hist.specs.History.{ids, latest}
use Rattle.btr_hist.specs.declared.rejection.Rejection.{Rejection}
use Rattle.btr_hist.specs.declared.rejection.Rejection.TheVariants as rejections
use Rattle.btr_hist.specs.Legal.{rejection, Follows}
use Rattle.btr_hist.specs.Machine.Reply.{Superseded}
use Rattle.btr_hist.proofs.HistoryLemmas.{follows-prefix, unknown}
use Rattle.btr_distil.specs.Plan.{PlanValue, entry_of}
use Rattle.btr_plan.specs.Plan.{IsPlanOf, IsCurrent, MayReject}
use Rattle.btr_plan.proofs.PlanLemmas.{plan-stays, plan-current, plan-may_reject, plan-not_crowded, plan-not_many}
use Rattle.btr_plan.proofs.PlanLemmas.{reply-superseded, reply-accepted, reply-limit}
use Rattle.btr_engine.specs.declared.engine.Engine.{Engine}
use Rattle.btr_streams.specs.declared.board.Receipt.{Receipt}
use Rattle.btr_engine.specs.declared.step.StepFault.{StepFault}
use Rattle.btr_engine.specs.declared.step.StepFault.TheVariants as steps
use Rattle.btr_streams.specs.Board.{latest_of}
use Rattle.btr_engine.specs.Engine.{is_stopped, is_sealed, is_home, IsEngineOf}
use Rattle.btr_engine.specs.Step.{IsStep, IsStepped, HasResult}
use Rattle.btr_gate.specs.Prefixes.{StartsWith}
use Rattle.btr_gate.specs.Views.{with_entry, with_number}
use Rattle.btr_hall.specs.declared.item.Item.{Item}
use Rattle.btr_hall.specs.declared.land.LandFault.{LandFault}
use Rattle.btr_hall.specs.declared.land.LandFault.TheVariants as faults
use Rattle.btr_hall.specs.declared.store.Store.{Store}
use Rattle.btr_hall.specs.declared.session.Hall.{Hall}
use Rattle.btr_hall.specs.declared.session.Session.{Session}
use Rattle.btr_hall.specs.Trace.{IsTraceOf, engine_after, entries_in, history_of}
use Rattle.btr_hall.specs.Store.{IsStoreOf}
use Rattle.btr_hall.specs.Session.{IsAlone, HasTurns, opening_of, seen_of, mine_of, engine_of}
use Rattle.btr_hall.specs.Commit.{Adds, item_by}
use Rattle.btr_hall.specs.Commit as commit
use Rattle.btr_hall.specs.Landing.{step_fault, step_result, LandingReplies, Lands}
use Rattle.btr_hall.specs.Superseded.{IsNotSuperseded, IsSupersededBy, StoreLands, said_rejection, said_result}
use Rattle.btr_hall.proofs.TraceLemmas.{engine_at, entries_append, engine_of_list, stopped_of_list, sealed_of_list, list_push}
use Rattle.btr_hall.proofs.CommitLemmas.{replies_of, says_stopped, says_sealed, new_step, new_seen, new_mine}

-- A rejection is named, or it is said that memory ran out.
named_or_want : (why : Rejection) → (step_fault (said_rejection why) ≡ steps.Rejected why) ⊎ (said_rejection why ≡ faults.Want)
named_or_want rejections.VersionLimit = inl refl
named_or_want (rejections.Crowded start) = inl refl
named_or_want (rejections.TooManyPoints count) = inl refl
named_or_want rejections.NoStream = inr refl
named_or_want rejections.StreamExists = inr refl
named_or_want rejections.StreamLimit = inr refl
named_or_want rejections.NotWritable = inr refl
named_or_want rejections.BadSpec = inr refl
named_or_want (rejections.BadFirst first present last) = inr refl
named_or_want (rejections.Held output version) = inr refl
named_or_want (rejections.OutOfDomain time) = inr refl
named_or_want rejections.Empty = inr refl
named_or_want (rejections.TooMany count) = inr refl

-- What is said of a result has the same number.
said_number : (result : Result Receipt StepFault) (n : ℕ) → commit.number_by (step_result (said_result result)) n ≡ commit.number_by result n
said_number (Ok receipt) n = refl
said_number (Err (steps.Stopped entries)) n = refl
said_number (Err steps.Sealed) n = refl
said_number (Err (steps.Rejected why)) n =
    ⊎_elim (λ named. ap (λ f. commit.number_by (Err f) n) named) (λ want. ap (λ f. commit.number_by (Err (step_fault f)) n) want) (named_or_want why)
said_number (Err steps.Want) n = refl
said_number (Err (steps.DeviceFull need left)) n = refl
said_number (Err steps.DeviceFault) n = refl

not_both : (b : Bool) → b ≡ true → b ≡ false → ⊥
not_both b a c = cc

-- A stream that a history does not have is at version 0.
pub latest_or_none : (h : List Entry) (stream : ℕ) → Follows h → unwrap_or (latest_of h stream) 0 ≡ latest h stream
latest_or_none h stream follows =
    elim (nat_le (length (ids h)) stream) as (λ b. nat_le (length (ids h)) stream ≡ b → unwrap_or (if b then None else Some (latest h stream)) 0 ≡ latest h stream) [
      | true ↦ λ far. sym (unknown h stream follows (leb-true (length (ids h)) stream far))
      | false ↦ λ _. refl
    ] refl

module _ {D : Type 0} {disk : Ghosts D} where
  -- ---- the plan in a longer list

  -- The history of a list begins with that of each list that begins it.
  pub history_starts : (h : List Entry) (l k : List (Item D disk)) → StartsWith l k → StartsWith (history_of h l) (history_of h k)
  history_starts h l k starts =
      let all : entries_in l ≡ entries_in k ++ entries_in starts.0 = ap (entries_in {disk = disk}) starts.1 ∙ entries_append k starts.0 in
      (entries_in starts.0, ap (λ m. h ++ m) all ∙ sym (append_assoc h (entries_in k) (entries_in starts.0)))

  -- A plan of what a session has seen is one of the list of its turn.
  pub plan_later : (h : List Entry) (x : Engine D disk) (l k : List (Item D disk)) (p : PlanValue) → IsEngineOf h x → IsTraceOf x l → StartsWith l k → IsPlanOf (history_of h k) p → IsPlanOf (history_of h l) p
  plan_later h x l k p of trace starts is =
      let longer = history_starts h l k starts in
      let all : Follows (history_of h l) = (engine_of_list h x l of trace).follows in
      let front = follows-prefix (history_of h k) longer.0 (subst Follows longer.1 all) in
      subst (λ m. IsPlanOf m p) (sym longer.1) (plan-stays (history_of h k) longer.0 p front is)

  -- ---- the two ways of a landing

  -- The plan was superseded.
  record Passed (s t : Store D disk) (p : PlanValue) (added : Option (Item D disk)) (result : Result Receipt LandFault) : Type 0 where
    version : ℕ
    is : result ≡ Err (faults.Superseded version)
    same : t ≡ s
    none : added ≡ None
    by : IsSupersededBy s p (Some version)

  -- The engine did the step.
  record Stepped (s t : Store D disk) (p : PlanValue) (added : Option (Item D disk)) (result : Result Receipt LandFault) : Type 0 where
    step : Result Receipt StepFault
    adds : Adds s t (entry_of p) step added
    current : IsNotSuperseded s p
    is : result ≡ said_result step

  two_ways : (s t : Store D disk) (p : PlanValue) (added : Option (Item D disk)) (result : Result Receipt LandFault) → StoreLands s t p added result → Passed s t p added result ⊎ Stepped s t p added result
  two_ways s t p added (Err (faults.Superseded version)) lands =
      inl (record { version = version; is = refl; same = lands.0; none = lands.1; by = lands.2 })
  two_ways s t p added (Ok receipt) lands = inr (record { step = lands.0; adds = lands.1; current = lands.2; is = lands.3 })
  two_ways s t p added (Err (faults.Stopped entries)) lands = inr (record { step = lands.0; adds = lands.1; current = lands.2; is = lands.3 })
  two_ways s t p added (Err faults.Sealed) lands = inr (record { step = lands.0; adds = lands.1; current = lands.2; is = lands.3 })
  two_ways s t p added (Err faults.VersionLimit) lands = inr (record { step = lands.0; adds = lands.1; current = lands.2; is = lands.3 })
  two_ways s t p added (Err (faults.Crowded start)) lands = inr (record { step = lands.0; adds = lands.1; current = lands.2; is = lands.3 })
  two_ways s t p added (Err (faults.TooManyPoints count)) lands = inr (record { step = lands.0; adds = lands.1; current = lands.2; is = lands.3 })
  two_ways s t p added (Err faults.Want) lands = inr (record { step = lands.0; adds = lands.1; current = lands.2; is = lands.3 })
  two_ways s t p added (Err (faults.DeviceFull need left)) lands = inr (record { step = lands.0; adds = lands.1; current = lands.2; is = lands.3 })
  two_ways s t p added (Err faults.DeviceFault) lands = inr (record { step = lands.0; adds = lands.1; current = lands.2; is = lands.3 })

  lands_rejected : (s t : Store D disk) (p : PlanValue) (added : Option (Item D disk)) (why : Rejection) → Adds s t (entry_of p) (Err (steps.Rejected why)) added → IsNotSuperseded s p → StoreLands s t p added (Err (said_rejection why))
  lands_rejected s t p added rejections.VersionLimit adds current = (Err (steps.Rejected rejections.VersionLimit), adds, current, refl)
  lands_rejected s t p added (rejections.Crowded start) adds current = (Err (steps.Rejected (rejections.Crowded start)), adds, current, refl)
  lands_rejected s t p added (rejections.TooManyPoints count) adds current = (Err (steps.Rejected (rejections.TooManyPoints count)), adds, current, refl)
  lands_rejected s t p added rejections.NoStream adds current = (Err (steps.Rejected rejections.NoStream), adds, current, refl)
  lands_rejected s t p added rejections.StreamExists adds current = (Err (steps.Rejected rejections.StreamExists), adds, current, refl)
  lands_rejected s t p added rejections.StreamLimit adds current = (Err (steps.Rejected rejections.StreamLimit), adds, current, refl)
  lands_rejected s t p added rejections.NotWritable adds current = (Err (steps.Rejected rejections.NotWritable), adds, current, refl)
  lands_rejected s t p added rejections.BadSpec adds current = (Err (steps.Rejected rejections.BadSpec), adds, current, refl)
  lands_rejected s t p added (rejections.BadFirst least present last) adds current = (Err (steps.Rejected (rejections.BadFirst least present last)), adds, current, refl)
  lands_rejected s t p added (rejections.Held output version) adds current = (Err (steps.Rejected (rejections.Held output version)), adds, current, refl)
  lands_rejected s t p added (rejections.OutOfDomain time) adds current = (Err (steps.Rejected (rejections.OutOfDomain time)), adds, current, refl)
  lands_rejected s t p added rejections.Empty adds current = (Err (steps.Rejected rejections.Empty), adds, current, refl)
  lands_rejected s t p added (rejections.TooMany count) adds current = (Err (steps.Rejected (rejections.TooMany count)), adds, current, refl)

  -- A step of the entry of a plan that is not superseded is a landing, of which its result is said.
  pub step_lands : (s t : Store D disk) (p : PlanValue) (added : Option (Item D disk)) (step : Result Receipt StepFault) → Adds s t (entry_of p) step added → IsNotSuperseded s p → StoreLands s t p added (said_result step)
  step_lands s t p added (Ok receipt) adds current = (Ok receipt, adds, current, refl)
  step_lands s t p added (Err (steps.Stopped entries)) adds current = (Err (steps.Stopped entries), adds, current, refl)
  step_lands s t p added (Err steps.Sealed) adds current = (Err steps.Sealed, adds, current, refl)
  step_lands s t p added (Err (steps.Rejected why)) adds current = lands_rejected s t p added why adds current
  step_lands s t p added (Err steps.Want) adds current = (Err steps.Want, adds, current, refl)
  step_lands s t p added (Err (steps.DeviceFull need left)) adds current = (Err (steps.DeviceFull need left), adds, current, refl)
  step_lands s t p added (Err steps.DeviceFault) adds current = (Err steps.DeviceFault, adds, current, refl)

  -- ---- what the result says

  -- The plan is current if the engine runs and is not sealed.
  is_current : (h : List Entry) (s : Store D disk) (p : PlanValue) → IsEngineOf h s.engine → IsPlanOf h p → IsNotSuperseded s p → is_stopped s.engine ≡ false → is_sealed s.engine ≡ false → IsCurrent h p
  is_current h s p of is current runs unsealed = plan-current h p is (current runs unsealed h of)

  -- A step of an engine that runs, which does not say that it is sealed, is of one that is not.
  unsealed_by : (x y : Engine D disk) (e : Entry) (result : Result Receipt StepFault) → IsStep x y e result → (result ≡ Err steps.Sealed → ⊥) → is_stopped x ≡ false → is_sealed x ≡ false
  unsealed_by x y e result step not runs =
      false_from_ne_true (is_sealed x) (λ sealed. not (step.effect.sealed runs sealed).returned)

  module _ (x y : Engine D disk) (first : List Entry) (s : Store D disk) (before : List (Item D disk)) (h : List Entry) (p : PlanValue) (of : IsEngineOf h s.engine) (is : IsPlanOf h p) (current : IsNotSuperseded s p) where
    rejected_replies : (why : Rejection) → IsCurrent h p → MayReject why → rejection h (entry_of p) ≡ Some why → LandingReplies x first before h p (Err (said_rejection why))
    rejected_replies rejections.VersionLimit now may says = (now, (reply-limit h p of.follows is now says).0)
    rejected_replies (rejections.Crowded start) now may says = (now, says, plan-not_crowded h p start is now says)
    rejected_replies (rejections.TooManyPoints count) now may says = (now, says, plan-not_many h p count is now says)
    rejected_replies rejections.NoStream now may says = absurd may
    rejected_replies rejections.StreamExists now may says = absurd may
    rejected_replies rejections.StreamLimit now may says = absurd may
    rejected_replies rejections.NotWritable now may says = absurd may
    rejected_replies rejections.BadSpec now may says = absurd may
    rejected_replies (rejections.BadFirst least present last) now may says = absurd may
    rejected_replies (rejections.Held output version) now may says = absurd may
    rejected_replies (rejections.OutOfDomain time) now may says = absurd may
    rejected_replies rejections.Empty now may says = absurd may
    rejected_replies (rejections.TooMany count) now may says = absurd may

    step_replies : (result : Result Receipt StepFault) → IsStep s.engine y (entry_of p) result → commit.CommitReplies x first before h (entry_of p) result → LandingReplies x first before h p (said_result result)
    step_replies (Ok receipt) step says =
        let stepped : IsStepped h s.engine y (entry_of p) receipt = step.stepped h of in
        let reply = reply-accepted h p of.follows is (is_current h s p of is current stepped.could.runs stepped.could.unsealed) says.0 in
        (reply.0, reply.1, says.1, says.2)
    step_replies (Err (steps.Stopped entries)) step says = says
    step_replies (Err steps.Sealed) step says = says
    step_replies (Err (steps.Rejected why)) step says =
        let runs = (step.cause h of).0 in
        let now = is_current h s p of is current runs (unsealed_by s.engine y (entry_of p) (Err (steps.Rejected why)) step (λ no. cc) runs) in
        rejected_replies why now (plan-may_reject h p why of.follows is now says) says
    step_replies (Err steps.Want) step says =
        let runs = (step.cause h of).0 in
        (is_current h s p of is current runs (unsealed_by s.engine y (entry_of p) (Err steps.Want) step (λ no. cc) runs), says)
    step_replies (Err (steps.DeviceFull need left)) step says =
        let runs = (step.cause h of).0 in
        let unsealed = unsealed_by s.engine y (entry_of p) (Err (steps.DeviceFull need left)) step (λ no. cc) runs in
        (is_current h s p of is current runs unsealed, says.0, says.1, says.2, says.3)
    step_replies (Err steps.DeviceFault) step says =
        let could = (step.cause h of).0 in
        (is_current h s p of is current could.runs could.unsealed, says)

  -- ---- what is said of a result adds and does the same

  said_item : (result : Result Receipt StepFault) (e : Entry) (y : Engine D disk) → item_by (step_result (said_result result)) e y ≡ item_by result e y
  said_item (Ok receipt) e y = refl
  said_item (Err (steps.Stopped entries)) e y = refl
  said_item (Err steps.Sealed) e y = refl
  said_item (Err (steps.Rejected why)) e y =
      ⊎_elim (λ named. ap (λ f. item_by (Err f) e y) named) (λ want. ap (λ f. item_by (Err (step_fault f)) e y) want) (named_or_want why)
  said_item (Err steps.Want) e y = refl
  said_item (Err (steps.DeviceFull need left)) e y = refl
  said_item (Err steps.DeviceFault) e y = refl

  said_effect : (a b : Engine D disk) (e : Entry) (result : Result Receipt StepFault) → HasResult a b e result → HasResult a b e (step_result (said_result result))
  said_effect a b e (Ok receipt) has = has
  said_effect a b e (Err (steps.Stopped entries)) has = has
  said_effect a b e (Err steps.Sealed) has = has
  said_effect a b e (Err (steps.Rejected why)) has =
      ⊎_elim (λ named. subst (λ f. HasResult a b e (Err f)) (sym named) has) (λ want. subst (λ f. HasResult a b e (Err (step_fault f))) (sym want) has) (named_or_want why)
  said_effect a b e (Err steps.Want) has = has
  said_effect a b e (Err (steps.DeviceFull need left)) has = has
  said_effect a b e (Err steps.DeviceFault) has = has

  -- ---- the turn

  module _ (hall : Hall D disk) (old new : Session D disk) (s t : Store D disk) (before : List (Item D disk)) (p : PlanValue) (added : Option (Item D disk)) (result : Result Receipt LandFault) (of : IsStoreOf s before (opening_of hall)) (home : is_home s.engine ≡ true) (turn : HasTurns old new) (plans : (h : List Entry) → IsEngineOf h (opening_of hall) → IsPlanOf (history_of h before) p) (grows : StartsWith before (seen_of old)) (alone : IsAlone old → before ≡ seen_of old) (seen : seen_of new ≡ with_entry before added) (mine : mine_of new ≡ with_number (mine_of old) before added) where
    lands_passed : Passed s t p added result → Lands hall old new p result
    lands_passed passed =
        let x = opening_of hall in
        let nothing : step_result result ≡ Err steps.Want = ap step_result passed.is in
        let still : seen_of new ≡ before = seen ∙ ap (with_entry before) passed.none in
        record {
          turn = turn;
          before = before;
          grows = grows;
          alone = alone;
          trace = subst (IsTraceOf x) (sym still) of.trace;
          seen = still ∙ sym (append-nil before) ∙ sym (ap (λ r. before ++ option_to_list (item_by {disk = disk} r (entry_of p) (engine_of hall new))) nothing);
          mine = mine ∙ ap (with_number (mine_of old) before) passed.none ∙ sym (append-nil (mine_of old)) ∙ sym (ap (λ r. mine_of old ++ option_to_list (commit.number_by r (length (seen_of new)))) nothing);
          effect =
              let at : engine_of hall new ≡ engine_after x before = ap (engine_after x) still in
              let runs : is_stopped (engine_after x before) ≡ false = sym (ap (λ e. is_stopped e) (engine_at s before x of home)) ∙ passed.by.0 in
              subst (λ r. HasResult (engine_after x before) (engine_of hall new) (entry_of p) r) (sym nothing) (runs, at);
          stopped = λ stopped h with_h.
              let here = ap (λ e. is_stopped e) (engine_at s before x of home) ∙ stopped_of_list x before of.trace ∙ stopped in
              absurd (not_both (is_stopped s.engine) here passed.by.0);
          sealed = λ runs sealed.
              let here = ap (λ e. is_sealed e) (engine_at s before x of home) ∙ sealed_of_list x before of.trace ∙ sealed in
              absurd (not_both (is_sealed s.engine) here passed.by.1);
          replies = λ h with_h.
              let all = history_of h before in
              let at : IsEngineOf all s.engine = subst (IsEngineOf all) (sym (engine_at s before x of home)) (engine_of_list h x before with_h of.trace) in
              let version : latest all p.stream ≡ passed.version = passed.by.3 all at in
              let above : p.base < latest all p.stream = subst (λ n. p.base < n) (sym version) passed.by.2 in
              let reply = reply-superseded all p (plans h with_h) above in
              subst (LandingReplies x h before all p) (sym passed.is) (reply.0 ∙ ap Superseded version, passed.by.2, sym version);
        }

    lands_stepped : Stepped s t p added result → Lands hall old new p result
    lands_stepped stepped =
        let x = opening_of hall in
        let e = entry_of p in
        let adds = stepped.adds in
        let did = stepped.step in
        let step = new_step hall old new s t before e did added of home adds seen in
        let y = engine_of hall new in
        let item : item_by did e y ≡ item_by (step_result result) e y = sym (said_item did e y) ∙ sym (ap (λ r. item_by (step_result r) e y) stepped.is) in
        let number : commit.number_by did (length (seen_of new)) ≡ commit.number_by (step_result result) (length (seen_of new)) =
        sym (said_number did (length (seen_of new))) ∙ sym (ap (λ r. commit.number_by (step_result r) (length (seen_of new))) stepped.is) in
        let is = new_seen hall old new s t before e did added of home adds seen in
        record {
          turn = turn;
          before = before;
          grows = grows;
          alone = alone;
          trace = subst (IsTraceOf x) (sym is) (list_push x y before e did of.trace step);
          seen = is ∙ ap (λ o. before ++ option_to_list o) item;
          mine = new_mine hall old new s t before e did added of home adds seen mine ∙ ap (λ o. mine_of old ++ option_to_list o) number;
          effect = subst (λ r. HasResult (engine_after x before) y e (step_result r)) (sym stepped.is) (said_effect (engine_after x before) y e did step.effect.has_result);
          stopped = λ stopped h with_h.
              stepped.is ∙ ap said_result (says_stopped h x y before e did with_h of.trace step stopped);
          sealed = λ runs sealed. stepped.is ∙ ap said_result (says_sealed x y before e did of.trace step runs sealed);
          replies = λ h with_h.
              let all = history_of h before in
              let at : IsEngineOf all s.engine = subst (IsEngineOf all) (sym (engine_at s before x of home)) (engine_of_list h x before with_h of.trace) in
              let says = replies_of h x y before e did with_h of.trace step in
              subst (LandingReplies x h before all p) (sym stepped.is) (step_replies x t.engine h s before all p at (plans h with_h) stepped.current did adds.step says);
        }

    pub lands_of : StoreLands s t p added result → Lands hall old new p result
    lands_of lands =
        elim (two_ways s t p added result lands) [
          | inl passed ↦ lands_passed passed
          | inr stepped ↦ lands_stepped stepped
        ]
