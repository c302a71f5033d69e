-- Lemmas on one worker: each landing is right after the one before it, so the history and the report are those of the plain store.
use Rattle.std.specs.Prelude.{◌≡◌, ◌⊎◌, ℕ, ◌+◌, ◌<◌, ◌≤◌, List, [], ◌∷◌, ◌++◌, length, map, Option, Some, None, Result, Ok, Err}
use Rattle.std.specs.List.{AllByRecursion}
use Rattle.std.proofs.Common.{refl, sym, ap, ◌∙◌, subst, arith, inl, inr, length-append}
use Rattle.std.proofs.lemmas.Bool.{cases_lt}
use Rattle.btr_hist.specs.declared.entry.Entry.{Entry}
use Rattle.btr_hist.specs.declared.kernel.Spec.{Spec}
use Rattle.btr_hist.specs.declared.rejection.Rejection.{Rejection}
use Rattle.btr_hist.specs.declared.rejection.Rejection.TheVariants as rejections
use Rattle.btr_hist.specs.History.{spec_of, latest}
use Rattle.btr_hist.specs.Legal.{Legal, Follows, rejection}
use Rattle.btr_hist.specs.Machine.{Landing, planned, plan_of, landing, landing_rejection}
use Rattle.btr_hist.specs.Machine as machine
use Rattle.btr_hist.specs.Machine.Reply.{Accepted, Rejected as Refuses}
use Rattle.btr_hist.proofs.HistoryLemmas.{legal-prefix, legal-follows}
use Rattle.btr_distil.specs.Plan.{PlanValue, entry_of}
use Rattle.btr_plan.specs.Next.{IsUpToDate, IsNextPlan}
use Rattle.btr_plan.specs.Plan.{IsCurrent, landing_of, reply_to}
use Rattle.btr_plan.proofs.PlanLemmas.{plan-rejected}
use Rattle.btr_streams.specs.declared.board.Receipt.{Receipt}
use Rattle.btr_engine.specs.Body.{need_of}
use Rattle.btr_gate.specs.Prefixes.{StartsWith}
use Rattle.btr_gate.specs.Numbers.{times}
use Rattle.btr_gate.proofs.PrefixLemmas.{starts_refl, starts_trans, starts_length, starts_whole}
use Rattle.btr_hall.specs.declared.land.LandFault.{LandFault}
use Rattle.btr_hall.specs.declared.land.LandFault.TheVariants as faults
use Rattle.btr_jobs.specs.States.{StoreState, LogState}
use Rattle.btr_jobs.specs.Turns.{IsAdded, IsIdle, Landed}
use Rattle.btr_jobs.specs.PlainStore.{PlainStore, TakeResult, receipt_of, take_result, store_after, first_store, RunsThrough}
use Rattle.btr_jobs.specs.PlainStore.TakeResult.{Taken, Rejected, Full}
use Rattle.btr_jobs.proofs.PlainStoreLemmas.{needs_prefix, middle_runs, outcome_taken, outcome_full, outcome_rejected, Holds, first_holds, added_fits, holds_added, holds_full, holds_rejected, full_left, never_stopped, never_sealed}
use Rattle.btr_work.specs.declared.report.Refreshed.{Refreshed}
use Rattle.btr_work.specs.declared.report.Refreshed.TheVariants as refreshed
use Rattle.btr_work.specs.declared.report.RefreshLine.{RefreshLine}
use Rattle.btr_work.specs.Levels.{levels_of, by_levels, outputs, AreGroups}
use Rattle.btr_work.specs.Report.{IsPlanLanded, IsRefreshed, RefreshesLevels}
use Rattle.btr_work.specs.InOrder.{store_landed, store_refreshed, refreshed_by, result_landed, result_refreshed, store_each, SaysEach, HadMemoryToLand, RefreshedInOrder}
use Rattle.btr_work.proofs.MemberLemmas.{IsIn, IsInAny, groups-graded, graded-above, groups-unique, level-output, output-in}
use Rattle.btr_work.proofs.QuietLemmas.{SameInputs, same_refl}
use Rattle.btr_work.proofs.OwnLemmas.{only, same_some, AreAll, all-first, all-rest}
use Rattle.btr_work.proofs.CurrentLemmas.{spec-stays, all-since}
use Rattle.btr_work.proofs.AlikeLemmas.{plan-current, entry-here, accepted-here, rejected-here, seen-low, member-of}

-- ---- the output's plan, at the history of the plain store

module _ (h : List Entry) (output : ℕ) (spec : Spec) (plan : PlanValue) (legal : Legal h) (is_spec : spec_of h output ≡ Some spec) (is : IsNextPlan h output plan) where
  inputs : SameInputs h h spec
  inputs = record { first = same_refl spec.first h; second = λ s at. same_refl s h }

  follows : Follows h
  follows = legal-follows h legal

  current : IsCurrent h plan
  current = plan-current h h output spec plan follows (starts_refl h) is_spec is (same_refl output h) inputs

  planned-is : planned h output spec ≡ Some (landing_of plan)
  planned-is = sym (ap (plan_of h output) is_spec) ∙ is.planned

  entry-is : landing h (landing_of plan) spec ≡ entry_of plan
  entry-is = entry-here h h output spec plan follows (starts_refl h) is_spec is (same_refl output h) inputs

  rejected-as : (o : Option Rejection) → landing_rejection h (landing_of plan) ≡ o → rejection h (entry_of plan) ≡ o
  rejected-as o same = plan-rejected h plan legal is.of current ∙ same

  accepted : (r : machine.Receipt) → reply_to h plan ≡ Accepted r → rejection h (entry_of plan) ≡ None
  accepted r reply = rejected-as None (accepted-here h h output spec plan follows (starts_refl h) is_spec is (same_refl output h) inputs r reply)

  limited : reply_to h plan ≡ Refuses rejections.VersionLimit → rejection h (entry_of plan) ≡ Some rejections.VersionLimit
  limited reply = rejected-as (Some rejections.VersionLimit) (rejected-here h h output spec plan follows (starts_refl h) is_spec is (same_refl output h) inputs rejections.VersionLimit reply)

-- ---- one turn, if nothing else was added

-- What a turn leaves has happened, and the numbers of what it added are those of what follows its history.
record Turned (log : LogState) (p next : List Entry) (own : List ℕ) : Type 0 where
  pub seen : StartsWith log.history next
  pub begins : StartsWith next p
  pub numbers : (n : ℕ) → 0 < times n own → (length p < n) × (n ≤ length next)

idle-turned : (log : LogState) (p next : List Entry) (own : List ℕ) → StartsWith log.history p → IsIdle p own next → Turned log p next own
idle-turned log p next own starts idle = record {
  seen = subst (StartsWith log.history) (sym idle.next) starts;
  begins = subst (λ l. StartsWith l p) (sym idle.next) (starts_refl p);
  numbers = λ n some. absurd (let none = ap (times n) idle.own in omega (arith, some, none));
}

added-turned : (log : LogState) (p : List Entry) (e : Entry) (own : List ℕ) (next : List Entry) → IsAdded log p e own next → Turned log p next own
added-turned log p e own next added = record {
  seen = subst (StartsWith log.history) (sym added.next) added.follows;
  begins = subst (λ l. StartsWith l p) (sym added.next) (e ∷ [], refl);
  numbers = λ n some.
      let is = only n (length p + 1) own added.own some in
      let long = ap (length {A = Entry}) added.next in
      let both = length-append p (e ∷ []) in
      (omega (arith, is), omega (arith, is, long, both));
}

landed-turned : (start : StoreState) (log : LogState) (ran : RunsThrough start log) (p : List Entry) (plan : PlanValue) (result : Result Receipt LandFault) (own : List ℕ) (next : List Entry) → StartsWith log.history p → Landed start log p plan result own next → Turned log p next own
landed-turned start log ran p plan (Ok receipt) own next starts is = added-turned log p (entry_of plan) own next is.2
landed-turned start log ran p plan (Err (faults.Stopped entries)) own next starts is = idle-turned log p next own starts is.1
landed-turned start log ran p plan (Err faults.Sealed) own next starts is = idle-turned log p next own starts is.1
landed-turned start log ran p plan (Err (faults.Superseded version)) own next starts is = idle-turned log p next own starts is.3
landed-turned start log ran p plan (Err faults.VersionLimit) own next starts is = idle-turned log p next own starts is.2
landed-turned start log ran p plan (Err (faults.Crowded at)) own next starts is = idle-turned log p next own starts is.3
landed-turned start log ran p plan (Err (faults.TooManyPoints count)) own next starts is = idle-turned log p next own starts is.3
landed-turned start log ran p plan (Err faults.Want) own next starts is = idle-turned log p next own starts is.2
landed-turned start log ran p plan (Err (faults.DeviceFull need left)) own next starts is = idle-turned log p next own starts is.3
landed-turned start log ran p plan (Err faults.DeviceFault) own next starts is =
    let failed : None ≡ Some (entry_of plan) = sym ran.whole ∙ is.2.failed in
    absurd (cc)

-- If a turn added all that was added since, its history is the one before, and nothing follows it.
turn-exact : (log : LogState) (low p next : List Entry) (own : List ℕ) → StartsWith p low → Turned log p next own → AreAll low log.history own → (p ≡ low) × (log.history ≡ next)
turn-exact log low p next own starts turned all =
    let begins = starts_length p low starts in
    let grown = starts_length next p turned.begins in
    let inside = starts_length log.history next turned.seen in (
      elim (cases_lt (length low) (length p)) [
        | inl more ↦
            let n = length low + 1 in
            let is = turned.numbers n (all n (omega arith) (omega (arith, more, grown, inside))) in
            absurd (omega (arith, is.0, more))
        | inr short ↦ starts_whole p low starts short
      ],
      elim (cases_lt (length next) (length log.history)) [
        | inl more ↦
            let n = length next + 1 in
            let is = turned.numbers n (all n (omega (arith, begins, grown)) (omega (arith, more))) in
            absurd (omega (arith, is.1))
        | inr short ↦ starts_whole log.history next turned.seen short
      ],
    )

-- ---- one output

module _ (start : StoreState) (log : LogState) (ran : RunsThrough start log) (legal : Legal log.history) (c : PlainStore) (low : List Entry) (holds : Holds start c low) (output : ℕ) (spec : Spec) (is_spec : spec_of low output ≡ Some spec) (whole : StartsWith log.history low) where
  -- The result is what becomes of the output, and the plain store has then what happened.
  record Ends (r : Refreshed) : Type 0 where
    pub reported : r ≡ result_refreshed c output (spec_of c.history output)
    pub leaves : Holds start (store_refreshed c output (spec_of c.history output)) log.history

  spec-here : spec_of c.history output ≡ Some spec
  spec-here = ap (λ h. spec_of h output) holds.same ∙ is_spec

  legal-low : Legal low
  legal-low = legal-prefix low whole.0 (subst Legal whole.1 legal)

  current-ends : (version : ℕ) → IsUpToDate low output version → log.history ≡ low → Ends (refreshed.Current version)
  current-ends version is same =
      let of_spec : is.spec ≡ spec = same_some is.spec spec (sym is.output ∙ is_spec) in
      let none : planned c.history output spec ≡ None =
      ap (λ h. planned h output spec) holds.same ∙ ap (planned low output) (sym of_spec) ∙ is.nothing in
      record {
        reported =
            ap refreshed.Current (is.latest ∙ ap (λ h. latest h output) (sym holds.same))
            ∙ sym (ap (result_refreshed c output) spec-here ∙ ap (result_landed c output spec) none);
        leaves =
            subst (λ d. Holds start d log.history) (sym (ap (store_refreshed c output) spec-here ∙ ap (store_landed c spec) none))
            (subst (Holds start c) (sym same) holds);
      }

  -- What became of an output, by the result of its landing.
  abbrev by_landing : Result Receipt LandFault → Refreshed
  by_landing (Ok receipt) = refreshed.Landed receipt.version
  by_landing (Err fault) = refreshed.Refused fault

  module _ (plan : PlanValue) (is : IsNextPlan low output plan) where
    abbrev e : Entry
    e = entry_of plan

    plan-here : IsNextPlan c.history output plan
    plan-here = subst (λ h. IsNextPlan h output plan) (sym holds.same) is

    legal-here : Legal c.history
    legal-here = subst Legal (sym holds.same) legal-low

    reported-plan : result_refreshed c output (spec_of c.history output) ≡ refreshed_by (take_result c e)
    reported-plan =
        ap (result_refreshed c output) spec-here
        ∙ ap (result_landed c output spec) (planned-is c.history output spec plan legal-here spec-here plan-here)
        ∙ ap (λ x. refreshed_by (take_result c x)) (entry-is c.history output spec plan legal-here spec-here plan-here)

    left-plan : store_refreshed c output (spec_of c.history output) ≡ store_after c e
    left-plan =
        ap (store_refreshed c output) spec-here
        ∙ ap (store_landed c spec) (planned-is c.history output spec plan legal-here spec-here plan-here)
        ∙ ap (store_after c) (entry-is c.history output spec plan legal-here spec-here plan-here)

    ends-by : (r : Refreshed) (o : TakeResult) → take_result c e ≡ o → r ≡ refreshed_by o → Holds start (store_after c e) log.history → Ends r
    ends-by r o is_outcome same after = record {
      reported = same ∙ sym (reported-plan ∙ ap refreshed_by is_outcome);
      leaves = subst (λ d. Holds start d log.history) (sym left-plan) after;
    }

    landed-ends : (result : Result Receipt LandFault) (own : List ℕ) (next : List Entry) → HadMemoryToLand (by_landing result) → Landed start log low plan result own next → log.history ≡ next → Ends (by_landing result)
    landed-ends (Ok receipt) own next memory landed end =
        let added = landed.2 in
        let allowed : rejection c.history e ≡ None =
        ap (λ h. rejection h e) holds.same ∙ accepted low output spec plan legal-low is_spec is (machine.receipt low e) landed.0 in
        let room = added_fits start c low e holds (let least = needs_prefix log.history (low ++ e ∷ []) added.follows in let fits = ran.fits in omega (arith, least, fits)) in
        let taken = outcome_taken c e allowed room in
        ends-by (refreshed.Landed receipt.version) (Taken (receipt_of c.history e)) taken
        (ap refreshed.Landed (landed.1.version ∙ ap (λ h. (machine.receipt h e).version) (sym holds.same)))
        (holds_added start c low e holds log.history taken room (end ∙ added.next))
    landed-ends (Err (faults.Stopped entries)) own next memory landed end = absurd (never_stopped start log ran low entries landed.0)
    landed-ends (Err faults.Sealed) own next memory landed end = absurd (never_sealed start log ran low landed.0)
    landed-ends (Err (faults.Superseded version)) own next memory landed end =
        let now = current low output spec plan legal-low is_spec is in
        let later = landed.1 in
        let last = landed.2 in
        absurd (omega (arith, now, later, last))
    landed-ends (Err faults.VersionLimit) own next memory landed end =
        let why = ap (λ h. rejection h e) holds.same ∙ limited low output spec plan legal-low is_spec is landed.1 in
        let refused = outcome_rejected c e rejections.VersionLimit why in
        ends-by (refreshed.Refused faults.VersionLimit) (Rejected rejections.VersionLimit) refused refl
        (holds_rejected start c low e holds log.history rejections.VersionLimit refused (end ∙ landed.2.next))
    landed-ends (Err (faults.Crowded at)) own next memory landed end = absurd (landed.2 legal-low)
    landed-ends (Err (faults.TooManyPoints count)) own next memory landed end = absurd (landed.2 legal-low)
    landed-ends (Err faults.Want) own next memory landed end = absurd memory
    landed-ends (Err (faults.DeviceFull need left)) own next memory landed end =
        let room = full_left start c low e holds need left landed.2 in
        let full = outcome_full c e (ap (λ h. rejection h e) holds.same ∙ landed.1) room.2 in
        ends-by (refreshed.Refused (faults.DeviceFull need left)) (Full (need_of c.history e) c.left) full
        (λ i. refreshed.Refused (faults.DeviceFull (room.0 i) (room.1 i)))
        (holds_full start c low e holds log.history full (end ∙ landed.3.next))
    landed-ends (Err faults.DeviceFault) own next memory landed end =
        let failed : None ≡ Some e = sym ran.whole ∙ landed.2.failed in
        absurd (cc)

  module _ (own : List ℕ) (all : AreAll low log.history own) where
    plan-ends : (result : Result Receipt LandFault) → HadMemoryToLand (by_landing result) → IsPlanLanded start log low output result own → Ends (by_landing result)
    plan-ends result memory is =
        let p = is.landed.0 in
        let turned = landed-turned start log ran p is.plan result own is.next is.landed.2 is.landed.3 in
        let exact = turn-exact log low p is.next own (starts_trans p is.at low is.landed.1 is.after) turned all in
        let long = ap (length {A = Entry}) exact.0 in
        let between = starts_length p is.at is.landed.1 in
        let at : is.at ≡ low = starts_whole is.at low is.after (omega (arith, long, between)) in
        landed-ends is.plan (subst (λ h. IsNextPlan h output is.plan) at is.planned) result own is.next memory
        (subst (λ h. Landed start log h is.plan result own is.next) exact.0 is.landed.3) exact.1

    refreshed-ends : (r : Refreshed) → HadMemoryToLand r → IsRefreshed start log low output r own → Ends r
    refreshed-ends (refreshed.Landed version) memory is =
        subst (λ v. Ends (refreshed.Landed v)) (sym is.1) (plan-ends (Ok is.0) tt is.2)
    refreshed-ends (refreshed.Current version) memory is =
        let turned : Turned log low low own = idle-turned log low low own whole (record { own = is.none; next = refl }) in
        let exact = turn-exact log low low low own (starts_refl low) turned all in
        let long = ap (length {A = Entry}) exact.1 in
        let between = starts_length log.history is.at is.seen in
        let at : is.at ≡ low = starts_whole is.at low is.after (omega (arith, long, between)) in
        current-ends version (subst (λ h. IsUpToDate h output version) at is.current) exact.1
    refreshed-ends (refreshed.Refused (faults.Stopped entries)) memory is = plan-ends (Err (faults.Stopped entries)) tt is
    refreshed-ends (refreshed.Refused faults.Sealed) memory is = plan-ends (Err faults.Sealed) tt is
    refreshed-ends (refreshed.Refused (faults.Superseded version)) memory is = plan-ends (Err (faults.Superseded version)) tt is
    refreshed-ends (refreshed.Refused faults.VersionLimit) memory is = plan-ends (Err faults.VersionLimit) tt is
    refreshed-ends (refreshed.Refused (faults.Crowded at)) memory is = plan-ends (Err (faults.Crowded at)) tt is
    refreshed-ends (refreshed.Refused (faults.TooManyPoints count)) memory is = plan-ends (Err (faults.TooManyPoints count)) tt is
    refreshed-ends (refreshed.Refused faults.Want) memory is = absurd memory
    refreshed-ends (refreshed.Refused (faults.DeviceFull need left)) memory is = plan-ends (Err (faults.DeviceFull need left)) tt is
    refreshed-ends (refreshed.Refused faults.DeviceFault) memory is = plan-ends (Err faults.DeviceFault) tt is

-- ---- all outputs

outputs-exact : (start : StoreState) (result : ℕ → Refreshed) (c : PlainStore) (low : List Entry) (outs : List ℕ) (late : LogState) (own : List ℕ) → RunsThrough start late → Legal late.history → Holds start c low → ((o : ℕ) → IsIn o outs → (spec : Spec) × (spec_of low o ≡ Some spec)) → ((o : ℕ) → IsIn o outs → HadMemoryToLand (result o)) → RefreshesLevels start low result (map (λ o. o ∷ []) outs) late own → AreAll low late.history own → SaysEach c result outs × Holds start (store_each c outs) late.history
outputs-exact start result c low [] late own ran legal holds are memory refreshes all =
    let turned : Turned late low low own = record {
      seen = refreshes.0;
      begins = starts_refl low;
      numbers = λ n some. absurd (let none = refreshes.1 n in omega (arith, some, none));
    } in
    (tt, subst (Holds start c) (sym (turn-exact late low low low own (starts_refl low) turned all).1) holds)
outputs-exact start result c low (output ∷ outs) late own ran legal holds are memory refreshes all =
    let middle = refreshes.0 in
    let levels = map (λ o. o ∷ []) outs in
    let legal_middle : Legal middle.history = legal-prefix middle.history refreshes.1.begins.0 (subst Legal refreshes.1.begins.1 legal) in
    let one = refreshes.5 in
    let first = all-first start result low (output ∷ []) levels late own refreshes all in
    let mine : AreAll low middle.history one.0 = λ n after inside.
    let some = first n after inside in
    let sum = one.4 n in
    let none = one.3 n in
    omega (arith, some, sum, none) in
    let spec = are output (inl refl) in
    let ends = refreshed-ends start middle (middle_runs start late middle refreshes.1 ran) legal_middle c low holds output spec.0 spec.1 refreshes.2 one.0 mine (result output) (memory output (inl refl)) one.2 in
    let rest = outputs-exact start result (store_refreshed c output (spec_of c.history output)) middle.history outs late refreshes.4 ran legal ends.leaves
    (λ o in_outs. let s = are o (inr in_outs) in (s.0, spec-stays middle.history low o s.0 refreshes.2 s.1)) (λ o in_outs. memory o (inr in_outs)) refreshes.6
    (all-rest start result low (output ∷ []) levels late own refreshes all) in
    ((ends.reported, rest.0), rest.1)

-- ---- the law

in-append : (x : ℕ) (a b : List ℕ) → IsIn x (a ++ b) → IsIn x a ⊎ IsIn x b
in-append x [] b is = inr is
in-append x (y ∷ a) b (inl same) = inl (inl same)
in-append x (y ∷ a) b (inr later) =
    elim (in-append x a b later) [
      | inl first ↦ inl (inr first)
      | inr second ↦ inr second
    ]

in-levels : (x : ℕ) (levels : List (List ℕ)) → IsIn x (by_levels levels) → IsInAny x levels
in-levels x [] is = absurd is
in-levels x (level ∷ levels) is =
    elim (in-append x level (by_levels levels) is) [
      | inl here ↦ inl here
      | inr later ↦ inr (in-levels x levels later)
    ]

pub refreshed-in-order : RefreshedInOrder
refreshed-in-order start log report own levels ran legal mine turn are memory =
    let refreshes = turn.refreshes in
    let seen = refreshes.seen in
    let seen_is : seen ≡ start.history = seen-low start log start.history report own refreshes mine in
    let every = all-since start.history seen log own refreshes.after mine in
    let graded = groups-graded (levels_of seen) refreshes.levels refreshes.are in
    let same : refreshes.levels ≡ levels = groups-unique (levels_of seen) refreshes.levels levels refreshes.are (subst (λ h. AreGroups (levels_of h) levels) (sym seen_is) are) in
    let line : ℕ → RefreshLine = λ output. record { output = output; result = refreshes.result output } in
    let specs : (o : ℕ) → IsIn o (by_levels refreshes.levels) → (spec : Spec) × (spec_of seen o ≡ Some spec) = λ o is.
    level-output seen o (graded-above (levels_of seen) 1 refreshes.levels o graded (in-levels o refreshes.levels is)) in
    let had : (o : ℕ) → IsIn o (by_levels refreshes.levels) → HadMemoryToLand (refreshes.result o) = λ o is.
    let spec = specs o is in
    member-of (λ (l : RefreshLine). HadMemoryToLand l.result) line (outputs seen) (subst (AllByRecursion (λ (l : RefreshLine). HadMemoryToLand l.result)) refreshes.lines memory) o
    (output-in seen o spec.0 spec.1) in
    let exact = outputs-exact start refreshes.result (first_store start) seen (by_levels refreshes.levels) log own ran legal
    (subst (Holds start (first_store start)) (sym seen_is) (first_holds start)) specs had turn.in_turn every in
    record {
      history = sym exact.1.same ∙ ap (λ ls. (store_each (first_store start) (by_levels ls)).history) same;
      result = refreshes.result;
      says = subst (λ ls. SaysEach (first_store start) refreshes.result (by_levels ls)) same exact.0;
      lines = refreshes.lines ∙ ap (λ h. map line (outputs h)) seen_is;
    }
