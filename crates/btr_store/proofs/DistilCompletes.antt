-- If there is room for the outputs, and the device does not fail, work on them asks for no status of a full device or of a failed one.
use Rattle.std.specs.Prelude.{◌≡◌, ℕ, ◌+◌, ◌<◌, ◌≤◌, ◌==◌, Bool, true, false, nat_lt, List, [], ◌∷◌, ◌++◌, length, map, Option, Some, None, Result, Ok, Err}
use Rattle.std.specs.List.{AllByRecursion}
use Rattle.std.specs.declared.alloc.AllocError.{AllocError}
use Rattle.std.proofs.Common.{cond, refl, sym, ap, ◌∙◌, subst, arith, inl, inr, length-append, ⊎_elim}
use Rattle.std.proofs.lemmas.Bool.{cases_lt, cases_eq, lt-ltb, ne_eqb, true≢false}
use mathlib.Core.List.{head-eq_of_cons-eq}
use Rattle.btr_base.specs.Commit.{Change}
use Rattle.btr_hist.specs.declared.entry.Entry.{Entry}
use Rattle.btr_hist.specs.Legal.{rejection, Follows}
use Rattle.btr_hist.proofs.HistoryLemmas.{follows-prefix, follows-push}
use Rattle.btr_hist.proofs.VersionLemmas.{latest-silent}
use Rattle.btr_distil.specs.Plan.{PlanValue, entry_of}
use Rattle.btr_hist.specs.declared.kernel.Spec.{Spec}
use Rattle.btr_hist.specs.History.{change_of, latest, spec_of}
use Rattle.btr_hist.specs.Machine.{Reply, Receipt as ModelReceipt, landing_reply}
use Rattle.btr_hist.specs.Machine.Reply.{Accepted, Superseded}
use Rattle.btr_plan.specs.Next.{IsNextPlan}
use Rattle.btr_plan.specs.Plan.{IsPlanOf, IsCurrent, landing_of}
use Rattle.btr_plan.proofs.PlanLemmas.{plan-current, plan-stays}
use Rattle.btr_streams.specs.declared.board.Receipt.{Receipt}
use Rattle.btr_engine.specs.Body.{need_of, needs_of}
use Rattle.btr_engine.proofs.NeedLemmas.{needs-push}
use Rattle.btr_gate.specs.Numbers.{given}
use Rattle.btr_gate.specs.Prefixes.{StartsWith}
use Rattle.btr_gate.proofs.NumberLemmas.{given_inside}
use Rattle.btr_gate.proofs.PrefixLemmas.{starts_refl, starts_trans, starts_length, starts_same, starts_between, starts_more}
use Rattle.btr_hall.specs.declared.land.LandFault.{LandFault}
use Rattle.btr_hall.specs.declared.land.LandFault.TheVariants as faults
use Rattle.btr_jobs.specs.States.{StoreState, LogState}
use Rattle.btr_jobs.specs.Turns.{IsFull, Landed}
use Rattle.btr_work.specs.declared.report.Refreshed.{Refreshed}
use Rattle.btr_work.specs.declared.report.Refreshed.TheVariants as results
use Rattle.btr_work.specs.declared.report.RefreshLine.{RefreshLine}
use Rattle.btr_work.specs.Levels.{levels_of, outputs}
use Rattle.btr_work.specs.Laws.{AreAllSince}
use Rattle.btr_work.specs.Report.{IsPlanLanded, IsRefreshed, Refreshes}
use Rattle.btr_work.proofs.MemberLemmas.{IsInAny, Graded, groups-graded, all-members, output-spec, output-level}
use Rattle.btr_work.proofs.OwnLemmas.{refreshes-number}
use Rattle.btr_store.specs.declared.transcript.Transcript.{Transcript}
use Rattle.btr_store.specs.Completes.{SaysBenign, IsPlannedSince, LandsSince, HasRoomSince, HasRoomForOutputs}
use Rattle.btr_store.specs.Distil.{output_line, RefreshesIf, SaysReport}
use Rattle.btr_store.specs.Work.{last_number, OwnsEachOnce}
use Rattle.btr_store.proofs.Allowing.{last_same}
use Rattle.btr_store.proofs.FewVersions.{AreOfOthers, latest_push-few, own-in, one-each, versions-since}
use Rattle.btr_store.proofs.Benign.{IsCalm, says_benign, report_benign}

-- ---- plans that were accepted

not_superseded : (t : Bool) (version : ℕ) (other : Reply) (r : ModelReceipt) → cond t (Superseded version) other ≡ Accepted r → t ≡ false
not_superseded true version other r is = absurd (cc)
not_superseded false version other r is = refl

-- The output of a landing that the model accepts has no version above the one that the plan follows.
accepted_low : (h : List Entry) (p : PlanValue) (kind : Option Spec) (r : ModelReceipt) → landing_reply h (landing_of p) kind ≡ Accepted r → latest h p.stream ≤ p.base
accepted_low h p None r is = absurd (cc)
accepted_low h p (Some spec) r is =
    ⊎_elim
    (λ (above : p.base < latest h p.stream).
    let less : nat_lt p.base (latest h p.stream) ≡ true = lt-ltb p.base (latest h p.stream) above in
    let not : nat_lt p.base (latest h p.stream) ≡ false = not_superseded (nat_lt p.base (latest h p.stream)) _ _ r is in
    absurd (true≢false (sym less ∙ not)))
    (λ low. low)
    (cases_lt p.base (latest h p.stream))

-- ---- what was landed

module _ (start : StoreState) (log : LogState) (runs : log.failed ≡ None) where
  -- The entry of a number is the plan's that was landed with it.
  record IsEntryOf (q : List Entry) (plan : PlanValue) (p : List Entry) (e : Entry) : Type 0 where
    before : StartsWith p q
    current : IsCurrent p plan
    entry : e ≡ entry_of plan

  nothing_listed : (P : Type 0) (n : ℕ) → n ∷ [] ≡ [] → P
  nothing_listed P n is = absurd (cc)

  landed_entry : (q : List Entry) (plan : PlanValue) (result : Result Receipt LandFault) (next : List Entry) (at p : List Entry) (e : Entry) → StartsWith at q → IsPlanOf at plan → StartsWith log.history (p ++ e ∷ []) → Landed start log at plan result ((length p + 1) ∷ []) next → IsEntryOf q plan p e
  landed_entry q plan (Ok receipt) next at p e after of starts is =
      let added = is.2 in
      let number : length p + 1 ≡ length at + 1 = head-eq_of_cons-eq added.own in
      let long_at : length (at ++ entry_of plan ∷ []) ≡ length at + 1 = length-append at (entry_of plan ∷ []) in
      let long_p : length (p ++ e ∷ []) ≡ length p + 1 = length-append p (e ∷ []) in
      let whole : at ++ entry_of plan ∷ [] ≡ p ++ e ∷ [] = starts_same log.history (at ++ entry_of plan ∷ []) (p ++ e ∷ []) added.follows starts (omega (arith, number, long_at, long_p)) in
      let same : at ≡ p = starts_same log.history at p (starts_trans log.history (at ++ entry_of plan ∷ []) at added.follows (entry_of plan ∷ [], refl)) (starts_trans log.history (p ++ e ∷ []) p starts (e ∷ [], refl)) (omega (arith, number)) in
      record {
        before = subst (λ (h : List Entry). StartsWith h q) same after;
        current = subst (λ (h : List Entry). IsCurrent h plan) same (plan-current at plan of (accepted_low at plan (spec_of at plan.stream) _ is.0));
        entry = sym (last_same at p (entry_of plan) e same whole);
      }
  landed_entry q plan (Err (faults.Stopped entries)) next at p e after of starts is = nothing_listed _ (length p + 1) is.1.own
  landed_entry q plan (Err faults.Sealed) next at p e after of starts is = nothing_listed _ (length p + 1) is.1.own
  landed_entry q plan (Err (faults.Superseded version)) next at p e after of starts is = nothing_listed _ (length p + 1) is.3.own
  landed_entry q plan (Err faults.VersionLimit) next at p e after of starts is = nothing_listed _ (length p + 1) is.2.own
  landed_entry q plan (Err (faults.Crowded start)) next at p e after of starts is = nothing_listed _ (length p + 1) is.3.own
  landed_entry q plan (Err (faults.TooManyPoints count)) next at p e after of starts is = nothing_listed _ (length p + 1) is.3.own
  landed_entry q plan (Err faults.Want) next at p e after of starts is = nothing_listed _ (length p + 1) is.2.own
  landed_entry q plan (Err (faults.DeviceFull need left)) next at p e after of starts is = nothing_listed _ (length p + 1) is.3.own
  landed_entry q plan (Err faults.DeviceFault) next at p e after of starts is =
      let failed : None ≡ Some (entry_of plan) = sym runs ∙ is.2.failed in
      absurd (cc)

module _ (start : StoreState) (log : LogState) (runs : log.failed ≡ None) (low : List Entry) (own : List ℕ) (each : AreAllSince low log own) (follows : Follows log.history) (report : List RefreshLine) (refreshes : Refreshes start log low report own) where
  -- Each entry that was added was landed.
  planned_since : (p : List Entry) (e : Entry) → StartsWith log.history (p ++ e ∷ []) → length low ≤ length p → IsPlannedSince low p e
  planned_since p e starts long =
      let n : ℕ = length p + 1 in
      let part : length (p ++ e ∷ []) ≡ length p + 1 = length-append p (e ∷ []) in
      let below : length (p ++ e ∷ []) ≤ length log.history = starts_length log.history (p ++ e ∷ []) starts in
      let listed : given (length low) (last_number log) n ≡ 1 = given_inside (length low) (last_number log) n (omega (arith, long)) (omega (arith, part, below)) in
      let is = refreshes-number start log low report own refreshes n (omega (arith, each n, listed)) in
      let turn = is.6 in
      let before : StartsWith log.history turn.0 = turn.2 in
      let here : Follows turn.0 = follows-prefix turn.0 before.0 (subst Follows before.1 follows) in
      let after : StartsWith turn.0 is.0 = turn.1 in
      let then : Follows is.0 = follows-prefix is.0 after.0 (subst Follows after.1 here) in
      let of : IsPlanOf turn.0 is.1 = subst (λ (h : List Entry). IsPlanOf h is.1) (sym after.1) (plan-stays is.0 after.0 is.1 then is.5.of) in
      let entry : IsEntryOf start log runs is.0 is.1 p e = landed_entry start log runs is.0 is.1 is.2 is.3 turn.0 p e turn.1 of starts turn.3 in
      record { at = is.0; since = is.4; before = entry.before; plan = is.1; planned = is.5; current = entry.current; entry = entry.entry }

  -- A plan that might be landed: with it the history goes on by landings, too.
  lands_next : (most : ℕ) (p : List Entry) (e : Entry) → StartsWith log.history p → StartsWith p low → rejection p e ≡ None → IsPlannedSince low p e → ((stream : ℕ) → latest (p ++ e ∷ []) stream ≤ latest low stream + most) → LandsSince most low (p ++ e ∷ [])
  lands_next most p e starts begins accepted planned few = record {
    begins = starts_more p low (e ∷ []) begins;
    follows = follows-push p e (follows-prefix p starts.0 (subst Follows starts.1 follows)) accepted;
    planned = λ q f within long.
        ⊎_elim
        (λ (short : length q < length p).
        let part : length (q ++ f ∷ []) ≡ length q + 1 = length-append q (f ∷ []) in
        let inside : StartsWith p (q ++ f ∷ []) = starts_between (p ++ e ∷ []) (q ++ f ∷ []) p within (e ∷ [], refl) (omega (arith, short, part)) in
        planned_since q f (starts_trans log.history p (q ++ f ∷ []) starts inside) long)
        (λ (whole : length p ≤ length q).
        let part_q : length (q ++ f ∷ []) ≡ length q + 1 = length-append q (f ∷ []) in
        let part_p : length (p ++ e ∷ []) ≡ length p + 1 = length-append p (e ∷ []) in
        let below : length (q ++ f ∷ []) ≤ length (p ++ e ∷ []) = starts_length (p ++ e ∷ []) (q ++ f ∷ []) within in
        let all : p ++ e ∷ [] ≡ q ++ f ∷ [] = starts_same (p ++ e ∷ []) (p ++ e ∷ []) (q ++ f ∷ []) (starts_refl (p ++ e ∷ [])) within (omega (arith, whole, part_q, part_p, below)) in
        let same : p ≡ q = starts_same (p ++ e ∷ []) p q (e ∷ [], refl) (starts_trans (p ++ e ∷ []) (q ++ f ∷ []) q within (f ∷ [], refl)) (omega (arith, whole, part_q, part_p, below)) in
        subst (λ (x : Entry). IsPlannedSince low q x) (last_same p q e f same all) (subst (λ (h : List Entry). IsPlannedSince low h e) same planned))
        (cases_lt (length q) (length p));
    few = few;
  }

  never_full : (most : ℕ) → HasRoomSince most start low → (p : List Entry) (e : Entry) (need left : ℕ) → IsFull start p e need left → LandsSince most low (p ++ e ∷ []) → ⊥
  never_full most room p e need left full lands =
      let fits : needs_of (p ++ e ∷ []) ≤ start.left + needs_of start.history = room (p ++ e ∷ []) lands in
      let sum : needs_of (p ++ e ∷ []) ≡ needs_of p + need_of p e = needs-push p e in
      let needed = full.need in
      let was = full.left in
      let short = full.short in
      omega (arith, fits, sum, needed, was, short)

  -- ---- each output is landed once at most

  abbrev seen : List Entry
  seen = refreshes.seen

  graded : Graded (levels_of seen) 1 refreshes.levels
  graded = groups-graded (levels_of seen) refreshes.levels refreshes.are

  -- At any time a stream has at most one version more.
  one_more : (p : List Entry) (stream : ℕ) → StartsWith log.history p → StartsWith p low → latest p stream ≤ latest low stream + 1
  one_more p stream starts begins =
      let one = one-each start refreshes.result seen refreshes.levels log own graded refreshes.refreshes stream in
      omega (arith, one.1, versions-since low seen log own each stream one.0 one.2 p starts begins)

  -- With the entry of a plan for an output of which nothing was added a stream has still at most one version more.
  still_one : (p : List Entry) (plan : PlanValue) → AreOfOthers plan.stream log seen own [] → StartsWith log.history p → StartsWith p low → (stream : ℕ) → latest (p ++ entry_of plan ∷ []) stream ≤ latest low stream + 1
  still_one p plan others starts begins stream =
      elim (cases_eq stream plan.stream) [
        | inl same ↦
            let none : latest p plan.stream ≤ latest low plan.stream + 0 = versions-since low seen log own each plan.stream [] others p starts begins in
            let more : latest (p ++ entry_of plan ∷ []) plan.stream ≤ latest p plan.stream + 1 = latest_push-few p (entry_of plan) plan.stream in
            subst (λ (s : ℕ). latest (p ++ entry_of plan ∷ []) s ≤ latest low s + 1) (sym same) (omega (arith, none, more))
        | inr differs ↦
            let other : (plan.stream == stream) ≡ false = ne_eqb plan.stream stream (λ same. differs (sym same)) in
            let silent : change_of stream (entry_of plan) ≡ None =
            ap (λ b. cond {A = Option Change} b (Some (record { cut = plan.cut; added = plan.added })) None) other in
            omega (arith, latest-silent p (entry_of plan) stream silent, one_more p stream starts begins)
      ]

  module _ (room : HasRoomSince 1 start low) where
    plan_calm : (here : List Entry) (output need left : ℕ) (mine : List ℕ) → StartsWith here low → AreOfOthers output log seen own mine → IsPlanLanded start log here output (Err (faults.DeviceFull need left)) mine → ⊥
    plan_calm here output need left mine begins others is =
        let turn = is.landed in
        let p : List Entry = turn.0 in
        let at_low : StartsWith is.at low = starts_trans is.at here low is.after begins in
        let after_low : StartsWith p low = starts_trans p is.at low turn.1 at_low in
        let planned : IsPlannedSince low p (entry_of is.plan) = record {
          at = is.at;
          since = at_low;
          before = turn.1;
          plan = is.plan;
          planned = subst (λ (s : ℕ). IsNextPlan is.at s is.plan) (sym is.planned.same_stream) is.planned;
          current = turn.3.0;
          entry = refl;
        } in
        let none : AreOfOthers is.plan.stream log seen own [] =
        subst (λ (s : ℕ). AreOfOthers s log seen own []) (sym is.planned.same_stream)
        (subst (λ (l : List ℕ). AreOfOthers output log seen own l) turn.3.3.own others) in
        never_full 1 room p (entry_of is.plan) need left turn.3.2
        (lands_next 1 p (entry_of is.plan) turn.2 after_low turn.3.1 planned (still_one p is.plan none turn.2 after_low))

    plan_ran : (here : List Entry) (output : ℕ) (mine : List ℕ) → IsPlanLanded start log here output (Err faults.DeviceFault) mine → ⊥
    plan_ran here output mine is =
        let failed : None ≡ Some (entry_of is.plan) = sym runs ∙ is.landed.3.2.failed in
        absurd (cc)

    refreshed_calm : (here : List Entry) (output : ℕ) (result : Refreshed) (mine : List ℕ) → StartsWith here low → AreOfOthers output log seen own mine → IsRefreshed start log here output result mine → IsCalm result
    refreshed_calm here output (results.Landed version) mine begins others is = tt
    refreshed_calm here output (results.Current version) mine begins others is = tt
    refreshed_calm here output (results.Refused (faults.Stopped entries)) mine begins others is = tt
    refreshed_calm here output (results.Refused faults.Sealed) mine begins others is = tt
    refreshed_calm here output (results.Refused (faults.Superseded version)) mine begins others is = tt
    refreshed_calm here output (results.Refused faults.VersionLimit) mine begins others is = tt
    refreshed_calm here output (results.Refused (faults.Crowded start)) mine begins others is = tt
    refreshed_calm here output (results.Refused (faults.TooManyPoints count)) mine begins others is = tt
    refreshed_calm here output (results.Refused faults.Want) mine begins others is = tt
    refreshed_calm here output (results.Refused (faults.DeviceFull need left)) mine begins others is =
        plan_calm here output need left mine begins others is
    refreshed_calm here output (results.Refused faults.DeviceFault) mine begins others is = plan_ran here output mine is

    output_calm : (output : ℕ) → IsInAny output refreshes.levels → IsCalm (refreshes.result output)
    output_calm output any =
        let is = own-in start refreshes.result seen 1 seen refreshes.levels log own graded refreshes.refreshes output any in
        refreshed_calm is.here output (refreshes.result output) is.mine (starts_trans is.here seen low is.begins refreshes.after) is.others is.refreshed

    pub report_calm : AllByRecursion (λ line. IsCalm line.result) report
    report_calm =
        let result : ℕ → Refreshed = refreshes.result in
        let seen_follows : Follows seen = follows-prefix seen refreshes.before.0 (subst Follows refreshes.before.1 follows) in
        let line : ℕ → RefreshLine = λ output. record { output = output; result = result output } in
        subst (AllByRecursion (λ line. IsCalm line.result)) (sym refreshes.lines)
        (all-members (λ (l : RefreshLine). IsCalm l.result) line (outputs seen) (λ output is.
        let spec = output-spec seen output is in
        output_calm output (output-level seen refreshes.levels seen_follows refreshes.are output spec.0 spec.1)))

pub report_completes : (start : StoreState) (log : LogState) (own : List ℕ) (report : Option (List RefreshLine)) (said : Result Transcript AllocError) → OwnsEachOnce start log own → Follows log.history → RefreshesIf start log start.history report own → SaysReport log.history report said → HasRoomForOutputs start → log.failed ≡ None → SaysBenign said
report_completes start log own report (Err error) each follows refreshes says room runs = tt
report_completes start log own None (Ok transcript) each follows refreshes says room runs = absurd says
report_completes start log own (Some report) (Ok transcript) each follows refreshes says room runs =
    says_benign (map (output_line log.history) report) transcript says
    (report_benign log.history report (report_calm start log runs start.history own each follows report refreshes room))
