-- What rounds add serves the script: each entry is the landing of one output, and no round lands an output twice. If an output found the
-- device full, its landing could have been there for the round.
use Rattle.std.specs.Prelude.{◌≡◌, ◌≢◌, ℕ, ◌+◌, ◌<◌, ◌≤◌, ◌==◌, ◌&&◌, false, List, [], ◌∷◌, ◌++◌, length, None, Ok, Err}
use Rattle.std.specs.List.{AllByRecursion}
use Rattle.std.proofs.Common.{zero, suc, refl, sym, ap, subst, arith, inl, inr}
use Rattle.std.proofs.lemmas.Bool.{cases_eq, eq-eqb, ne_eqb}
use Rattle.btr_hist.specs.declared.entry.Entry.{Entry}
use Rattle.btr_hist.specs.Legal.{Follows}
use Rattle.btr_hist.proofs.HistoryLemmas.{follows-prefix}
use Rattle.btr_distil.specs.Plan.{PlanValue, entry_of}
use Rattle.btr_plan.specs.Next.{IsNextPlan}
use Rattle.btr_plan.specs.Plan.{IsCurrent}
use Rattle.btr_streams.specs.declared.board.Receipt.{Receipt}
use Rattle.btr_gate.specs.Numbers.{one, times, total}
use Rattle.btr_gate.specs.Prefixes.{StartsWith}
use Rattle.btr_gate.proofs.NumberLemmas.{one_same, one_other}
use Rattle.btr_gate.proofs.PrefixLemmas.{starts_trans}
use Rattle.btr_hall.specs.declared.land.LandFault.TheVariants as faults
use Rattle.btr_jobs.specs.States.{StoreState, LogState, GoesOn}
use Rattle.btr_jobs.specs.TurnLaws.{goes_trans}
use Rattle.btr_load.proofs.TotalLemmas.{total_append}
use Rattle.btr_text.specs.declared.script.ScriptLine.{ScriptLine}
use Rattle.btr_work.specs.declared.report.Refreshed.{Refreshed}
use Rattle.btr_work.specs.declared.report.Refreshed.TheVariants as results
use Rattle.btr_work.specs.declared.report.RefreshLine.{RefreshLine}
use Rattle.btr_work.specs.Levels.{outputs, levels_of}
use Rattle.btr_work.specs.Report.{IsPlanLanded, IsRefreshed, RefreshesEach, RefreshesLevels, Refreshes}
use Rattle.btr_work.specs.ReportLaws.{refreshed_lasts}
use Rattle.btr_work.proofs.MemberLemmas.{IsIn, Distinct, IsInAny, Graded, groups-graded, graded-above, output-spec, output-level, all-members}
use Rattle.btr_store.specs.Completes.{IsBenign}
use Rattle.btr_store.specs.Status.{status_of_reason}
use Rattle.btr_live.specs.Reasons.{reason_of_landing}
use Rattle.btr_top.specs.declared.live.FeedKind.{FeedKind}
use Rattle.btr_top.specs.Room.{OfRound, has_line, has_landing, LandsFor, Service}
use Rattle.btr_top.proofs.ServiceLemmas.{counted, lines_had, landings_had, Served, served_append}
use Rattle.btr_top.proofs.LineTurns.{not_failed, current_plan, plan_here, lands_here}
use Rattle.btr_top.proofs.LaneServes.{Refusal}

-- The line of an output asks for a benign status.
abbrev pub IsCalm : Refreshed → Type 0
IsCalm (results.Landed version) = Unit {0}
IsCalm (results.Current version) = Unit {0}
IsCalm (results.Refused fault) = IsBenign (status_of_reason (reason_of_landing fault))

-- ---- outputs of levels

in_times : (x : ℕ) (xs : List ℕ) → 0 < times x xs → IsIn x xs
in_times x [] some = absurd (omega (arith, some))
in_times x (y ∷ xs) some =
    elim (cases_eq y x) [
      | inl same ↦ inl (sym same)
      | inr differs ↦ inr (in_times x xs (let other = one_other y x differs in omega (arith, some, other)))
    ]

-- What is not in a list is there no time.
not_times : (x : ℕ) (xs : List ℕ) → (IsIn x xs → ⊥) → times x xs ≡ 0
not_times x [] not = refl
not_times x (y ∷ xs) not =
    let other = one_other y x (λ same. not (inl (sym same))) in
    let rest = not_times x xs (λ is. not (inr is)) in
    omega (arith, other, rest)

distinct_once : (x : ℕ) (xs : List ℕ) → Distinct xs → times x xs ≤ 1
distinct_once x [] distinct = omega arith
distinct_once x (y ∷ xs) distinct =
    elim (cases_eq y x) [
      | inl same ↦
          let here = one_same y x same in
          let rest = not_times x xs (λ is. distinct.0 (subst (λ z. IsIn z xs) (sym same) is)) in
          omega (arith, here, rest)
      | inr differs ↦
          let other = one_other y x differs in
          let rest = distinct_once x xs distinct.1 in
          omega (arith, other, rest)
    ]

some_in : (x : ℕ) (groups : List (List ℕ)) → 0 < total (times x) groups → IsInAny x groups
some_in x [] some = absurd (omega (arith, some))
some_in x (group ∷ groups) some =
    elim (cases_eq (times x group) 0) [
      | inl none ↦ inr (some_in x groups (omega (arith, some, none)))
      | inr there ↦ inl (in_times x group (positive (times x group) there))
    ]
  where
    positive : (n : ℕ) → n ≢ 0 → 0 < n
    positive zero not = absurd (not refl)
    positive (suc n) not = omega arith

-- No output is in graded lists twice.
graded_once : (x base : ℕ) (levels : List ℕ) (groups : List (List ℕ)) → Graded levels base groups → total (times x) groups ≤ 1
graded_once x base levels [] are = omega arith
graded_once x base levels (group ∷ groups) are =
    let here = distinct_once x group are.1 in
    elim (cases_eq (total (times x) groups) 0) [
      | inl none ↦ omega (arith, here, none)
      | inr some ↦
          let any : IsInAny x groups = some_in x groups (positive (total (times x) groups) some) in
          let above = graded-above levels (suc base) groups x are.2 any in
          let not = not_times x group (λ is. let level = are.0 x is in absurd (omega (arith, above, level))) in
          let rest = graded_once x (suc base) levels groups are.2 in
          omega (arith, not, rest)
    ]
  where
    positive : (n : ℕ) → n ≢ 0 → 0 < n
    positive zero not = absurd (not refl)
    positive (suc n) not = omega arith

-- ---- rounds

pub landing_here : (round output o : ℕ) → has_landing round o (OfRound round output) ≡ one (output == o)
landing_here round output o = ap (λ b. one (b && output == o)) (eq-eqb round round refl)

pub landing_elsewhere : (round r output o : ℕ) → r ≢ round → has_landing r o (OfRound round output) ≡ 0
landing_elsewhere round r output o differs = ap (λ b. one (b && output == o)) (ne_eqb round r (λ same. differs (sym same)))

module _ (feeds : FeedKind) (rounds : ℕ) (script : List ScriptLine) (start : StoreState) (log : LogState) (running : start.stopped ≡ false) (sound : log.failed ≡ None) (follows : Follows log.history) (low : List Entry) (round : ℕ) where
  abbrev Here : Service → Type 0
  Here s = Served feeds rounds script low log.history s

  -- What a part of a round did. `most` says how often it may land each output. It is calm if no landing could have been refused.
  pub record RoundServes (most : ℕ → ℕ) (Calm : Type 0) (own : List ℕ) : Type 0 where
    pub services : List Service
    pub numbers : (n : ℕ) → counted n services ≡ times n own
    pub are : AllByRecursion Here services
    pub no_line : (k : ℕ) → lines_had k services ≡ 0
    pub landings : (output : ℕ) → landings_had round output services ≤ most output
    pub no_other : (r output : ℕ) → r ≢ round → landings_had r output services ≡ 0
    pub calm : ((p : List Entry) (e : Entry) (output : ℕ) → Refusal feeds rounds script start log running sound follows low p e (OfRound round output)
        → ((o : ℕ) → one (output == o) + landings_had round o services ≤ most o) → ⊥) → Calm

  none_serves : (Calm : Type 0) (own : List ℕ) → Calm → ((n : ℕ) → times n own ≡ 0) → RoundServes (λ o. 0) Calm own
  none_serves Calm own calm none = record {
    services = [];
    numbers = λ n. sym (none n);
    are = tt;
    no_line = λ k. refl;
    landings = λ o. omega arith;
    no_other = λ r o differs. refl;
    calm = λ never. calm;
  }

  more_serves : (few most : ℕ → ℕ) (Calm More : Type 0) (own : List ℕ) → ((o : ℕ) → few o ≤ most o) → (Calm → More) → RoundServes few Calm own → RoundServes most More own
  more_serves few most Calm More own fewer calmer is = record {
    services = is.services;
    numbers = is.numbers;
    are = is.are;
    no_line = is.no_line;
    landings = λ o. let a = is.landings o in let b = fewer o in omega (arith, a, b);
    no_other = is.no_other;
    calm = λ never. calmer (is.calm (λ p e output refusal few. never p e output refusal (λ o. let a = few o in let b = fewer o in omega (arith, a, b))));
  }

  both_serve : (a b : ℕ → ℕ) (First Second : Type 0) (own first second : List ℕ) → RoundServes a First first → RoundServes b Second second → ((n : ℕ) → times n own ≡ times n first + times n second) → RoundServes (λ o. a o + b o) (First × Second) own
  both_serve a b First Second own first second one_part other_part sum = record {
    services = one_part.services ++ other_part.services;
    numbers = λ n.
        let s = total_append (λ (x : Service). one (x.number == n)) one_part.services other_part.services in
        let f = one_part.numbers n in
        let g = other_part.numbers n in
        let t = sum n in
        omega (arith, s, f, g, t);
    are = served_append feeds rounds script low log.history one_part.services other_part.services one_part.are other_part.are;
    no_line = λ k.
        let s = total_append (λ (x : Service). has_line k x.purpose) one_part.services other_part.services in
        let f = one_part.no_line k in
        let g = other_part.no_line k in
        omega (arith, s, f, g);
    landings = λ o.
        let s = total_append (λ (x : Service). has_landing round o x.purpose) one_part.services other_part.services in
        let f = one_part.landings o in
        let g = other_part.landings o in
        omega (arith, s, f, g);
    no_other = λ r o differs.
        let s = total_append (λ (x : Service). has_landing r o x.purpose) one_part.services other_part.services in
        let f = one_part.no_other r o differs in
        let g = other_part.no_other r o differs in
        omega (arith, s, f, g);
    calm = λ never. (
      one_part.calm (λ p e output refusal few.
          never p e output refusal (λ o.
          let s = total_append (λ (x : Service). has_landing round o x.purpose) one_part.services other_part.services in
          let f = few o in
          let g = other_part.landings o in
          omega (arith, s, f, g))),
      other_part.calm (λ p e output refusal few.
          never p e output refusal (λ o.
          let s = total_append (λ (x : Service). has_landing round o x.purpose) one_part.services other_part.services in
          let f = one_part.landings o in
          let g = few o in
          omega (arith, s, f, g))),
    );
  }

  -- ---- one output

  module _ (is_round : round < rounds) (here : List Entry) (after : StartsWith here low) (output : ℕ) (own : List ℕ) where
    abbrev Once : ℕ → ℕ
    Once o = one (output == o)

    nothing : (result : Refreshed) → IsCalm result → own ≡ [] → RoundServes Once (IsCalm result) own
    nothing result calm none = more_serves (λ o. 0) Once (IsCalm result) (IsCalm result) own (λ o. omega arith) (λ c. c) (none_serves (IsCalm result) own calm (λ n. ap (times n) none))

    -- The plan as one for the output.
    planned_for : (at : List Entry) (plan : PlanValue) → IsNextPlan at output plan → IsNextPlan at plan.stream plan
    planned_for at plan planned = subst (λ (s : ℕ). IsNextPlan at s plan) (sym planned.same_stream) planned

    lands_for : (at p : List Entry) (plan : PlanValue) → StartsWith at here → StartsWith p at → IsNextPlan at output plan → IsCurrent p plan → LandsFor low p (entry_of plan) output
    lands_for at p plan since before planned current =
        subst (λ (s : ℕ). LandsFor low p (entry_of plan) s) planned.same_stream
        (lands_here start log running sound follows low at p plan (starts_trans at here low since after) before (planned_for at plan planned) current)

    landed_serves : (version : ℕ) (receipt : Receipt) → IsPlanLanded start log here output (Ok receipt) own → RoundServes Once (IsCalm (results.Landed version)) own
    landed_serves version receipt is =
        let p : List Entry = is.landed.0 in
        let s : Service = record { number = length p + 1; purpose = OfRound round output } in
        let added = is.landed.3.2 in
        let of = plan_here start log running sound follows low is.at p is.plan is.landed.1 is.landed.2 (planned_for is.at is.plan is.planned) in
        let current = current_plan start log running sound follows low p is.plan _ of is.landed.3.0 in
        let served : Here s = record {
          before = p;
          entry = entry_of is.plan;
          there = added.follows;
          since = starts_trans p is.at low is.landed.1 (starts_trans is.at here low is.after after);
          same_number = refl;
          is_for = (is_round, lands_for is.at p is.plan is.after is.landed.1 is.planned current);
        } in
        record {
          services = s ∷ [];
          numbers = λ n. sym (ap (times n) added.own);
          are = (served, tt);
          no_line = λ k. refl;
          landings = λ o. let l = landing_here round output o in omega (arith, l);
          no_other = λ r o differs. let l = landing_elsewhere round r output o differs in omega (arith, l);
          calm = λ never. tt;
        }

    full_serves : (need left : ℕ) → IsPlanLanded start log here output (Err (faults.DeviceFull need left)) own → RoundServes Once (IsCalm (results.Refused (faults.DeviceFull need left))) own
    full_serves need left is =
        let p : List Entry = is.landed.0 in
        let turn = is.landed.3 in
        record {
          services = [];
          numbers = λ n. sym (ap (times n) turn.3.own);
          are = tt;
          no_line = λ k. refl;
          landings = λ o. omega arith;
          no_other = λ r o differs. refl;
          calm = λ never.
              absurd (never p (entry_of is.plan) output
              record {
                starts = is.landed.2;
                since = starts_trans p is.at low is.landed.1 (starts_trans is.at here low is.after after);
                accepted = turn.1;
                is_for = (is_round, lands_for is.at p is.plan is.after is.landed.1 is.planned turn.0);
                need = need;
                left = left;
                full = turn.2;
              }
              (λ o. omega arith));
        }

    refreshed_serves : (result : Refreshed) → IsRefreshed start log here output result own → RoundServes Once (IsCalm result) own
    refreshed_serves (results.Landed version) is = landed_serves version is.0 is.2
    refreshed_serves (results.Current version) is = nothing (results.Current version) tt is.none
    refreshed_serves (results.Refused (faults.Stopped entries)) is = nothing (results.Refused (faults.Stopped entries)) (inr (inl refl)) is.landed.3.1.own
    refreshed_serves (results.Refused faults.Sealed) is = nothing (results.Refused faults.Sealed) (inr (inl refl)) is.landed.3.1.own
    refreshed_serves (results.Refused (faults.Superseded version)) is = nothing (results.Refused (faults.Superseded version)) (inr (inl refl)) is.landed.3.3.own
    refreshed_serves (results.Refused faults.VersionLimit) is = nothing (results.Refused faults.VersionLimit) (inr (inl refl)) is.landed.3.2.own
    refreshed_serves (results.Refused (faults.Crowded at)) is = nothing (results.Refused (faults.Crowded at)) (inr (inl refl)) is.landed.3.3.own
    refreshed_serves (results.Refused (faults.TooManyPoints count)) is = nothing (results.Refused (faults.TooManyPoints count)) (inr (inl refl)) is.landed.3.3.own
    refreshed_serves (results.Refused faults.Want) is = nothing (results.Refused faults.Want) (inr (inr refl)) is
    refreshed_serves (results.Refused (faults.DeviceFull need left)) is = full_serves need left is
    refreshed_serves (results.Refused faults.DeviceFault) is = absurd (not_failed start log running sound follows low (entry_of is.plan) is.landed.3.2.failed)

  -- ---- all outputs

  abbrev AreCalm : (ℕ → Refreshed) → List ℕ → Type 0
  AreCalm result level = (output : ℕ) → IsIn output level → IsCalm (result output)

  each_serve : round < rounds → (early : LogState) (here : List Entry) (result : ℕ → Refreshed) (level own : List ℕ) → GoesOn start log early → StartsWith here low → RefreshesEach start early here result level own → RoundServes (λ o. times o level) (AreCalm result level) own
  each_serve is_round early here result [] own on after refreshes = none_serves (AreCalm result []) own (λ output is. absurd is) refreshes
  each_serve is_round early here result (output ∷ level) own on after refreshes =
      let first = refreshed_serves is_round here after output refreshes.0 (result output) (refreshed_lasts start log early here output (result output) refreshes.0 on refreshes.2) in
      let rest = each_serve is_round early here result level refreshes.1 on after refreshes.3 in
      more_serves (λ o. one (output == o) + times o level) (λ o. times o (output ∷ level)) (IsCalm (result output) × AreCalm result level) (AreCalm result (output ∷ level)) own
      (λ o. omega arith) (λ calm. cases calm)
      (both_serve (λ o. one (output == o)) (λ o. times o level) (IsCalm (result output)) (AreCalm result level) own refreshes.0 refreshes.1 first rest refreshes.4)
    where
      cases : IsCalm (result output) × AreCalm result level → AreCalm result (output ∷ level)
      cases calm other (inl same) = subst (λ (x : ℕ). IsCalm (result x)) (sym same) calm.0
      cases calm other (inr is) = calm.1 other is

  abbrev AreAllCalm : (ℕ → Refreshed) → List (List ℕ) → Type 0
  AreAllCalm result levels = (output : ℕ) → IsInAny output levels → IsCalm (result output)

  levels_serve : round < rounds → (late : LogState) (here : List Entry) (result : ℕ → Refreshed) (levels : List (List ℕ)) (own : List ℕ) → GoesOn start log late → StartsWith here low → RefreshesLevels start here result levels late own → RoundServes (λ o. total (times o) levels) (AreAllCalm result levels) own
  levels_serve is_round late here result [] own on after refreshes = none_serves (AreAllCalm result []) own (λ output is. absurd is) refreshes.1
  levels_serve is_round late here result (level ∷ levels) own on after refreshes =
      let middle : LogState = refreshes.0 in
      let first = each_serve is_round middle here result level refreshes.3 (goes_trans start log late middle on refreshes.1) after refreshes.5 in
      let rest = levels_serve is_round late middle.history result levels refreshes.4 on (starts_trans middle.history here low refreshes.2 after) refreshes.6 in
      more_serves (λ o. times o level + total (times o) levels) (λ o. total (times o) (level ∷ levels)) (AreCalm result level × AreAllCalm result levels) (AreAllCalm result (level ∷ levels)) own
      (λ o. omega arith) (λ calm. cases calm)
      (both_serve (λ o. times o level) (λ o. total (times o) levels) (AreCalm result level) (AreAllCalm result levels) own refreshes.3 refreshes.4 first rest refreshes.7)
    where
      cases : AreCalm result level × AreAllCalm result levels → AreAllCalm result (level ∷ levels)
      cases calm other (inl is) = calm.0 other is
      cases calm other (inr is) = calm.1 other is

  -- ---- a round

  -- Each output once.
  pub round_serves : round < rounds → (late : LogState) (known : List Entry) (report : List RefreshLine) (own : List ℕ) → GoesOn start log late → StartsWith known low → Refreshes start late known report own → RoundServes (λ o. 1) (AllByRecursion (λ (line : RefreshLine). IsCalm line.result) report) own
  round_serves is_round late known report own on after refreshes =
      let seen : List Entry = refreshes.seen in
      let levels : List (List ℕ) = refreshes.levels in
      let here : StartsWith log.history seen = starts_trans log.history late.history seen on.begins refreshes.before in
      let then : Follows seen = follows-prefix seen here.0 (subst Follows here.1 follows) in
      more_serves (λ o. total (times o) levels) (λ o. 1) (AreAllCalm refreshes.result levels) (AllByRecursion (λ (line : RefreshLine). IsCalm line.result) report) own
      (λ o. graded_once o 1 (levels_of seen) levels (groups-graded (levels_of seen) levels refreshes.are))
      (λ calm.
      subst (λ (r : List RefreshLine). AllByRecursion (λ line. IsCalm line.result) r) (sym refreshes.lines)
      (all-members (λ (line : RefreshLine). IsCalm line.result) (λ output. record { output = output; result = refreshes.result output }) (outputs seen) (λ output is.
      let spec = output-spec seen output is in
      calm output (output-level seen levels then refreshes.are output spec.0 spec.1))))
      (levels_serve is_round late seen refreshes.result levels own on (starts_trans seen known low refreshes.after after) refreshes.refreshes)

  -- A round of which nothing was done.
  pub no_round : (own : List ℕ) → ((n : ℕ) → times n own ≡ 0) → RoundServes (λ o. 1) (Unit {0}) own
  no_round own none = more_serves (λ o. 0) (λ o. 1) (Unit {0}) (Unit {0}) own (λ o. omega arith) (λ calm. calm) (none_serves (Unit {0}) own tt none)

  pub any_round : round < rounds → (late : LogState) (known : List Entry) (report : List RefreshLine) (own : List ℕ) → GoesOn start log late → StartsWith known low → Refreshes start late known report own → RoundServes (λ o. 1) (Unit {0}) own
  any_round is_round late known report own on after refreshes =
      more_serves (λ o. 1) (λ o. 1) (AllByRecursion (λ (line : RefreshLine). IsCalm line.result) report) (Unit {0}) own (λ o. omega arith) (λ calm. tt) (round_serves is_round late known report own on after refreshes)
