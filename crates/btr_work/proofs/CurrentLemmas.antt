-- Lemmas on outputs that were brought up to date while nobody else added anything: they are so in the end.
use Rattle.std.specs.Prelude.{◌≡◌, ℕ, ◌+◌, ◌-◌, ◌<◌, ◌≤◌, Bool, true, false, List, [], ◌∷◌, ◌++◌, length, slice_get, slice_index_or, cond, Option, Some, None, Err}
use Rattle.std.specs.List.{AllByRecursion}
use Rattle.std.specs.Option.{is_some, unwrap_or}
use Rattle.std.proofs.Common.{suc, sym, ap, ◌∙◌, subst, arith, inl, inr, length-append}
use Rattle.std.proofs.lemmas.Bool.{eq-eqb}
use Rattle.btr_base.specs.Commit.{Change}
use Rattle.btr_hist.specs.declared.entry.Entry.{Entry}
use Rattle.btr_hist.specs.declared.kernel.Spec.{Spec}
use Rattle.btr_hist.specs.declared.kernel.Reads.{Reads}
use Rattle.btr_hist.specs.History.{change_of, read_of, spec_of, latest, latest_reads, reads, nothing_read}
use Rattle.btr_hist.specs.Legal.{Follows}
use Rattle.btr_hist.specs.Machine.{Landing, planned, plan_of, same_reads}
use Rattle.btr_hist.proofs.HistoryLemmas.{follows-prefix}
use Rattle.btr_hist.proofs.VersionLemmas.{spec_of-stays, latest-push, read_by-push}
use Rattle.btr_distil.specs.Plan.{PlanValue, entry_of, change}
use Rattle.btr_gate.specs.Prefixes.{StartsWith}
use Rattle.btr_gate.specs.Numbers.{times, one}
use Rattle.btr_gate.proofs.NumberLemmas.{given_inside, one_other}
use Rattle.btr_gate.proofs.PrefixLemmas.{starts_refl, starts_trans, starts_length}
use Rattle.btr_plan.specs.Next.{IsUpToDate, IsNextPlan}
use Rattle.btr_plan.specs.Plan.{landing_of}
use Rattle.btr_plan.proofs.PlanLemmas.{planned-none}
use Rattle.btr_hall.specs.declared.land.LandFault.{LandFault}
use Rattle.btr_hall.specs.declared.land.LandFault.TheVariants as faults
use Rattle.btr_jobs.specs.States.{StoreState, LogState}
use Rattle.btr_work.specs.declared.report.Refreshed.{Refreshed}
use Rattle.btr_work.specs.declared.report.Refreshed.TheVariants as refreshed
use Rattle.btr_work.specs.declared.report.RefreshLine.{RefreshLine}
use Rattle.btr_work.specs.Levels.{levels_of, outputs}
use Rattle.btr_work.specs.Report.{IsRefreshed, IsPlanLanded, RefreshesEach, RefreshesLevels}
use Rattle.btr_work.specs.Laws.{AreAllSince, IsNotOvertaken, IsCurrentIn, RefreshedIsCurrent}
use Rattle.btr_work.proofs.MemberLemmas.{IsIn, IsInAny, Graded, groups-graded, graded-above, first-lower, second-below, output-level, output-spec, all-members}
use Rattle.btr_work.proofs.QuietLemmas.{IsOther, Quiet, Same, SameInputs, quiet-same, quiet-more, quiet-less, get-past, latest-same, latest_reads-same, reads-same, up_to_date-same}
use Rattle.btr_work.proofs.OwnLemmas.{same_some, AreAll, IsSplit, each-owned, each-split, levels-owned, all-first, all-rest}

-- ---- what stays

-- An output is one after more.
pub spec-stays : (h low : List Entry) (stream : ℕ) (spec : Spec) → StartsWith h low → spec_of low stream ≡ Some spec → spec_of h stream ≡ Some spec
spec-stays h low stream spec starts output =
    subst (λ l. spec_of l stream ≡ Some spec) (sym starts.1) (spec_of-stays low starts.0 stream spec output)

-- The base of what is planned for an output.
plan-base : (at : List Entry) (output : ℕ) (spec : Spec) (landing : Landing) → planned at output spec ≡ Some landing → landing.base ≡ latest at output
plan-base at output spec landing is = chosen (same_reads (reads at output spec (latest at output)) (latest_reads at spec)) is
  where
    chosen : (b : Bool) → cond {A = Option Landing} b None (Some (record { stream = output; base = latest at output; reads = latest_reads at spec })) ≡ Some landing → landing.base ≡ latest at output
    chosen true none = absurd (cc)
    chosen false some = let same : record { stream = output; base = latest at output; reads = latest_reads at spec } ≡ landing = cc in sym (ap (λ (l : Landing). l.base) same)

-- ---- an output that was up to date when it was looked at, or has landed

module _ (h at : List Entry) (output : ℕ) (spec : Spec) (starts : StartsWith h at) (spec_is : spec_of at output ≡ Some spec) (inputs : SameInputs at h spec) where
  -- An output that was up to date, and to which nothing was added.
  pub current-still : (version : ℕ) → IsUpToDate at output version → Same output at h → IsUpToDate h output version
  current-still version is same =
      let spec_same : spec ≡ is.spec = same_some spec is.spec (sym spec_is ∙ is.output) in
      up_to_date-same at h output version is (spec-stays h at output is.spec starts is.output) same (subst (SameInputs at h) spec_same inputs)

  plan-reads : (plan : PlanValue) (landing : Landing) → planned at output spec ≡ Some landing → landing.reads ≡ latest_reads at spec
  plan-reads plan landing is = chosen (same_reads (reads at output spec (latest at output)) (latest_reads at spec)) is
    where
      chosen : (b : Bool) → cond {A = Option Landing} b None (Some (record { stream = output; base = latest at output; reads = latest_reads at spec })) ≡ Some landing → landing.reads ≡ latest_reads at spec
      chosen true none = absurd (cc)
      chosen false some = let same : record { stream = output; base = latest at output; reads = latest_reads at spec } ≡ landing = cc in sym (ap (λ (l : Landing). l.reads) same)

  -- An output whose plan has landed at p, and to which nothing was added after that.
  pub landed-still : (plan : PlanValue) (p : List Entry) (version : ℕ) → IsNextPlan at output plan → version ≡ latest p output + 1 → StartsWith h (p ++ entry_of plan ∷ []) → Same output (p ++ entry_of plan ∷ []) h → IsUpToDate h output version
  landed-still plan p version is version_is follows same =
      let e = entry_of plan in
      let next = p ++ e ∷ [] in
      let own : plan.stream ≡ output = is.same_stream in
      let yes = eq-eqb plan.stream output own in
      let changes : change_of output e ≡ Some (change plan) = ap (λ b. cond {A = Option Change} b (Some (change plan)) None) yes in
      let has_read : read_of output e ≡ Some (Some plan.reads) = ap (λ b. cond {A = Option (Option Reads)} b (Some (Some plan.reads)) None) yes in
      let last : latest next output ≡ suc (latest p output) = latest-push p e output (change plan) changes in
      let planned_is : planned at output spec ≡ Some (landing_of plan) = sym (ap (plan_of at output) spec_is) ∙ is.planned in
      let to_read : plan.reads ≡ latest_reads at spec = plan-reads plan (landing_of plan) planned_is in
      let read : reads next output spec (latest next output) ≡ plan.reads =
      ap (reads next output spec) last ∙ ap (λ o. unwrap_or o (nothing_read spec)) (read_by-push p e output (Some plan.reads) has_read) in
      let now : reads h output spec (latest h output) ≡ latest_reads h spec =
      ap (reads h output spec) (latest-same next h output same) ∙ reads-same next h output spec (latest next output) same
      ∙ read ∙ to_read ∙ sym (latest_reads-same at h spec inputs) in
      record {
        spec = spec;
        output = spec-stays h at output spec starts spec_is;
        nothing = planned-none h output spec now;
        latest = version_is ∙ (let one : latest p output + 1 ≡ suc (latest p output) = omega arith in one) ∙ sym last ∙ sym (latest-same next h output same);
      }

-- ---- one level

-- The number of an entry after the first ones.
number-inside : (low h : List Entry) (n : ℕ) (e : Entry) → length low < n → slice_get h (n - 1) ≡ Some e → n ≤ length h
number-inside low h n e after at = omega (arith, after, get-past h (n - 1) e at)

module _ (start : StoreState) (log : LogState) (low : List Entry) (result : ℕ → Refreshed) (level own : List ℕ) (refreshes : RefreshesEach start log low result level own) (all : AreAll low log.history own) where
  -- A stream that is not of the level is left alone.
  pub level-quiet : (stream : ℕ) → (IsIn stream level → ⊥) → Quiet stream low log.history
  level-quiet stream not n after e at =
      let r = each-owned start log low result level own refreshes n (all n after (number-inside low log.history n e after at)) in
      r.2.other e at stream (λ same. not (subst (λ s. IsIn s level) same r.1))

  module _ (output : ℕ) (split : IsSplit start log low result output level own) where
    -- An output of the level is left alone but for its own numbers.
    pub mine-quiet : (n : ℕ) → length low < n → times n split.mine ≡ 0 → (e : Entry) → slice_get log.history (n - 1) ≡ Some e → IsOther output e
    mine-quiet n after none e at =
        let some = all n after (number-inside low log.history n e after at) in
        let r = split.owned n (omega (arith, some, split.sum n, none)) in
        r.3.other e at output r.2

    -- No other version came first.
    pub not-superseded : (spec : Spec) (version : ℕ) → spec_of low output ≡ Some spec → IsPlanLanded start log low output (Err (faults.Superseded version)) split.mine → ⊥
    not-superseded spec version spec_is is =
        let p = is.landed.0 in
        let quiet : Quiet output is.at log.history = λ n after x at.
        mine-quiet n (omega (arith, after, starts_length is.at low is.after)) (ap (times n) is.landed.3.3.own) x at in
        let last : latest p output ≡ latest is.at output =
        latest-same is.at p output (quiet-same output is.at p is.landed.1 (quiet-less output is.at p log.history is.landed.2 quiet)) in
        let planned_is : planned is.at output spec ≡ Some (landing_of is.plan) =
        sym (ap (plan_of is.at output) (spec-stays is.at low output spec is.after spec_is)) ∙ is.planned.planned in
        let base : is.plan.base ≡ latest is.at output =
        plan-base is.at output spec (landing_of is.plan) planned_is in
        let first : version ≡ latest p output = is.landed.3.2 ∙ ap (latest p) is.planned.same_stream in
        absurd (omega (arith, is.landed.3.1, first, last, base))

    level-refused : (spec : Spec) (fault : LandFault) → spec_of low output ≡ Some spec → IsRefreshed start log low output (refreshed.Refused fault) split.mine → IsNotOvertaken fault
    level-refused spec (faults.Superseded version) spec_is is = not-superseded spec version spec_is is
    level-refused spec faults.VersionLimit spec_is is = tt
    level-refused spec (faults.Crowded at) spec_is is = tt
    level-refused spec (faults.TooManyPoints count) spec_is is = tt
    level-refused spec (faults.Stopped entries) spec_is is = tt
    level-refused spec faults.Sealed spec_is is = tt
    level-refused spec faults.Want spec_is is = tt
    level-refused spec (faults.DeviceFull need left) spec_is is = tt
    level-refused spec faults.DeviceFault spec_is is = tt

    -- An output that is no refusal is up to date at the end of the level, if its inputs are left alone.
    level-current : (spec : Spec) (r : Refreshed) → spec_of low output ≡ Some spec → ((at : List Entry) → StartsWith at low → StartsWith log.history at → SameInputs at log.history spec) → IsRefreshed start log low output r split.mine → IsCurrentIn log.history output r
    level-current spec (refreshed.Landed version) spec_is inputs is =
        let landed = is.2 in
        let p = landed.landed.0 in
        let e = entry_of landed.plan in
        let added = landed.landed.3.2 in
        let receipt_is : is.0.version ≡ latest p landed.plan.stream + 1 = landed.landed.3.1.version in
        let at_output : latest p landed.plan.stream + 1 ≡ latest p output + 1 = ap (λ s. latest p s + 1) landed.planned.same_stream in
        let quiet : Quiet output (p ++ e ∷ []) log.history = λ n after x at.
        let long = length-append p (e ∷ []) in
        let above : length low < n = omega (arith, after, long, starts_length p landed.at landed.landed.1, starts_length landed.at low landed.after) in
        let none : times n split.mine ≡ 0 = ap (times n) added.own ∙ (let m = one_other (length p + 1) n (λ same. absurd (omega (arith, same, after, long))) in omega (arith, m)) in
        mine-quiet n above none x at in
        landed-still log.history landed.at output spec landed.seen (spec-stays landed.at low output spec landed.after spec_is) (inputs landed.at landed.after landed.seen) landed.plan p version landed.planned (is.1 ∙ receipt_is ∙ at_output) added.follows
        (quiet-same output (p ++ e ∷ []) log.history added.follows quiet)
    level-current spec (refreshed.Current version) spec_is inputs is =
        let quiet : Quiet output is.at log.history = λ n after x at.
        mine-quiet n (omega (arith, after, starts_length is.at low is.after)) (ap (times n) is.none) x at in
        current-still log.history is.at output spec is.seen (spec-stays is.at low output spec is.after spec_is) (inputs is.at is.after is.seen) version is.current
        (quiet-same output is.at log.history is.seen quiet)
    level-current spec (refreshed.Refused fault) spec_is inputs is = level-refused spec fault spec_is is

-- ---- all levels

module _ (start : StoreState) (result : ℕ → Refreshed) (seen : List Entry) (follows : Follows seen) where
  abbrev of : ℕ → ℕ
  of stream = slice_index_or (levels_of seen) stream 0

  -- Streams of lower levels are left alone.
  pub levels-quiet : (base : ℕ) (low : List Entry) (levels : List (List ℕ)) (late : LogState) (own : List ℕ) → Graded (levels_of seen) base levels → RefreshesLevels start low result levels late own → AreAll low late.history own → (stream : ℕ) → of stream < base → Quiet stream low late.history
  levels-quiet base low levels late own graded refreshes all stream lower n after e at =
      let r = levels-owned start result low levels late own refreshes n (all n after (number-inside low late.history n e after at)) in
      r.2.other e at stream (λ same. let above = graded-above (levels_of seen) base levels r.0 graded r.1 in absurd (omega (arith, above, lower, ap of same)))

  -- The inputs of an output are left alone from its level on.
  inputs-same : (base : ℕ) (a b : List Entry) (output : ℕ) (spec : Spec) → spec_of seen output ≡ Some spec → of output ≡ base → ((stream : ℕ) → of stream < base → Same stream a b) → SameInputs a b spec
  inputs-same base a b output spec spec_is level same = record {
    first = same spec.first (omega (arith, level, first-lower seen follows output spec spec_is));
    second = λ s is. same s (omega (arith, level, second-below seen follows output spec spec_is s is));
  }

  still : (base : ℕ) (a b : List Entry) (output : ℕ) (spec : Spec) (r : Refreshed) → spec_of seen output ≡ Some spec → StartsWith a seen → StartsWith b a → of output ≡ base → ((stream : ℕ) → of stream ≤ base → Same stream a b) → IsCurrentIn a output r → IsCurrentIn b output r
  still base a b output spec (refreshed.Landed version) spec_is begins starts level same is =
      current-still b a output spec starts (spec-stays a seen output spec begins spec_is) (inputs-same base a b output spec spec_is level (λ s lower. same s (omega (arith, lower)))) version is (same output (omega (arith, level)))
  still base a b output spec (refreshed.Current version) spec_is begins starts level same is =
      current-still b a output spec starts (spec-stays a seen output spec begins spec_is) (inputs-same base a b output spec spec_is level (λ s lower. same s (omega (arith, lower)))) version is (same output (omega (arith, level)))
  still base a b output spec (refreshed.Refused fault) spec_is begins starts level same is = is

  -- Each output of the levels that is no refusal is up to date in the end.
  pub levels-current : (base : ℕ) (low : List Entry) (levels : List (List ℕ)) (late : LogState) (own : List ℕ) → StartsWith low seen → Graded (levels_of seen) base levels → RefreshesLevels start low result levels late own → AreAll low late.history own → (output : ℕ) (spec : Spec) → IsInAny output levels → spec_of seen output ≡ Some spec → IsCurrentIn late.history output (result output)
  levels-current base low [] late own begins graded refreshes all output spec any spec_is = absurd any
  levels-current base low (level ∷ levels) late own begins graded refreshes all output spec (inl here) spec_is =
      let middle = refreshes.0 in
      let first = all-first start result low level levels late own refreshes all in
      let rest = all-rest start result low level levels late own refreshes all in
      let at_level : of output ≡ base = graded.0 output here in
      let split = each-split start middle low result level refreshes.3 output refreshes.5 graded.1 here in
      let quiet : (stream : ℕ) → of stream < base → Quiet stream low middle.history = λ stream lower.
      level-quiet start middle low result level refreshes.3 refreshes.5 first stream (λ is. absurd (omega (arith, lower, graded.0 stream is))) in
      let inputs : (at : List Entry) → StartsWith at low → StartsWith middle.history at → SameInputs at middle.history spec = λ at after before.
      inputs-same base at middle.history output spec spec_is at_level (λ stream lower.
      quiet-same stream at middle.history before (quiet-more stream low at middle.history after (quiet stream lower))) in
      let then = level-current start middle low result level refreshes.3 refreshes.5 first output split spec (result output) (spec-stays low seen output spec begins spec_is) inputs split.refreshed in
      still base middle.history late.history output spec (result output) spec_is (starts_trans middle.history low seen refreshes.2 begins) refreshes.1.begins at_level
      (λ stream lower. quiet-same stream middle.history late.history refreshes.1.begins
      (levels-quiet (suc base) middle.history levels late refreshes.4 graded.2 refreshes.6 rest stream (omega (arith, lower)))) then
  levels-current base low (level ∷ levels) late own begins graded refreshes all output spec (inr later) spec_is =
      levels-current (suc base) refreshes.0.history levels late refreshes.4 (starts_trans refreshes.0.history low seen refreshes.2 begins) graded.2 refreshes.6 (all-rest start result low level levels late own refreshes all) output spec later spec_is

-- ---- the whole

-- The numbers of all that was added.
pub all-since : (low seen : List Entry) (log : LogState) (own : List ℕ) → StartsWith seen low → AreAllSince low log own → AreAll seen log.history own
all-since low seen log own starts all n after inside =
    let one = given_inside (length low) (length log.history + one (is_some log.failed)) n (omega (arith, after, starts_length seen low starts)) (omega (arith, inside)) in
    omega (arith, all n, one)

pub refreshed-current : RefreshedIsCurrent
refreshed-current start log low report own refreshes follows all =
    let seen = refreshes.seen in
    let seen_follows : Follows seen = follows-prefix seen refreshes.before.0 (subst Follows refreshes.before.1 follows) in
    let every = all-since low seen log own refreshes.after all in
    let graded = groups-graded (levels_of seen) refreshes.levels refreshes.are in
    let result = refreshes.result in
    let line : ℕ → RefreshLine = λ output. record { output = output; result = result output } in
    subst (AllByRecursion (λ line. IsCurrentIn log.history line.output line.result)) (sym refreshes.lines)
    (all-members (λ (l : RefreshLine). IsCurrentIn log.history l.output l.result) line (outputs seen) (λ output is.
    let spec = output-spec seen output is in
    levels-current start result seen seen_follows 1 seen refreshes.levels log own (starts_refl seen) graded refreshes.refreshes every output spec.0
    (output-level seen refreshes.levels seen_follows refreshes.are output spec.0 spec.1) spec.1))
