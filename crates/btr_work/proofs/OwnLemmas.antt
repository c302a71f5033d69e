-- Lemmas on the numbers of what was added for outputs: each is that of an entry of one output.
use Rattle.std.specs.Prelude.{◌≡◌, ◌≢◌, ◌⊎◌, ℕ, ◌+◌, ◌-◌, ◌<◌, ◌≤◌, true, List, [], ◌∷◌, ◌++◌, length, slice_get, cond, Option, Some, None}
use Rattle.std.specs.Prelude.{Result, Ok, Err}
use Rattle.std.specs.Option.{is_some}
use Rattle.std.proofs.Common.{refl, sym, ap, ◌∙◌, subst, arith, inl, inr, length-append, append_assoc}
use Rattle.std.proofs.lemmas.Bool.{ne_eqb, or_right, cases_eq}
use Rattle.btr_base.specs.Commit.{Change}
use Rattle.btr_hist.specs.declared.entry.Entry.{Entry}
use Rattle.btr_hist.specs.declared.kernel.Reads.{Reads}
use Rattle.btr_distil.specs.Plan.{PlanValue, entry_of}
use Rattle.btr_streams.specs.declared.board.Receipt.{Receipt}
use Rattle.btr_gate.specs.Prefixes.{StartsWith}
use Rattle.btr_gate.specs.Numbers.{times}
use Rattle.btr_gate.proofs.NumberLemmas.{one_other, times_append}
use Rattle.btr_gate.proofs.PrefixLemmas.{starts_length, starts_trans}
use Rattle.btr_hall.specs.declared.land.LandFault.{LandFault}
use Rattle.btr_hall.specs.declared.land.LandFault.TheVariants as faults
use Rattle.btr_jobs.specs.States.{StoreState, LogState, GoesOn}
use Rattle.btr_jobs.specs.Turns.{IsAdded, IsFailed, IsIdle, Landed, LandedAfter}
use Rattle.btr_jobs.specs.TurnLaws.{landed_lasts}
use Rattle.btr_jobs.proofs.DoesLemmas.{in_sum}
use Rattle.btr_work.specs.declared.report.Refreshed.{Refreshed}
use Rattle.btr_work.specs.declared.report.Refreshed.TheVariants as refreshed
use Rattle.btr_work.specs.declared.report.RefreshLine.{RefreshLine}
use Rattle.btr_plan.specs.Next.{IsNextPlan}
use Rattle.btr_work.specs.Report.{IsPlanLanded, IsRefreshed, RefreshesEach, RefreshesLevels, Refreshes}
use Rattle.btr_work.proofs.MemberLemmas.{IsIn, Distinct, IsInAny}
use Rattle.btr_work.proofs.QuietLemmas.{IsOther, get-after, get-before, get-past}

-- The number is that of an entry that was added for this output after all of `low`. If the device failed in its step, there is no
-- entry of this number, and nothing follows.
pub record Owns (output : ℕ) (log : LogState) (low : List Entry) (n : ℕ) : Type 0 where
  pub above : length low < n
  pub within : (n ≤ length log.history) ⊎ (is_some log.failed ≡ true)
  pub other : (e : Entry) → slice_get log.history (n - 1) ≡ Some e → (stream : ℕ) → output ≢ stream → IsOther stream e

-- ---- one output

-- The entry of a plan is no commit of another stream.
plan-other : (plan : PlanValue) (stream : ℕ) → plan.stream ≢ stream → IsOther stream (entry_of plan)
plan-other plan stream differs =
    let no = ne_eqb plan.stream stream differs in
    record {
      change = ap (λ b. cond {A = Option Change} b (Some (record { cut = plan.cut; added = plan.added })) None) no;
      read = ap (λ b. cond {A = Option (Option Reads)} b (Some (Some plan.reads)) None) no;
    }

pub only : (n m : ℕ) (own : List ℕ) → own ≡ m ∷ [] → 0 < times n own → n ≡ m
only n m own is some =
    elim (cases_eq n m) [
      | inl same ↦ same
      | inr differs ↦ absurd (omega (arith, some, ap (times n) is, one_other m n (λ e. differs (sym e))))
    ]

none-own : (n : ℕ) (own : List ℕ) → own ≡ [] → 0 < times n own → ⊥
none-own n own is some = absurd (omega (arith, some, ap (times n) is))

pub same_some : {A : Type 0} (a b : A) → Some a ≡ Some b → a ≡ b
same_some a b is = cc

module _ (log : LogState) (p : List Entry) (plan : PlanValue) (own : List ℕ) (next : List Entry) (n : ℕ) (some : 0 < times n own) where
  -- What it says of the number that it was added, or that the device failed.
  record IsNumber : Type 0 where
    number : n ≡ length p + 1
    within : (n ≤ length log.history) ⊎ (is_some log.failed ≡ true)
    entry : (e : Entry) → slice_get log.history (n - 1) ≡ Some e → e ≡ entry_of plan

  added-number : IsAdded log p (entry_of plan) own next → IsNumber
  added-number is =
      let number = only n (length p + 1) own is.own some in
      let all = is.follows.1 ∙ append_assoc p (entry_of plan ∷ []) is.follows.0 in
      let at : n - 1 ≡ length p + 0 = omega (arith, number) in
      record {
        number = number;
        within = inl (omega (arith, number, starts_length log.history (p ++ entry_of plan ∷ []) is.follows, length-append p (entry_of plan ∷ [])));
        entry = λ e here. same_some e (entry_of plan)
            (sym here ∙ ap (slice_get log.history) at ∙ ap (λ l. slice_get l (length p + 0)) all ∙ get-after p (entry_of plan ∷ is.follows.0) 0);
      }

  failed-number : IsFailed log p (entry_of plan) own next → IsNumber
  failed-number is =
      let number = only n (length p + 1) own is.own some in
      record {
        number = number;
        within = inr (ap is_some is.failed);
        entry = λ e here. absurd (omega (arith, number, get-past log.history (n - 1) e here, ap (λ (l : List Entry). length l) is.last));
      }

  idle-number : IsIdle p own next → IsNumber
  idle-number is = absurd (none-own n own is.own some)

  landed-number : (start : StoreState) (result : Result Receipt LandFault) → Landed start log p plan result own next → IsNumber
  landed-number start (Ok receipt) is = added-number is.2
  landed-number start (Err (faults.Stopped entries)) is = idle-number is.1
  landed-number start (Err faults.Sealed) is = idle-number is.1
  landed-number start (Err (faults.Superseded version)) is = idle-number is.3
  landed-number start (Err faults.VersionLimit) is = idle-number is.2
  landed-number start (Err (faults.Crowded at)) is = idle-number is.3
  landed-number start (Err (faults.TooManyPoints count)) is = idle-number is.3
  landed-number start (Err faults.Want) is = idle-number is.2
  landed-number start (Err (faults.DeviceFull need left)) is = idle-number is.3
  landed-number start (Err faults.DeviceFault) is = failed-number is.2

module _ (start : StoreState) (log : LogState) (low : List Entry) (output : ℕ) (own : List ℕ) (n : ℕ) (some : 0 < times n own) where
  plan-owns : (result : Result Receipt LandFault) → IsPlanLanded start log low output result own → Owns output log low n
  plan-owns result is =
      let p = is.landed.0 in
      let number = landed-number log p is.plan own is.next n some start result is.landed.3 in
      record {
        above = omega (arith, number.number, starts_length p is.at is.landed.1, starts_length is.at low is.after);
        within = number.within;
        other = λ e here stream differs. subst (IsOther stream) (sym (number.entry e here)) (plan-other is.plan stream (λ same. differs (sym is.planned.same_stream ∙ same)));
      }

  refreshed-owns : (result : Refreshed) → IsRefreshed start log low output result own → Owns output log low n
  refreshed-owns (refreshed.Landed version) is = plan-owns (Ok is.0) is.2
  refreshed-owns (refreshed.Current version) is = absurd (none-own n own is.none some)
  refreshed-owns (refreshed.Refused (faults.Stopped entries)) is = plan-owns (Err (faults.Stopped entries)) is
  refreshed-owns (refreshed.Refused faults.Sealed) is = plan-owns (Err faults.Sealed) is
  refreshed-owns (refreshed.Refused (faults.Superseded version)) is = plan-owns (Err (faults.Superseded version)) is
  refreshed-owns (refreshed.Refused faults.VersionLimit) is = plan-owns (Err faults.VersionLimit) is
  refreshed-owns (refreshed.Refused (faults.Crowded at)) is = plan-owns (Err (faults.Crowded at)) is
  refreshed-owns (refreshed.Refused (faults.TooManyPoints count)) is = plan-owns (Err (faults.TooManyPoints count)) is
  refreshed-owns (refreshed.Refused faults.Want) is = absurd (none-own n own is some)
  refreshed-owns (refreshed.Refused (faults.DeviceFull need left)) is = plan-owns (Err (faults.DeviceFull need left)) is
  refreshed-owns (refreshed.Refused faults.DeviceFault) is = plan-owns (Err faults.DeviceFault) is

-- ---- one level

module _ (start : StoreState) (log : LogState) (low : List Entry) (result : ℕ → Refreshed) where
  -- Each number is that of one output of the level.
  pub each-owned : (level : List ℕ) (own : List ℕ) → RefreshesEach start log low result level own → (n : ℕ) → 0 < times n own → (output : ℕ) × IsIn output level × Owns output log low n
  each-owned [] own refreshes n some = absurd (omega (arith, some, refreshes n))
  each-owned (output ∷ level) own refreshes n some =
      elim (in_sum n own refreshes.0 refreshes.1 (refreshes.4 n) some) [
        | inl first ↦ (output, inl refl, refreshed-owns start log low output refreshes.0 n first (result output) refreshes.2)
        | inr rest ↦ let r = each-owned level refreshes.1 refreshes.3 n rest in (r.0, inr r.1, r.2)
      ]

  -- The numbers of one output, and those of the others.
  pub record IsSplit (output : ℕ) (level own : List ℕ) : Type 0 where
    pub mine : List ℕ
    pub others : List ℕ
    pub refreshed : IsRefreshed start log low output (result output) mine
    pub sum : (n : ℕ) → times n own ≡ times n mine + times n others
    pub owned : (n : ℕ) → 0 < times n others → (other : ℕ) × IsIn other level × (other ≢ output) × Owns other log low n

  pub each-split : (level : List ℕ) (own : List ℕ) (output : ℕ) → RefreshesEach start log low result level own → Distinct level → IsIn output level → IsSplit output level own
  each-split [] own output refreshes distinct is = absurd is
  each-split (first ∷ level) own output refreshes distinct (inl here) = record {
    mine = refreshes.0;
    others = refreshes.1;
    refreshed = subst (λ s. IsRefreshed start log low s (result s) refreshes.0) (sym here) refreshes.2;
    sum = refreshes.4;
    owned = λ n some.
        let r = each-owned level refreshes.1 refreshes.3 n some in
        (r.0, inr r.1, (λ same. distinct.0 (subst (λ s. IsIn s level) (same ∙ here) r.1)), r.2);
  }
  each-split (first ∷ level) own output refreshes distinct (inr later) =
      let rest = each-split level refreshes.1 output refreshes.3 distinct.1 later in
      record {
        mine = rest.mine;
        others = refreshes.0 ++ rest.others;
        refreshed = rest.refreshed;
        sum = λ n. omega (arith, refreshes.4 n, rest.sum n, times_append n refreshes.0 rest.others);
        owned = λ n some.
            elim (in_sum n (refreshes.0 ++ rest.others) refreshes.0 rest.others (times_append n refreshes.0 rest.others) some) [
              | inl of_first ↦ (
                first,
                inl refl,
                (λ same. distinct.0 (subst (λ s. IsIn s level) (sym same) later)),
                refreshed-owns start log low first refreshes.0 n of_first (result first) refreshes.2,
              )
              | inr of_rest ↦ let r = rest.owned n of_rest in (r.0, inr r.1, r.2, r.3)
            ];
      }

-- ---- all levels

-- A number is still that of an output after more.
pub owns-lasts : (start : StoreState) (late early : LogState) (low : List Entry) (output n : ℕ) → GoesOn start late early → Owns output early low n → Owns output late low n
owns-lasts start late early low output n on is =
    elim is.within [
      | inl inside ↦ record {
        above = is.above;
        within = inl (omega (arith, inside, starts_length late.history early.history on.begins));
        other = λ e here. is.other e
            (sym (get-before early.history on.begins.0 (n - 1) (omega (arith, inside, is.above))) ∙ sym (ap (λ l. slice_get l (n - 1)) on.begins.1) ∙ here);
      }
      | inr failed ↦ subst (λ c. Owns output c low n) (sym (on.ends (or_right start.stopped (is_some early.failed) failed))) is
    ]

pub owns-lowers : (log : LogState) (low less : List Entry) (output n : ℕ) → StartsWith low less → Owns output log low n → Owns output log less n
owns-lowers log low less output n starts is =
    record { above = omega (arith, is.above, starts_length low less starts); within = is.within; other = is.other }

module _ (start : StoreState) (result : ℕ → Refreshed) where
  -- Each number is that of one output of the levels.
  pub levels-owned : (low : List Entry) (levels : List (List ℕ)) (late : LogState) (own : List ℕ) → RefreshesLevels start low result levels late own → (n : ℕ) → 0 < times n own → (output : ℕ) × IsInAny output levels × Owns output late low n
  levels-owned low [] late own refreshes n some = absurd (omega (arith, some, refreshes.1 n))
  levels-owned low (level ∷ levels) late own refreshes n some =
      elim (in_sum n own refreshes.3 refreshes.4 (refreshes.7 n) some) [
        | inl first ↦
            let r = each-owned start refreshes.0 low result level refreshes.3 refreshes.5 n first in
            (r.0, inl r.1, owns-lasts start late refreshes.0 low r.0 n refreshes.1 r.2)
        | inr rest ↦
            let r = levels-owned refreshes.0.history levels late refreshes.4 refreshes.6 n rest in
            (r.0, inr r.1, owns-lowers late refreshes.0.history low r.0 n refreshes.2 r.2)
      ]

-- Each entry after the first ones has a number in the list.
abbrev pub AreAll : List Entry → List Entry → List ℕ → Type 0
AreAll low h own = (n : ℕ) → length low < n → n ≤ length h → 0 < times n own

module _ (start : StoreState) (result : ℕ → Refreshed) (low : List Entry) (level : List ℕ) (levels : List (List ℕ)) (late : LogState) (own : List ℕ) (refreshes : RefreshesLevels start low result (level ∷ levels) late own) (all : AreAll low late.history own) where
  abbrev pub middle : LogState
  middle = refreshes.0

  -- The numbers of the first level are those of the entries at its end, and those of the others are those of the entries after it.
  pub all-first : AreAll low middle.history refreshes.3
  all-first n after inside =
      elim (in_sum n own refreshes.3 refreshes.4 (refreshes.7 n) (all n after (omega (arith, inside, starts_length late.history middle.history refreshes.1.begins)))) [
        | inl first ↦ first
        | inr rest ↦
            let r = levels-owned start result middle.history levels late refreshes.4 refreshes.6 n rest in
            let above = r.2.above in
            absurd (omega (arith, above, inside))
      ]

  pub all-rest : AreAll middle.history late.history refreshes.4
  all-rest n after inside =
      elim (in_sum n own refreshes.3 refreshes.4 (refreshes.7 n) (all n (omega (arith, after, starts_length middle.history low refreshes.2)) inside)) [
        | inl first ↦
            let r = each-owned start middle low result level refreshes.3 refreshes.5 n first in
            absurd (elim r.2.within as (λ _. ⊥) [
              | inl within ↦ absurd (omega (arith, within, after))
              | inr failed ↦
                  let same = refreshes.1.ends (or_right start.stopped (is_some middle.failed) failed) in
                  absurd (omega (arith, after, inside, ap (λ (c : LogState). length c.history) same))
            ])
        | inr rest ↦ rest
      ]

-- ---- the landing of a number

-- The number is that of a landing: of a plan that the model makes after a history that was seen.
abbrev pub IsLanding : StoreState → LogState → List Entry → ℕ → Type 0
IsLanding start log low n =
    (q : List Entry) × (plan : PlanValue) × (result : Result Receipt LandFault) × (next : List Entry)
    × StartsWith q low × IsNextPlan q plan.stream plan × LandedAfter start log q plan result (n ∷ []) next

landing-lasts : (start : StoreState) (late early : LogState) (low : List Entry) (n : ℕ) → GoesOn start late early → IsLanding start early low n → IsLanding start late low n
landing-lasts start late early low n on is =
    (is.0, is.1, is.2, is.3, is.4, is.5, landed_lasts start late early is.0 is.1 is.2 (n ∷ []) is.3 on is.6)

landing-lowers : (start : StoreState) (log : LogState) (low less : List Entry) (n : ℕ) → StartsWith low less → IsLanding start log low n → IsLanding start log less n
landing-lowers start log low less n starts is =
    (is.0, is.1, is.2, is.3, starts_trans is.0 low less is.4 starts, is.5, is.6)

one-number : (start : StoreState) (log : LogState) (p : List Entry) (plan : PlanValue) (result : Result Receipt LandFault) (own : List ℕ) (next : List Entry) (n : ℕ) → 0 < times n own → Landed start log p plan result own next → own ≡ n ∷ []
one-number start log p plan (Ok receipt) own next n some is = is.2.own ∙ ap (λ m. m ∷ []) (sym (only n (length p + 1) own is.2.own some))
one-number start log p plan (Err (faults.Stopped entries)) own next n some is = absurd (none-own n own is.1.own some)
one-number start log p plan (Err faults.Sealed) own next n some is = absurd (none-own n own is.1.own some)
one-number start log p plan (Err (faults.Superseded version)) own next n some is = absurd (none-own n own is.3.own some)
one-number start log p plan (Err faults.VersionLimit) own next n some is = absurd (none-own n own is.2.own some)
one-number start log p plan (Err (faults.Crowded at)) own next n some is = absurd (none-own n own is.3.own some)
one-number start log p plan (Err (faults.TooManyPoints count)) own next n some is = absurd (none-own n own is.3.own some)
one-number start log p plan (Err faults.Want) own next n some is = absurd (none-own n own is.2.own some)
one-number start log p plan (Err (faults.DeviceFull need left)) own next n some is = absurd (none-own n own is.3.own some)
one-number start log p plan (Err faults.DeviceFault) own next n some is = is.2.own ∙ ap (λ m. m ∷ []) (sym (only n (length p + 1) own is.2.own some))

module _ (start : StoreState) (log : LogState) (low : List Entry) (output : ℕ) (own : List ℕ) (n : ℕ) (some : 0 < times n own) where
  plan-landing : (result : Result Receipt LandFault) → IsPlanLanded start log low output result own → IsLanding start log low n
  plan-landing result is =
      let one = one-number start log is.landed.0 is.plan result own is.next n some is.landed.3 in (
        is.at,
        is.plan,
        result,
        is.next,
        is.after,
        subst (λ s. IsNextPlan is.at s is.plan) (sym is.planned.same_stream) is.planned,
        subst (λ o. LandedAfter start log is.at is.plan result o is.next) one is.landed,
      )

  refreshed-landing : (result : Refreshed) → IsRefreshed start log low output result own → IsLanding start log low n
  refreshed-landing (refreshed.Landed version) is = plan-landing (Ok is.0) is.2
  refreshed-landing (refreshed.Current version) is = absurd (none-own n own is.none some)
  refreshed-landing (refreshed.Refused (faults.Stopped entries)) is = plan-landing (Err (faults.Stopped entries)) is
  refreshed-landing (refreshed.Refused faults.Sealed) is = plan-landing (Err faults.Sealed) is
  refreshed-landing (refreshed.Refused (faults.Superseded version)) is = plan-landing (Err (faults.Superseded version)) is
  refreshed-landing (refreshed.Refused faults.VersionLimit) is = plan-landing (Err faults.VersionLimit) is
  refreshed-landing (refreshed.Refused (faults.Crowded at)) is = plan-landing (Err (faults.Crowded at)) is
  refreshed-landing (refreshed.Refused (faults.TooManyPoints count)) is = plan-landing (Err (faults.TooManyPoints count)) is
  refreshed-landing (refreshed.Refused faults.Want) is = absurd (none-own n own is some)
  refreshed-landing (refreshed.Refused (faults.DeviceFull need left)) is = plan-landing (Err (faults.DeviceFull need left)) is
  refreshed-landing (refreshed.Refused faults.DeviceFault) is = plan-landing (Err faults.DeviceFault) is

module _ (start : StoreState) (result : ℕ → Refreshed) where
  each-landing : (log : LogState) (low : List Entry) (level own : List ℕ) → RefreshesEach start log low result level own → (n : ℕ) → 0 < times n own → IsLanding start log low n
  each-landing log low [] own refreshes n some = absurd (omega (arith, some, refreshes n))
  each-landing log low (output ∷ level) own refreshes n some =
      elim (in_sum n own refreshes.0 refreshes.1 (refreshes.4 n) some) [
        | inl first ↦ refreshed-landing start log low output refreshes.0 n first (result output) refreshes.2
        | inr rest ↦ each-landing log low level refreshes.1 refreshes.3 n rest
      ]

  levels-landing : (low : List Entry) (levels : List (List ℕ)) (late : LogState) (own : List ℕ) → RefreshesLevels start low result levels late own → (n : ℕ) → 0 < times n own → IsLanding start late low n
  levels-landing low [] late own refreshes n some = absurd (omega (arith, some, refreshes.1 n))
  levels-landing low (level ∷ levels) late own refreshes n some =
      elim (in_sum n own refreshes.3 refreshes.4 (refreshes.7 n) some) [
        | inl first ↦ landing-lasts start late refreshes.0 low n refreshes.1 (each-landing refreshes.0 low level refreshes.3 refreshes.5 n first)
        | inr rest ↦ landing-lowers start late refreshes.0.history low n refreshes.2 (levels-landing refreshes.0.history levels late refreshes.4 refreshes.6 n rest)
      ]

-- Each number that a call adds is that of one landing.
pub refreshes-number : (start : StoreState) (log : LogState) (low : List Entry) (report : List RefreshLine) (own : List ℕ) → Refreshes start log low report own → (n : ℕ) → 0 < times n own → IsLanding start log low n
refreshes-number start log low report own refreshes n some =
    landing-lowers start log refreshes.seen low n refreshes.after (levels-landing start refreshes.result refreshes.seen refreshes.levels log own refreshes.refreshes n some)
