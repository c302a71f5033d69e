-- Each entry that work adds is allowed after those before it.
use Rattle.std.specs.Prelude.{◌≡◌, ℕ, suc, ◌+◌, ◌<◌, ◌≤◌, ◌==◌, Bool, true, false, ◌||◌, List, [], ◌∷◌, ◌++◌, length, slice_index_or, Option, Some, None, option_to_list, Result, Ok, Err}
use Rattle.std.specs.Option.{is_some}
use Rattle.std.proofs.Common.{refl, sym, ap, ◌∙◌, subst, arith, append-nil, length-append, ⊎_elim}
use Rattle.std.proofs.lemmas.Bool.{eqb-true, cases_lt}
use mathlib.Core.List.{head-eq_of_cons-eq, tail-eq_of_cons-eq}
use Rattle.btr_hist.specs.declared.entry.Entry.{Entry}
use Rattle.btr_hist.specs.declared.rejection.Rejection.{Rejection}
use Rattle.btr_hist.specs.History.{latest}
use Rattle.btr_hist.specs.Legal.{rejection, IsComputed, Allowed, Legal}
use Rattle.btr_hist.specs.Machine.Reply.{Accepted, Superseded}
use Rattle.btr_hist.specs.Machine.{commit_reply}
use Rattle.btr_hist.proofs.HistoryLemmas.{legal-follows, legal-prefix}
use Rattle.btr_distil.specs.Plan.{PlanValue, entry_of}
use Rattle.btr_plan.specs.Plan.{IsPlanOf, IsCurrent, reply_to}
use Rattle.btr_plan.proofs.PlanLemmas.{plan-stays, plan-current, plan-computed, reply-superseded, reply-legal}
use Rattle.btr_streams.specs.declared.board.Receipt.{Receipt}
use Rattle.btr_engine.specs.declared.step.StepFault.{StepFault}
use Rattle.btr_engine.specs.declared.step.StepFault.TheVariants as steps
use Rattle.btr_hall.specs.declared.land.LandFault.{LandFault}
use Rattle.btr_hall.specs.declared.land.LandFault.TheVariants as faults
use Rattle.btr_gate.specs.Numbers.{one, total, times}
use Rattle.btr_gate.specs.Prefixes.{StartsWith}
use Rattle.btr_gate.proofs.PrefixLemmas.{starts_same, starts_length, starts_trans, starts_between, starts_more}
use Rattle.btr_jobs.specs.States.{StoreState, LogState, GoesOn}
use Rattle.btr_jobs.specs.Turns.{IsAdded, IsFailed, IsIdle, Committed, Landed, LandedAfter}
use Rattle.btr_store.specs.Work.{AddsAllowed, all_entries}

-- ---- numbers

-- A number that is listed once is the one that is looked for.
the_number : (n m : ℕ) → 1 ≤ times n (m ∷ []) → m ≡ n
the_number n m listed =
    elim (m == n) as (λ (b : Bool). (m == n) ≡ b → m ≡ n) [
      | true ↦ λ is. eqb-true m n is
      | false ↦ λ is. absurd (omega (arith, listed, ap one is))
    ] refl

-- Each entry whose number is counted here is allowed after those before it, if they are legal.
abbrev pub Allows : LogState → (ℕ → ℕ) → Type 0
Allows log count =
    (p : List Entry) (e : Entry) → StartsWith (all_entries log) (p ++ e ∷ []) → 1 ≤ count (length p + 1) → Legal p → Allowed p e

-- Work that adds nothing.
pub allows_none : (log : LogState) (own : List ℕ) → ((n : ℕ) → times n own ≡ 0) → AddsAllowed log own
allows_none log own none p e starts listed legal = absurd (omega (arith, listed, none (length p + 1)))

pub allows_nothing : (log : LogState) (own : List ℕ) → own ≡ [] → AddsAllowed log own
allows_nothing log own none = allows_none log own (λ n. ap (times n) none)

-- Work of two parts.
pub allows_sum : (log : LogState) (count a b : ℕ → ℕ) → ((n : ℕ) → count n ≡ a n + b n) → Allows log a → Allows log b → Allows log count
allows_sum log count a b sum first second p e starts listed legal =
    let n : ℕ = length p + 1 in
    ⊎_elim
    (λ (some : 0 < a n). first p e starts (omega (arith, some)) legal)
    (λ (none : a n ≤ 0). second p e starts (omega (arith, none, listed, sum n)) legal)
    (cases_lt 0 (a n))

pub allows_both : (log : LogState) (own a b : List ℕ) → ((n : ℕ) → times n own ≡ times n a + times n b) → AddsAllowed log a → AddsAllowed log b → AddsAllowed log own
allows_both log own a b sum first second =
    allows_sum log (λ n. times n own) (λ n. times n a) (λ n. times n b) sum first second

-- Work of many parts.
pub allows_parts : (log : LogState) (parts : List (List ℕ)) → ((k : ℕ) → k < length parts → AddsAllowed log (slice_index_or parts k [])) → Allows log (λ n. total (times n) parts)
allows_parts log [] each = allows_nothing log [] refl
allows_parts log (own ∷ parts) each =
    allows_sum log (λ n. times n own + total (times n) parts) (λ n. times n own) (λ n. total (times n) parts) (λ n. refl)
    (each 0 (omega arith)) (allows_parts log parts (λ k there. each (suc k) (omega (arith, there))))

-- What was allowed in an earlier log is so in a later one.
pub allows_later : (start : StoreState) (late early : LogState) (own : List ℕ) → GoesOn start late early → ((n : ℕ) → 1 ≤ times n own → n ≤ length early.history) → AddsAllowed early own → AddsAllowed late own
allows_later start late early own on within allowed p e starts listed legal =
    let long : length (p ++ e ∷ []) ≡ length p + 1 = length-append p (e ∷ []) in
    let inside : StartsWith early.history (p ++ e ∷ []) =
    starts_between (all_entries late) (p ++ e ∷ []) early.history starts (starts_more late.history early.history (option_to_list late.failed) on.begins) (omega (arith, long, within (length p + 1) listed)) in
    allowed p e (starts_more early.history (p ++ e ∷ []) (option_to_list early.failed) inside) listed legal

-- ---- one turn

-- The last entries of the same history are the same.
pub last_same : (p q : List Entry) (e f : Entry) → p ≡ q → p ++ e ∷ [] ≡ q ++ f ∷ [] → e ≡ f
last_same [] [] e f is whole = head-eq_of_cons-eq whole
last_same [] (y ∷ q) e f is whole = absurd (cc)
last_same (x ∷ p) [] e f is whole = absurd (cc)
last_same (x ∷ p) (y ∷ q) e f is whole = last_same p q e f (tail-eq_of_cons-eq is) (tail-eq_of_cons-eq whole)

-- The entry of a number is the one that stands at its place.
allows_at : (log : LogState) (p : List Entry) (e : Entry) (own : List ℕ) → StartsWith (all_entries log) (p ++ e ∷ []) → own ≡ (length p + 1) ∷ [] → (Legal p → Allowed p e) → AddsAllowed log own
allows_at log p e own at is allowed q f starts listed legal =
    let n : ℕ = length q + 1 in
    let all : List Entry = all_entries log in
    let here : 1 ≤ times n ((length p + 1) ∷ []) = omega (arith, listed, ap (times n) is) in
    let same : length p + 1 ≡ n = the_number n (length p + 1) here in
    let long_p : length (p ++ e ∷ []) ≡ length p + 1 = length-append p (e ∷ []) in
    let long_q : length (q ++ f ∷ []) ≡ length q + 1 = length-append q (f ∷ []) in
    let whole : p ++ e ∷ [] ≡ q ++ f ∷ [] = starts_same all (p ++ e ∷ []) (q ++ f ∷ []) at starts (omega (arith, same, long_p, long_q)) in
    let before : p ≡ q = starts_same all p q (starts_trans all (p ++ e ∷ []) p at (e ∷ [], refl)) (starts_trans all (q ++ f ∷ []) q starts (f ∷ [], refl)) (omega (arith, same)) in
    let entry : e ≡ f = last_same p q e f before whole in
    subst (λ (x : Entry). Allowed q x) entry (subst (λ (k : List Entry). Allowed k e) before (allowed (subst Legal (sym before) legal)))

-- The entry of a turn follows its history.
pub allows_added : (log : LogState) (p : List Entry) (e : Entry) (own : List ℕ) (next : List Entry) → IsAdded log p e own next → (Legal p → Allowed p e) → AddsAllowed log own
allows_added log p e own next added allowed =
    allows_at log p e own (starts_more log.history (p ++ e ∷ []) (option_to_list log.failed) added.follows) added.own allowed

-- The entry of a failed turn is the one in whose step the device failed.
pub allows_failed : (log : LogState) (p : List Entry) (e : Entry) (own : List ℕ) (next : List Entry) → IsFailed log p e own next → (Legal p → Allowed p e) → AddsAllowed log own
allows_failed log p e own next failed allowed =
    let whole : all_entries log ≡ p ++ e ∷ [] =
    ap (λ (h : List Entry). h ++ option_to_list log.failed) failed.last ∙ ap (λ (o : Option Entry). p ++ option_to_list o) failed.failed in
    allows_at log p e own ([], whole ∙ sym (append-nil (p ++ e ∷ []))) failed.own allowed

allows_idle : (log : LogState) (p : List Entry) (own : List ℕ) (next : List Entry) → IsIdle p own next → AddsAllowed log own
allows_idle log p own next idle = allows_nothing log own idle.own

-- A user's entry.
pub allows_committed : (start : StoreState) (log : LogState) (p : List Entry) (e : Entry) (result : Result Receipt StepFault) (own : List ℕ) (next : List Entry) → IsComputed p e → Committed start log p e result own next → AddsAllowed log own
allows_committed start log p e (Ok receipt) own next computed did =
    allows_added log p e own next did.2 (λ legal. record { accepted = did.0; computed = computed })
allows_committed start log p e (Err (steps.Stopped entries)) own next computed did = allows_idle log p own next did.1
allows_committed start log p e (Err steps.Sealed) own next computed did = allows_idle log p own next did.1
allows_committed start log p e (Err (steps.Rejected why)) own next computed did = allows_idle log p own next did.1
allows_committed start log p e (Err steps.Want) own next computed did = allows_idle log p own next did.1
allows_committed start log p e (Err (steps.DeviceFull need left)) own next computed did = allows_idle log p own next did.2
allows_committed start log p e (Err steps.DeviceFault) own next computed did =
    allows_failed log p e own next did.1 (λ legal. record { accepted = did.0; computed = computed })

either_true : (a b : Bool) → b ≡ true → (a || b) ≡ true
either_true true b is = refl
either_true false b is = is

-- A user's entry, in a later state of the log.
pub allows_committed_later : (start : StoreState) (late early : LogState) (p : List Entry) (e : Entry) (result : Result Receipt StepFault) (own : List ℕ) (next : List Entry) → GoesOn start late early → IsComputed p e → Committed start early p e result own next → AddsAllowed late own
allows_committed_later start late early p e (Ok receipt) own next on computed did =
    let long : length (p ++ e ∷ []) ≡ length p + 1 = length-append p (e ∷ []) in
    let below : length (p ++ e ∷ []) ≤ length early.history = starts_length early.history (p ++ e ∷ []) did.2.follows in
    allows_later start late early own on
    (λ n listed.
    let same : length p + 1 ≡ n = the_number n (length p + 1) (omega (arith, listed, ap (times n) did.2.own)) in
    omega (arith, same, long, below))
    (allows_added early p e own next did.2 (λ legal. record { accepted = did.0; computed = computed }))
allows_committed_later start late early p e (Err (steps.Stopped entries)) own next on computed did = allows_idle late p own next did.1
allows_committed_later start late early p e (Err steps.Sealed) own next on computed did = allows_idle late p own next did.1
allows_committed_later start late early p e (Err (steps.Rejected why)) own next on computed did = allows_idle late p own next did.1
allows_committed_later start late early p e (Err steps.Want) own next on computed did = allows_idle late p own next did.1
allows_committed_later start late early p e (Err (steps.DeviceFull need left)) own next on computed did = allows_idle late p own next did.2
allows_committed_later start late early p e (Err steps.DeviceFault) own next on computed did =
    let some : is_some early.failed ≡ true = ap (λ (o : Option Entry). is_some o) did.1.failed in
    subst (λ (k : LogState). AddsAllowed k own) (sym (on.ends (either_true start.stopped (is_some early.failed) some)))
    (allows_failed early p e own next did.1 (λ legal. record { accepted = did.0; computed = computed }))

-- ---- plans

accepted_none : (h : List Entry) (e : Entry) (why : Option Rejection) (r : _) → commit_reply h e why ≡ Accepted r → why ≡ None
accepted_none h e None r is = refl
accepted_none h e (Some why) r is = absurd (cc)

-- A plan of a history that was seen is one of the history of its landing.
plan_here : (q p : List Entry) (plan : PlanValue) → StartsWith p q → IsPlanOf q plan → Legal p → IsPlanOf p plan
plan_here q p plan starts of legal =
    let early : Legal q = legal-prefix q starts.0 (subst Legal starts.1 legal) in
    subst (λ (h : List Entry). IsPlanOf h plan) (sym starts.1) (plan-stays q starts.0 plan (legal-follows q early) of)

-- If its landing was accepted, it is allowed.
plan_allowed : (q p : List Entry) (plan : PlanValue) (r : _) → StartsWith p q → IsPlanOf q plan → reply_to p plan ≡ Accepted r → Legal p → Allowed p (entry_of plan)
plan_allowed q p plan r starts of accepted legal =
    let here : IsPlanOf p plan = plan_here q p plan starts of legal in
    ⊎_elim
    (λ (above : plan.base < latest p plan.stream).
    let is : Superseded (latest p plan.stream) ≡ Accepted r = sym (reply-superseded p plan here above).0 ∙ accepted in
    absurd (cc))
    (λ (low : latest p plan.stream ≤ plan.base).
    let current : IsCurrent p plan = plan-current p plan here low in
    let said = sym (reply-legal p plan legal here current).0 ∙ accepted in
    record {
      accepted = accepted_none p (entry_of plan) (rejection p (entry_of plan)) r said;
      computed = plan-computed p plan here current;
    })
    (cases_lt plan.base (latest p plan.stream))

-- If the device failed in its step, it is allowed, too.
plan_failed : (q p : List Entry) (plan : PlanValue) → StartsWith p q → IsPlanOf q plan → IsCurrent p plan → rejection p (entry_of plan) ≡ None → Legal p → Allowed p (entry_of plan)
plan_failed q p plan starts of current accepted legal =
    record { accepted = accepted; computed = plan-computed p plan (plan_here q p plan starts of legal) current }

-- A landing.
pub allows_landed : (start : StoreState) (log : LogState) (q : List Entry) (plan : PlanValue) (result : Result Receipt LandFault) (own : List ℕ) (next : List Entry) → IsPlanOf q plan → LandedAfter start log q plan result own next → AddsAllowed log own
allows_landed start log q plan result own next of did = by_result result did.3
  where
    p : List Entry
    p = did.0

    by_result : (result : Result Receipt LandFault) → Landed start log p plan result own next → AddsAllowed log own
    by_result (Ok receipt) landed =
        allows_added log p (entry_of plan) own next landed.2 (λ legal. plan_allowed q p plan _ did.1 of landed.0 legal)
    by_result (Err (faults.Stopped entries)) landed = allows_idle log p own next landed.1
    by_result (Err faults.Sealed) landed = allows_idle log p own next landed.1
    by_result (Err (faults.Superseded version)) landed = allows_idle log p own next landed.3
    by_result (Err faults.VersionLimit) landed = allows_idle log p own next landed.2
    by_result (Err (faults.Crowded at)) landed = allows_idle log p own next landed.3
    by_result (Err (faults.TooManyPoints count)) landed = allows_idle log p own next landed.3
    by_result (Err faults.Want) landed = allows_idle log p own next landed.2
    by_result (Err (faults.DeviceFull need left)) landed = allows_idle log p own next landed.3
    by_result (Err faults.DeviceFault) landed =
        allows_failed log p (entry_of plan) own next landed.2 (λ legal. plan_failed q p plan did.1 of landed.0 landed.1 legal)
