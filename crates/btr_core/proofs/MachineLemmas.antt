-- What each event does to a machine of the model and to one that is it.
use Rattle.std.specs.Prelude.{◌≡◌, ℕ, ◌==◌, true, false, Bool, List, [], cond, Option, Some, None}
use Rattle.std.specs.Ordering.{nat_cmp, is_eq}
use Rattle.std.specs.BTreeMap.{BTreeMap, get, is_at, Updates}
use Rattle.std.specs.Map.{lookup}
use Rattle.std.proofs.Common.{refl, sym, ap, arith, subst}
use Rattle.std.proofs.lemmas.Bool.{eqb-true}
use Rattle.std.proofs.lemmas.List.{append-nil}
use Rattle.std.proofs.lemmas.Bool.Decides.{nat_tests}
use Rattle.btr_base.specs.declared.point.Point.{Point}
use Rattle.btr_base.specs.Range.{RangeValue}
use Rattle.btr_hist.specs.declared.entry.Entry.{Entry}
use Rattle.btr_hist.specs.declared.entry.Entry.TheVariants as entries
use Rattle.btr_hist.specs.declared.kernel.Reads.{Reads}
use Rattle.btr_hist.specs.declared.rejection.Rejection.{Rejection}
use Rattle.btr_hist.specs.History.{spec_of}
use Rattle.btr_hist.specs.Legal.{rejection, Legal, Follows}
use Rattle.btr_hist.specs.Machine.{Landing, offered, committed, after_landing, plan_of, with_user, next_plan}
use Rattle.btr_hist.specs.Machine as model
use Rattle.btr_hist.specs.Machine.{Event as events}
use Rattle.btr_hist.proofs.HistoryLemmas.{legal-push, legal-follows, allowed-of_offered}
use Rattle.btr_hist.proofs.LandingLemmas.{IsFront, StandsFor, Stands, front-trans, legal-front, committed-front, landing-legal, landing-front}
use Rattle.btr_streams.specs.declared.snapshot.Snapshot.{Snapshot}
use Rattle.btr_streams.specs.Snapshot.{IsSnapshotOf}
use Rattle.btr_streams.specs.Board.{IsBoardOf}
use Rattle.btr_distil.specs.Plan.{PlanValue}
use Rattle.btr_plan.specs.Plan.{IsPlanOf, landing_of}
use Rattle.btr_plan.specs.Next.{IsNextPlan}
use Rattle.btr_plan.proofs.PlanLemmas.{plan-front, plan-stands}
use Rattle.btr_core.specs.declared.machine.Machine.{Machine}
use Rattle.btr_core.specs.Machine.{IsAdmitted, IsPlan, IsMachineOf}

-- ---- one actor's value

not-at : (k q : ℕ) → (q == k) ≡ false → is_eq (nat_cmp k q) ≡ false
not-at k q other = grind (arith, nat_tests)

-- What holds of each actor's value in a map still does, if one actor's is replaced and it holds of that.
pub each-actor : {A X : Type 0} (P : A → Option X → Type 0) (f : ℕ → A) (m n : BTreeMap ℕ X) (k : ℕ) (a : A) (w : Option X) → Updates nat_cmp m n k w → ((q : ℕ) → P (f q) (get nat_cmp m q)) → P a w → (q : ℕ) → P (with_user f k a q) (get nat_cmp n q)
each-actor P f m n k a w updates each here q =
    elim (q == k) as (λ (t : Bool). (q == k) ≡ t → P (cond t a (f q)) (get nat_cmp n q)) [
      | true ↦ λ same. subst (λ (j : ℕ). P a (get nat_cmp n j)) (sym (eqb-true q k same)) (subst (P a) (sym updates.1) here)
      | false ↦ λ other. subst (P (f q)) (sym (updates.2 q (not-at k q other))) (each q)
    ] refl

-- ---- a longer history

admitted-longer : (h l g : List Entry) (o : Option Snapshot) → IsFront h l → IsAdmitted h g o → IsAdmitted l g o
admitted-longer h l g None front is = is
admitted-longer h l g (Some s) front is = (front-trans g h l is.0 front, is.1)

plan-longer : (h k : List Entry) (o : Option Landing) (p : Option PlanValue) → IsFront h k → Follows h → IsPlan h o p → IsPlan k o p
plan-longer h k None None front follows is = tt
plan-longer h k None (Some p) front follows is = absurd is
plan-longer h k (Some l) None front follows is = absurd is
plan-longer h k (Some l) (Some p) front follows is = (is.0, plan-front h k p front follows is.1)

-- The plan of an actor is one of the history.
pub plan-there : (h : List Entry) (o : Option Landing) (p : PlanValue) → IsPlan h o (Some p) → (o ≡ Some (landing_of p)) × IsPlanOf h p
plan-there h None p is = absurd is
plan-there h (Some l) p is = (ap (λ (x : Landing). Some x) (sym is.0), is.1)

stands-if : (h : List Entry) (o : Option Landing) (p : Option PlanValue) → IsPlan h o p → Stands h o
stands-if h None p is = tt
stands-if h (Some l) None is = absurd is
stands-if h (Some l) (Some p) is = subst (StandsFor h) is.0 (plan-stands h p is.1)

-- What an actor was admitted to is a front of the history.
pub admitted-front : (h g : List Entry) (o : Option Snapshot) → IsAdmitted h g o → IsFront g h
admitted-front h g None is = subst (λ (l : List Entry). IsFront l h) (sym is) (h, refl)
admitted-front h g (Some s) is = is.0

-- A machine that has the same snapshots and plans as before, and a board of a longer history.
pub grown : (m : model.Machine) (h : List Entry) (s t : Machine) → IsMachineOf m s → IsFront m.history h → Legal h → IsBoardOf h t.board → t.admitted.entries ≡ s.admitted.entries → t.plans.entries ≡ s.plans.entries → IsMachineOf (record { history = h; admitted = m.admitted; plan = m.plan }) t
grown m h s t is front legal board admitted plans =
    let follows = legal-follows m.history is.legal in
    record {
      board = board;
      legal = legal;
      admitted = λ actor. subst (λ es. IsAdmitted h (m.admitted actor) (lookup (is_at (nat_cmp actor)) es)) (sym admitted)
          (admitted-longer m.history h (m.admitted actor) (get nat_cmp s.admitted actor) front (is.admitted actor));
      plans = λ actor. subst (λ es. IsPlan h (m.plan actor) (lookup (is_at (nat_cmp actor)) es)) (sym plans)
          (plan-longer m.history h (m.plan actor) (get nat_cmp s.plans actor) front follows (is.plans actor));
    }

-- ---- a commit

-- Of an entry that is no distillate nothing but its rejection is tested.
pub offered-rejection : (h : List Entry) (e : Entry) → ((stream : ℕ) (cut : List RangeValue) (added : List Point) (new : Reads) → e ≡ entries.Distillate stream cut added new → ⊥) → offered h e ≡ rejection h e
offered-rejection h (entries.Create id) not = refl
offered-rejection h (entries.Define id spec) not = refl
offered-rejection h (entries.Commit stream cut added) not = refl
offered-rejection h (entries.Distillate stream cut added new) not = absurd (not stream cut added new refl)
offered-rejection h (entries.Retire stream first) not = refl

pub committed-legal : (h : List Entry) (e : Entry) → Legal h → Legal (committed h e (offered h e))
committed-legal h e legal =
    elim (offered h e) as (λ (r : Option Rejection). offered h e ≡ r → Legal (committed h e r)) [
      | None ↦ λ accepted. legal-push h e legal (allowed-of_offered h e accepted)
      | Some r ↦ λ _. legal
    ] refl

pub after-commit : (m : model.Machine) (actor : ℕ) (e : Entry) (s t : Machine) → IsMachineOf m s → IsBoardOf (committed m.history e (offered m.history e)) t.board → t.admitted.entries ≡ s.admitted.entries → t.plans.entries ≡ s.plans.entries → IsMachineOf (model.next m actor (events.Commit e)) t
after-commit m actor e s t is board admitted plans =
    let h = m.history in
    let next = committed h e (offered h e) in
    grown m next s t is (committed-front h e (offered h e)) (committed-legal h e is.legal) board admitted plans

-- ---- an admission

pub after-admit : (m : model.Machine) (actor : ℕ) (seen : Snapshot) (s t : Machine) → IsMachineOf m s → IsSnapshotOf m.history seen → t.board ≡ s.board → t.plans.entries ≡ s.plans.entries → Updates nat_cmp s.admitted t.admitted actor (Some seen) → IsMachineOf (model.next m actor events.Admit) t
after-admit m actor seen s t is of board plans admitted =
    let h = m.history in
    record {
      board = subst (IsBoardOf h) (sym board) is.board;
      legal = is.legal;
      admitted = each-actor (IsAdmitted h) m.admitted s.admitted t.admitted actor h (Some seen) admitted is.admitted (([], append-nil h), of);
      plans = λ other. subst (λ es. IsPlan h (m.plan other) (lookup (is_at (nat_cmp other)) es)) (sym plans) (is.plans other);
    }

-- ---- a plan

pub after-plan : (m : model.Machine) (actor stream : ℕ) (p : PlanValue) (s t : Machine) → IsMachineOf m s → IsNextPlan (m.admitted actor) stream p → t.board ≡ s.board → t.admitted.entries ≡ s.admitted.entries → Updates nat_cmp s.plans t.plans actor (Some p) → IsMachineOf (model.next m actor (events.Plan stream)) t
after-plan m actor stream p s t is next board admitted plans =
    let h = m.history in
    let g = m.admitted actor in
    let front = admitted-front h g (get nat_cmp s.admitted actor) (is.admitted actor) in
    let follows = legal-follows g (legal-front g h front is.legal) in
    let made : IsPlan h (Some (landing_of p)) (Some p) = (refl, plan-front g h p front follows next.of) in
    let planned : IsPlan h (next_plan (m.plan actor) (plan_of g stream (spec_of g stream))) (Some p) =
    subst (λ (o : Option Landing). IsPlan h (next_plan (m.plan actor) o) (Some p)) (sym next.planned) made in
    record {
      board = subst (IsBoardOf h) (sym board) is.board;
      legal = is.legal;
      admitted = λ other. subst (λ es. IsAdmitted h (m.admitted other) (lookup (is_at (nat_cmp other)) es)) (sym admitted) (is.admitted other);
      plans = each-actor (IsPlan h) m.plan s.plans t.plans actor (next_plan (m.plan actor) (plan_of g stream (spec_of g stream))) (Some p) plans is.plans planned;
    }

-- ---- a landing

pub after-land : (m : model.Machine) (actor : ℕ) (s t : Machine) → IsMachineOf m s → IsBoardOf (after_landing m.history (m.plan actor)) t.board → t.admitted.entries ≡ s.admitted.entries → Updates nat_cmp s.plans t.plans actor None → IsMachineOf (model.next m actor events.Land) t
after-land m actor s t is board admitted plans =
    let h = m.history in
    let o = m.plan actor in
    let next = after_landing h o in
    let front = landing-front h o in
    let follows = legal-follows h is.legal in
    record {
      board = board;
      legal = landing-legal h o is.legal (stands-if h o (get nat_cmp s.plans actor) (is.plans actor));
      admitted = λ other. subst (λ es. IsAdmitted next (m.admitted other) (lookup (is_at (nat_cmp other)) es)) (sym admitted)
          (admitted-longer h next (m.admitted other) (get nat_cmp s.admitted other) front (is.admitted other));
      plans = each-actor (IsPlan next) m.plan s.plans t.plans actor None None plans
          (λ other. plan-longer h next (m.plan other) (get nat_cmp s.plans other) front follows (is.plans other)) tt;
    }

-- ---- any event

-- The history of the next machine is legal.
pub next-legal : (m : model.Machine) (s : Machine) (actor : ℕ) (event : model.Event) → IsMachineOf m s → Legal (model.next m actor event).history
next-legal m s actor (events.Commit e) is = committed-legal m.history e is.legal
next-legal m s actor events.Admit is = is.legal
next-legal m s actor (events.Ask q) is = is.legal
next-legal m s actor (events.Plan stream) is = is.legal
next-legal m s actor events.Land is =
    landing-legal m.history (m.plan actor) is.legal (stands-if m.history (m.plan actor) (get nat_cmp s.plans actor) (is.plans actor))
