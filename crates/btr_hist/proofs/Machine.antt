-- The machine that many users share keeps its history legal, each admitted history a front of it, and each plan standing, and no
-- output of it has read a retired version last.
use Rattle.std.specs.Prelude.{◌≡◌, ℕ, ◌==◌, true, false, List, [], ◌∷◌, cond, Option, Some, None}
use Rattle.std.proofs.Common.{refl}
use Rattle.btr_hist.specs.declared.entry.Entry.{Entry}
use Rattle.btr_hist.specs.declared.rejection.Rejection.{Rejection}
use Rattle.btr_hist.specs.History.{spec_of}
use Rattle.btr_hist.specs.Legal.{Legal}
use Rattle.btr_hist.specs.Laws.{ReadsArePresent}
use Rattle.btr_hist.specs.Machine.{Event, Landing, Machine, start, offered, committed, plan_of, after_landing, next_plan, next, run}
use Rattle.btr_hist.specs.Machine.Event.{Commit, Admit, Ask, Plan, Land}
use Rattle.btr_hist.proofs.HistoryLemmas.{legal-none, legal-push, allowed-of_offered}
use Rattle.btr_hist.proofs.OutputLemmas.{legal-sound}
use Rattle.btr_hist.proofs.LandingLemmas.{IsFront, front-itself, front-trans, legal-front, committed-front, Stands, stands-front, plan-stands}
use Rattle.btr_hist.proofs.LandingLemmas.{landing-legal, landing-front}
use Rattle.btr_hist.proofs.PresentLemmas.{AreLeft, plan-left, left-front, committed-present, after_landing-present}

-- The history is legal, each user is admitted to a front of it, and each plan stands for it. No output has read a retired version
-- last, and no plan that can still land reads one.
record IsFair (m : Machine) : Type 0 where
  legal : Legal m.history
  front : (user : ℕ) → IsFront (m.admitted user) m.history
  stands : (user : ℕ) → Stands m.history (m.plan user)
  present : ReadsArePresent m.history
  left : (user : ℕ) → AreLeft m.history (m.plan user)

-- ---- a user's entry

committed-legal : (h : List Entry) (e : Entry) → Legal h → Legal (committed h e (offered h e))
committed-legal h e legal =
    elim (offered h e) as (λ (r : Option Rejection). offered h e ≡ r → Legal (committed h e r)) [
      | None ↦ λ accepted. legal-push h e legal (allowed-of_offered h e accepted)
      | Some r ↦ λ _. legal
    ] refl

-- ---- an event

-- A machine with a longer history, and the same users.
grown-fair : (m : Machine) (h : List Entry) → IsFair m → IsFront m.history h → Legal h → ReadsArePresent h → IsFair (record { history = h; admitted = m.admitted; plan = m.plan })
grown-fair m h fair longer legal present = record {
  legal = legal;
  front = λ user. front-trans (m.admitted user) m.history h (fair.front user) longer;
  stands = λ user. stands-front m.history h (m.plan user) longer (fair.stands user);
  present = present;
  left = λ user. left-front m.history h (m.plan user) longer legal (fair.stands user) (fair.left user);
}

next_plan-stands : (h : List Entry) (old new : Option Landing) → Stands h old → Stands h new → Stands h (next_plan old new)
next_plan-stands h old None a b = a
next_plan-stands h old (Some p) a b = b

next_plan-left : (h : List Entry) (old new : Option Landing) → AreLeft h old → AreLeft h new → AreLeft h (next_plan old new)
next_plan-left h old None a b = a
next_plan-left h old (Some p) a b = b

next-fair : (m : Machine) (user : ℕ) (event : Event) → IsFair m → IsFair (next m user event)
next-fair m user (Commit e) fair =
    grown-fair m (committed m.history e (offered m.history e)) fair (committed-front m.history e (offered m.history e)) (committed-legal m.history e fair.legal) (committed-present m.history e fair.legal fair.present)
next-fair m user Admit fair = record {
  legal = fair.legal;
  front = λ other. elim (other == user) as (λ t. IsFront (cond t m.history (m.admitted other)) m.history) [
    | true ↦ front-itself m.history
    | false ↦ fair.front other
  ];
  stands = fair.stands;
  present = fair.present;
  left = fair.left;
}
next-fair m user (Ask q) fair = fair
next-fair m user (Plan stream) fair =
    let g = m.admitted user in
    let legal = legal-front g m.history (fair.front user) fair.legal in
    let sound = legal-sound g legal in
    let new = plan_of g stream (spec_of g stream) in
    let made = plan-stands g stream (spec_of g stream) sound refl in
    let is = stands-front g m.history new (fair.front user) made in
    let left = left-front g m.history new (fair.front user) fair.legal made (plan-left g stream (spec_of g stream) legal refl) in
    record {
      legal = fair.legal;
      front = fair.front;
      stands = λ other. elim (other == user) as (λ t. Stands m.history (cond t (next_plan (m.plan user) new) (m.plan other))) [
        | true ↦ next_plan-stands m.history (m.plan user) new (fair.stands user) is
        | false ↦ fair.stands other
      ];
      present = fair.present;
      left = λ other. elim (other == user) as (λ t. AreLeft m.history (cond t (next_plan (m.plan user) new) (m.plan other))) [
        | true ↦ next_plan-left m.history (m.plan user) new (fair.left user) left
        | false ↦ fair.left other
      ];
    }
next-fair m user Land fair =
    let h = after_landing m.history (m.plan user) in
    let longer = landing-front m.history (m.plan user) in
    let legal = landing-legal m.history (m.plan user) fair.legal (fair.stands user) in
    let present = after_landing-present m.history (m.plan user) fair.legal fair.present (fair.stands user) (fair.left user) in
    let grown = grown-fair m h fair longer legal present in
    record {
      legal = grown.legal;
      front = grown.front;
      stands = λ other. elim (other == user) as (λ t. Stands h (cond t None (m.plan other))) [
        | true ↦ tt
        | false ↦ grown.stands other
      ];
      present = grown.present;
      left = λ other. elim (other == user) as (λ t. AreLeft h (cond t None (m.plan other))) [
        | true ↦ tt
        | false ↦ grown.left other
      ];
    }

-- ---- all events

run-fair : (m : Machine) (events : List (ℕ × Event)) → IsFair m → IsFair (run m events)
run-fair m [] fair = fair
run-fair m (e ∷ es) fair = run-fair (next m e.0 e.1) es (next-fair m e.0 e.1 fair)

start-fair : IsFair start
start-fair = record {
  legal = legal-none;
  front = λ user. front-itself [];
  stands = λ user. tt;
  present = λ stream spec output. absurd (cc);
  left = λ user. tt;
}

pub run-legal : (events : List (ℕ × Event)) → Legal (run start events).history
run-legal events = (run-fair start events start-fair).legal

pub run-present : (events : List (ℕ × Event)) → ReadsArePresent (run start events).history
run-present events = (run-fair start events start-fair).present
