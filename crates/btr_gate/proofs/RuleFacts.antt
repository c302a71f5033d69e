-- What the rule of a gate says of the view of a pass, and what of it stays after a step.
use Rattle.std.proofs.Common.{◌≡◌, ◌≢◌, ℕ, zero, suc, ◌<◌, ◌≤◌, true, false, Option, Some, None, is_some, List, [], ◌∷◌, ◌++◌, set, inl, inr, ⊎_elim, refl, sym, ap, ◌∙◌, subst, true≢false}
use mathlib.Core.Logic.{dite}
use mathlib.Core.Option as maybe
use mathlib.Core.Option.{some, some-injective, some-ne-none}
use native.Mathlib.Decide.{ℕ_discrete}
use lib.ListN.{get_elem?}
use Rattle.atomic_table.specs.Table.{State}
use Rattle.atomic_table.proofs.Lists.{at_set, at_snoc, set_else, at_longer}
use Rattle.btr_gate.specs.declared.chronicle.Chronicle.{Ghosts}
use Rattle.btr_gate.specs.declared.view.View.{View}
use Rattle.btr_gate.specs.declared.view.Stage.{Stage}
use Rattle.btr_gate.specs.declared.view.Stage.TheVariants.{Unopened, Placing, Idle}
use Rattle.btr_gate.specs.declared.turn.Turn.{Turn}
use Rattle.btr_gate.specs.Views.{blank, is_turn}
use Rattle.btr_gate.specs.Rule.{Now, HasTicket, IsWaiting, FitsStage, IsLive, FitsSlot, IsInUse, Rule}

-- One place has one view.
pub same_view : {V : Type 0} (views : List V) (i j : ℕ) (u v : V) → j ≡ i → get_elem? views i ≡ some v → get_elem? views j ≡ some u → u ≡ v
same_view views i j u v e at here = some-injective u v (sym here ∙ ap (get_elem? views) e ∙ at)

-- An idle pass has no ticket.
pub idle_free : {E : Type 0} (stage : Stage E) → stage ≡ Idle → (n : ℕ) → HasTicket stage n → ⊥
idle_free {E = E} stage e n has = subst (λ (x : Stage E). HasTicket x n) e has

module _ {E X : Type 0} where
  -- Each view with a ticket is where it was.
  abbrev pub Stays : List (View E X) → List (View E X) → Type 0
  Stays views later = (j : ℕ) (u : View E X) (n : ℕ) → get_elem? views j ≡ some u → HasTicket u.stage n → get_elem? later j ≡ some u

  -- A view without a ticket may change.
  pub stays_set : (views : List (View E X)) (id : ℕ) (v w : View E X) → get_elem? views id ≡ some v → ((n : ℕ) → HasTicket v.stage n → ⊥) → Stays views (set views id w)
  stays_set views id v w at free j u n here has = dite (ℕ_discrete j id)
      (λ e. absurd (free n (subst (λ (x : View E X). HasTicket x.stage n) (same_view views id j u v e at here) has)))
      (λ other. set_else views id j w other ∙ here)

  -- A view may be added.
  pub stays_snoc : (views later : List (View E X)) (w : View E X) → Stays views later → Stays views (later ++ w ∷ [])
  stays_snoc views later w stays j u n here has = at_longer later (w ∷ []) j u (stays j u n here has)

  blank_only : (stage : Stage E) (id : ℕ) (v : View E X) → get_elem? (blank {E = E} {X = X} stage ∷ []) id ≡ some v → (id ≡ 0) × (v ≡ blank stage)
  blank_only stage zero v e = (refl, sym (some-injective (blank stage) v e))
  blank_only stage (suc id) v e = absurd (some-ne-none v (sym e))

  -- The one view before the gate is open.
  pub only_blank : (views : List (View E X)) (stage : Stage E) (id : ℕ) (v : View E X) → views ≡ blank stage ∷ [] → get_elem? views id ≡ some v → (id ≡ 0) × (v ≡ blank stage)
  only_blank views stage id v e at = blank_only stage id v (subst (λ (l : List (View E X)). get_elem? l id ≡ some v) e at)

  not_live : (v : View E X) (stage : Stage E) → is_some v.setting ≡ true → v ≡ blank stage → ⊥
  not_live v stage live e = true≢false (sym live ∙ ap (λ (x : View E X). is_some x.setting) e)

module _ {T E X : Type 0} where
  -- The slot is out if a pass has the turn.
  abbrev pub Away : maybe.Option (Option (Turn T E)) → List (View E X) → Type 0
  Away slot views = (j : ℕ) (u : View E X) → get_elem? views j ≡ some u → is_turn u.stage ≡ true → slot ≡ maybe.none

  pub away_set : (slot : maybe.Option (Option (Turn T E))) (views : List (View E X)) (id : ℕ) (w : View E X) → is_turn w.stage ≡ false → Away slot views → Away slot (set views id w)
  away_set slot views id w none away j u here turn = ⊎_elim
      (λ (t : (j ≡ id) × (w ≡ u)). absurd (true≢false (sym turn ∙ ap (λ (x : View E X). is_turn x.stage) (sym t.1) ∙ none)))
      (λ (t : (j ≢ id) × (get_elem? views j ≡ some u)). away j u t.1 turn)
      (at_set views id j w u here)

  pub away_snoc : (slot : maybe.Option (Option (Turn T E))) (views : List (View E X)) (w : View E X) → is_turn w.stage ≡ false → Away slot views → Away slot (views ++ w ∷ [])
  away_snoc slot views w none away j u here turn = ⊎_elim
      (λ old. away j u old turn)
      (λ (e : w ≡ u). absurd (true≢false (sym turn ∙ ap (λ (x : View E X). is_turn x.stage) (sym e) ∙ none)))
      (at_snoc views w u j here)

module _ {T E X : Type 0} (C : Ghosts T E X) where
  -- The view of a pass shows that the gate is open.
  pub in_use : (s : State (Option (Turn T E)) (View E X)) → Rule C s → (id : ℕ) (v : View E X) → get_elem? s.views id ≡ some v → is_some v.setting ≡ true → IsInUse C s
  in_use s (inl new) id v at live = absurd (⊎_elim
      (λ f. not_live v Unopened live ((only_blank s.views Unopened id v f.0 at).1))
      (λ f. not_live v Placing live ((only_blank s.views Placing id v f.0 at).1))
      new.first)
  in_use s (inr r) id v at live = r

  -- A view with a setting is that of a pass.
  pub live_at : (s : State (Option (Turn T E)) (View E X)) (r : IsInUse C s) (id : ℕ) (v : View E X) → get_elem? s.views id ≡ some v → is_some v.setting ≡ true → IsLive C r.now id v
  live_at s r id v at live = ⊎_elim (λ spent. absurd (not_live v Idle live spent)) (λ l. l) (r.seats id v at)

  -- Tickets that are drawn change nothing of a live view but its stage, which fits after them, and its number of turns.
  pub live_drawn : (now : Now E X) (tick : ℕ) (owner : ℕ → ℕ) (id : ℕ) (v : View E X) (turns : ℕ) (stage : Stage E) → IsLive C now id v
      → FitsStage C (record now { tick = tick; owner = owner }) id stage → IsLive C (record now { tick = tick; owner = owner }) id (record v { turns = turns; stage = stage })
  live_drawn now tick owner id v turns stage l f = record {
    setting = l.setting;
    start = l.start;
    seen = l.seen;
    stage = f;
    climbs = l.climbs;
    word = l.word;
    still = l.still;
    since = l.since;
  }

  -- A live view with another number of turns, at another stage that fits.
  pub live_stage : (now : Now E X) (id : ℕ) (v : View E X) (turns : ℕ) (stage : Stage E) → IsLive C now id v → FitsStage C now id stage → IsLive C now id (record v { turns = turns; stage = stage })
  live_stage now = live_drawn now now.tick now.owner

  module _ (now : Now E X) (views later : List (View E X)) (stays : Stays views later) where
    pub slot_stays : (slot : maybe.Option (Option (Turn T E))) → FitsSlot C now views slot → FitsSlot C now later slot
    slot_stays maybe.none t =
        (t.0, stays (now.owner now.serve) t.0 t.2 t.1 (subst (λ (x : Stage E). HasTicket x t.2) (sym t.5) refl), t.2, t.3, t.4, t.5)
    slot_stays (maybe.some None) t = t
    slot_stays (maybe.some (Some turn)) t = t

    pub waits_stay : ((n : ℕ) → now.serve ≤ n → n < now.tick → IsWaiting views (now.owner n) n) → (n : ℕ) → now.serve ≤ n → n < now.tick → IsWaiting later (now.owner n) n
    waits_stay waits n low high = let w = waits n low high in (w.0, stays (now.owner n) w.0 n w.1 w.2, w.2)
