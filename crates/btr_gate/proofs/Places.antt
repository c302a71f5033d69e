-- Views at their places after a step, and the tickets of stages.
use Rattle.std.proofs.Common.{◌≡◌, ◌≢◌, ℕ, zero, suc, Bool, true, false, List, [], ◌∷◌, set, inl, inr, ⊎_elim, refl, sym, ap, ◌∙◌, subst, arith}
use Rattle.std.proofs.lemmas.Bool.{true≢false}
use mathlib.Core.Logic.{dite}
use native.Mathlib.Decide.{ℕ_discrete}
use mathlib.Core.Option.{some, some-ne-none}
use lib.ListN.{get_elem?}
use Rattle.atomic_table.proofs.Lists.{at_set, set_else}
use Rattle.btr_gate.specs.declared.chronicle.Chronicle.{Ghosts}
use Rattle.btr_gate.specs.declared.view.View.{View}
use Rattle.btr_gate.specs.declared.view.Stage.{Stage}
use Rattle.btr_gate.specs.declared.view.Stage.TheVariants.{Unopened, Placing, Idle, Waiting, InTurn, Met}
use Rattle.btr_gate.specs.Views.{is_turn}
use Rattle.btr_gate.proofs.RuleFacts.{same_view}
use Rattle.btr_gate.specs.Rule.{Now, HasTicket, IsWaiting, IsWhole, FitsStage, Fits}

module _ {A : Type 0} where
  -- What holds of the new item, and of each other one, holds of each.
  pub place_set : (K : ℕ → A → Type 0) (xs : List A) (id : ℕ) (w : A) → K id w → ((j : ℕ) (u : A) → j ≢ id → get_elem? xs j ≡ some u → K j u) → (j : ℕ) (u : A) → get_elem? (set xs id w) j ≡ some u → K j u
  place_set K xs id w mine others j u e =
      ⊎_elim (λ (t : (j ≡ id) × (w ≡ u)). subst (λ (x : ℕ × A). K x.0 x.1) (λ i. (sym t.0 i, t.1 i)) mine)
      (λ (t : (j ≢ id) × (get_elem? xs j ≡ some u)). others j u t.0 t.1) (at_set xs id j w u e)

  pub set_there : (xs : List A) (i : ℕ) (v w : A) → get_elem? xs i ≡ some v → get_elem? (set xs i w) i ≡ some w
  set_there [] i v w at = absurd (some-ne-none v (sym at))
  set_there (x ∷ xs) zero v w at = refl
  set_there (x ∷ xs) (suc i) v w at = set_there xs i v w at

module _ {E : Type 0} where
  abbrev pub ticket_of : Stage E → ℕ
  ticket_of (Waiting t) = t
  ticket_of (InTurn t list lent) = t
  ticket_of _ = 0

  abbrev pub has_ticket : Stage E → Bool
  has_ticket (Waiting t) = true
  has_ticket (InTurn t list lent) = true
  has_ticket _ = false

  pub ticket_shown : (stage : Stage E) (n : ℕ) → HasTicket stage n → has_ticket stage ≡ true
  ticket_shown (Waiting t) n h = refl
  ticket_shown (InTurn t list lent) n h = refl
  ticket_shown Unopened n h = absurd h
  ticket_shown Placing n h = absurd h
  ticket_shown Idle n h = absurd h
  ticket_shown (Met a b) n h = absurd h

module _ {T E X : Type 0} (C : Ghosts T E X) where
  -- Two views of which a test tells one stage from the other are at two places.
  pub apart : (views : List (View E X)) (id j : ℕ) (v u : View E X) (test : Stage E → Bool) → get_elem? views id ≡ some v → get_elem? views j ≡ some u → test v.stage ≡ false → test u.stage ≡ true → j ≢ id
  apart views id j v u test av au fv tu e =
      true≢false (sym tu ∙ (ap (λ (x : View E X). test x.stage) (same_view views id j u v e av au) ∙ fv))

  drawn_turn : (now : Now E X) (j : ℕ) (stage : Stage E) → FitsStage C now j stage → is_turn stage ≡ true → now.serve ≢ now.tick
  drawn_turn now j (InTurn t list lent) f turn e = let is = f.0 in let below = f.1 in omega arith
  drawn_turn now j Unopened f turn e = true≢false (sym turn)
  drawn_turn now j Placing f turn e = true≢false (sym turn)
  drawn_turn now j Idle f turn e = true≢false (sym turn)
  drawn_turn now j (Waiting t) f turn e = true≢false (sym turn)
  drawn_turn now j (Met a b) f turn e = true≢false (sym turn)

  -- The ticket that has the turn was drawn.
  pub in_time : (now : Now E X) (j : ℕ) (u : View E X) → Fits C now j u → is_turn u.stage ≡ true → now.serve ≢ now.tick
  in_time now j u (inl e) turn = absurd (true≢false (sym turn ∙ ap (λ (x : View E X). is_turn x.stage) e))
  in_time now j u (inr l) turn = drawn_turn now j u.stage l.stage turn

  -- Some view has still seen all if the view at one place keeps its list.
  pub whole_stays : (now : Now E X) (views : List (View E X)) (id : ℕ) (v w : View E X) → get_elem? views id ≡ some v → w.setting ≡ v.setting → w.seen ≡ v.seen → IsWhole now views → IsWhole now (set views id w)
  whole_stays now views id v w at setting seen k =
      dite (ℕ_discrete k.0 id)
      (λ here. let same = same_view views id k.0 k.1 v here at k.2 in
      (id, w, set_there views id v w at, setting ∙ (ap (λ (x : View E X). x.setting) (sym same) ∙ k.3), seen ∙ (ap (λ (x : View E X). x.seen) (sym same) ∙ k.4)))
      (λ away. (k.0, k.1, set_else views id k.0 w away ∙ k.2, k.3, k.4))

  -- A ticket goes on to be that of a view if the view at one place keeps it.
  pub wait_stays : (views : List (View E X)) (id j n : ℕ) (v w : View E X) → get_elem? views id ≡ some v → (HasTicket v.stage n → HasTicket w.stage n) → IsWaiting views j n → IsWaiting (set views id w) j n
  wait_stays views id j n v w at keeps k =
      dite (ℕ_discrete j id)
      (λ here. let same = same_view views id j k.0 v here at k.1 in
      (w, subst (λ i. get_elem? (set views id w) i ≡ some w) (sym here) (set_there views id v w at), keeps (subst (λ (x : View E X). HasTicket x.stage n) same k.2)))
      (λ there. (k.0, set_else views id j w there ∙ k.1, k.2))

  -- A stage without a ticket has none.
  pub no_ticket : (stage : Stage E) (n : ℕ) {P : Type 0} → has_ticket stage ≡ false → HasTicket stage n → P
  no_ticket stage n none h = absurd (true≢false (sym (ticket_shown stage n h) ∙ none))
