-- A look at the ticket that has the turn keeps the rule, and the turn that comes has its state.
use Rattle.std.proofs.Common.{◌≡◌, ℕ, true, List, [], ◌∷◌, length, set, get_or, Option, None, Some, inr, refl, sym, ap, ◌∙◌, subst}
use Rattle.std.proofs.lemmas.Bool.{true≢false}
use Rattle.std.proofs.lemmas.List.{set-get_or}
use Rattle.std.specs.Option.{is_some}
use mathlib.Core.Option as maybe
use mathlib.Core.Option.{some, none}
use mathlib.Core.Logic.{dite}
use native.Mathlib.Decide.{ℕ_discrete}
use lib.ListN.{get_elem?}
use Rattle.atomic_table.specs.Table.{State, Me, step, keeps, takes, Allows}
use Rattle.btr_gate.specs.declared.chronicle.Chronicle.{Ghosts}
use Rattle.btr_gate.specs.declared.view.View.{View}
use Rattle.btr_gate.specs.declared.view.Stage.TheVariants.{Waiting, InTurn}
use Rattle.btr_gate.specs.declared.turn.Turn.{Turn}
use Rattle.btr_gate.specs.Numbers.{one, times, Climbs}
use Rattle.btr_gate.specs.Shares.{on_path}
use Rattle.btr_gate.specs.Views.{next_turn, is_turn}
use Rattle.btr_gate.specs.Turns.{IsStateOf, Takes}
use Rattle.btr_gate.specs.Rule.{Now, HasTicket, FitsStage, Fits, FitsSlot, IsInUse, Rule}
use Rattle.btr_gate.specs.Steps.{Polls}
use Rattle.btr_gate.proofs.Totals.{set_same}
use Rattle.btr_gate.proofs.RuleFacts.{same_view, in_use, live_at, live_stage}
use Rattle.btr_gate.proofs.Places.{place_set, set_there, ticket_of, whole_stays, wait_stays}
use Rattle.btr_gate.proofs.Alone.{carrier_lent, seen_all}
use Rattle.btr_gate.proofs.KeepsTickets.{unmoved}

module _ {T E X : Type 0} (C : Ghosts T E X) where
  abbrev St : Type 0
  St = State (Option (Turn T E)) (View E X)

  abbrev V : Type 0
  V = View E X

  -- The view in its turn.
  abbrev pub turn_view : Now E X → V → V
  turn_view now v = next_turn v (InTurn now.serve now.history now.lending)

  takes_turn : (s : St) (k : IsInUse C s) (id : ℕ) (v : V) (turn : Turn T E) → get_elem? s.views id ≡ some v → is_some v.setting ≡ true → FitsSlot C k.now s.views (some (Some turn)) → Takes C v (turn_view k.now v) turn
  takes_turn s k id v turn at live f = let l = live_at C s k id v at live in record {
    state = subst (IsStateOf C turn.state k.now.history) (sym l.setting) f.0;
    none = f.2;
    lent = f.1;
    begins = l.seen;
    climbs = subst (λ n. Climbs n v.mine (length v.seen)) (sym l.start) l.climbs;
    carrier = carrier_lent C s k id v at;
    still = l.still;
    since = l.since;
    alone = seen_all C s k id v at;
  }

  serve_kept : (s : St) (k : IsInUse C s) (id : ℕ) (v : V) → get_elem? s.views id ≡ some v → is_some v.setting ≡ true → v.stage ≡ Waiting k.now.serve
      → IsInUse C record { words = s.words; homes = none ∷ []; views = set s.views id (turn_view k.now v) }
  serve_kept s k id v at live waits =
      let now = k.now in
      let w = turn_view now v in
      let l = live_at C s k id v at live in
      let f = subst (FitsStage C now id) waits l.stage in
      let here = set_there s.views id v w at in record {
        now = now;
        slot = none;
        words = k.words;
        homes = refl;
        order = k.order;
        small = k.small;
        began = k.began;
        state = (w, subst (λ j. get_elem? (set s.views id w) j ≡ some w) (sym f.2) here, now.serve, now.history, now.lending, refl);
        away = λ j u there turn. refl;
        seats = place_set (Fits C now) s.views id w (inr (live_stage C now id v _ _ l (refl, f.1, f.2, refl, refl))) (λ j u ne there. k.seats j u there);
        whole = whole_stays C now s.views id v w at refl refl k.whole;
        waits = λ n from below. wait_stays C s.views id (now.owner n) n v w at (λ h. subst (λ stage. HasTicket stage n) waits h) (k.waits n from below);
        numbers = λ n. set_same (λ (u : V). times n u.mine) s.views id v w at refl ∙ k.numbers n;
        paths = λ path. set_same (λ (u : V). on_path path u.share) s.views id v w at refl ∙ k.paths path;
        carriers = set_same (λ (u : V). one u.carries) s.views id v w at refl ∙ k.carriers;
      }

  -- The slot is at home if a pass waits with the ticket that has the turn.
  served : (s : St) (k : IsInUse C s) (id : ℕ) (v : V) → get_elem? s.views id ≡ some v → v.stage ≡ Waiting k.now.serve → k.now.owner k.now.serve ≡ id
      → (slot : maybe.Option (Option (Turn T E))) → FitsSlot C k.now s.views slot → (turn : Turn T E) × (slot ≡ some (Some turn)) × FitsSlot C k.now s.views (some (Some turn))
  served s k id v at waits own maybe.none f =
      let u = f.0 in
      let same = same_view s.views id (k.now.owner k.now.serve) u v own at f.1 in
      absurd (true≢false (sym (ap is_turn f.5) ∙ (ap (λ (x : V). is_turn x.stage) same ∙ ap is_turn waits)))
  served s k id v at waits own (maybe.some None) f = absurd f
  served s k id v at waits own (maybe.some (Some turn)) f = (turn, refl, f)

  pub looks : (slots id t : ℕ) (me : Me (Option (Turn T E)) V) → is_some me.0.setting ≡ true → me.0.stage ≡ Waiting t → me.1 ≡ []
      → Allows (Rule C) slots id me 1 (λ n. n) (Polls C (step slots 1 0 0 none) me)
  looks slots id t me live waits empty s r len at small =
      let k = in_use C s r id me.0 at live in
      let n : ℕ = get_or s.words 1 0 in
      let is : n ≡ k.now.serve = ap (λ ws. get_or ws 1 0) k.words in
      let one_ticket : (t' : ℕ) → me.0.stage ≡ Waiting t' → t ≡ t' = λ t' e. ap ticket_of (sym waits ∙ e) in
      dite (ℕ_discrete n t)
      (λ hit.
      let mine : me.0.stage ≡ Waiting k.now.serve = waits ∙ ap Waiting (sym hit ∙ is) in
      let l = live_at C s k id me.0 at live in
      let f = subst (FitsStage C k.now id) mine l.stage in
      let got = served s k id me.0 at mine f.2 k.slot k.state in
      let turn = got.0 in
      let home = k.homes ∙ ap (λ h. h ∷ []) got.1 in (
        turn_view k.now me.0,
        takes 0 (Some turn),
        ap (λ hs. get_elem? hs 0) home,
        inr (subst (λ (x : List ℕ × List (maybe.Option (Option (Turn T E)))). IsInUse C record { words = x.0; homes = x.1; views = set s.views id (turn_view k.now me.0) })
            (λ i. (sym (set-get_or s.words 1 0) i, sym (ap (λ hs. set hs 0 none) home) i))
            (serve_kept s k id me.0 at live mine)),
        (λ t' e. (
          (λ _. (k.now.serve, k.now.history, k.now.lending, turn, ap (λ out. (turn_view k.now me.0, (0, Some turn) ∷ out)) empty, takes_turn s k id me.0 turn at live got.2)),
          λ miss. absurd (miss (hit ∙ one_ticket t' e)),
        )),
      ))
      (λ miss. (
        me.0,
        keeps,
        tt,
        unmoved C s 1 id me.0 me.1 r at,
        λ t' e. ((λ hit. absurd (miss (hit ∙ sym (one_ticket t' e)))), λ _. refl),
      ))
