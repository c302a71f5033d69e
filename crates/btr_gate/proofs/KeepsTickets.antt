-- A ticket that is drawn keeps the rule, and so does a step that changes nothing.
use Rattle.std.proofs.Common.{◌≡◌, ◌≢◌, ℕ, ◌+◌, ◌<◌, ◌^◌, ◌==◌, eqb, eq-eqb, ne_eqb, true, false, if◌then◌else◌, List, set, get_or, Option, None, Some, inl, inr, refl, sym, ap, ◌∙◌, subst, arith}
use Rattle.std.proofs.lemmas.Bool.{true≢false}
use Rattle.std.proofs.lemmas.List.{set-get_or}
use Rattle.std.specs.Option.{is_some}
use mathlib.Core.Option as maybe
use mathlib.Core.Option.{some, none}
use mathlib.Core.Logic.{dite}
use native.Mathlib.Decide.{ℕ_discrete}
use lib.ListN.{get_elem?}
use prog.Atomic.{either}
use Rattle.atomic_table.specs.Table.{State, Me, step, keeps, stepped, Allows}
use Rattle.atomic_table.proofs.Lists.{set_again, set_else}
use Rattle.btr_gate.specs.declared.chronicle.Chronicle.{Ghosts}
use Rattle.btr_gate.specs.declared.view.View.{View}
use Rattle.btr_gate.specs.declared.view.Stage.{Stage}
use Rattle.btr_gate.specs.declared.view.Stage.TheVariants.{Unopened, Placing, Idle, Waiting, InTurn, Met}
use Rattle.btr_gate.specs.declared.turn.Turn.{Turn}
use Rattle.btr_gate.specs.Numbers.{one, times}
use Rattle.btr_gate.specs.Shares.{on_path}
use Rattle.btr_gate.specs.Views.{at_stage, is_turn}
use Rattle.btr_gate.specs.Rule.{Now, IsWaiting, FitsStage, Fits, FitsSlot, IsInUse, Rule}
use Rattle.btr_gate.specs.Steps.{Draws}
use Rattle.btr_gate.proofs.Totals.{set_same}
use Rattle.btr_gate.proofs.RuleFacts.{in_use, live_at, live_drawn}
use Rattle.btr_gate.proofs.Places.{place_set, set_there, has_ticket, no_ticket, apart, in_time, whole_stays, wait_stays}

-- The owners of tickets after one more was drawn.
abbrev pub drawn : (ℕ → ℕ) → ℕ → ℕ → ℕ → ℕ
drawn owner tick id n = if n == tick then id else owner n

pub drawn_new : (owner : ℕ → ℕ) (tick id n : ℕ) → n ≡ tick → drawn owner tick id n ≡ id
drawn_new owner tick id n e = ap (λ b. if b then id else owner n) (eq-eqb n tick e)

pub drawn_old : (owner : ℕ → ℕ) (tick id n : ℕ) → n ≢ tick → drawn owner tick id n ≡ owner n
drawn_old owner tick id n ne = ap (λ b. if b then id else owner n) (ne_eqb n tick ne)

module _ {T E X : Type 0} (C : Ghosts T E X) where
  abbrev St : Type 0
  St = State (Option (Turn T E)) (View E X)

  abbrev V : Type 0
  V = View E X

  -- A step that changes no word, no slot and no view.
  pub unmoved : (s : St) (i id : ℕ) (v : V) (out : List (ℕ × Option (Turn T E))) → Rule C s → get_elem? s.views id ≡ some v → Rule C (stepped s i (get_or s.words i 0) id out v keeps)
  unmoved s i id v out r at = subst (λ (x : List ℕ × List V). Rule C record { words = x.0; homes = s.homes; views = x.1 }) (λ j. (sym (set-get_or s.words i 0) j, sym (set_again s.views id v at) j)) r

  -- The words after a ticket was drawn.
  abbrev pub drawn_now : Now E X → ℕ → Now E X
  drawn_now now id = record now { tick = now.tick + 1; owner = drawn now.owner now.tick id }

  stage_drawn : (now : Now E X) (id j : ℕ) (stage : Stage E) → FitsStage C now j stage → FitsStage C (drawn_now now id) j stage
  stage_drawn now id j Unopened f = absurd f
  stage_drawn now id j Placing f = absurd f
  stage_drawn now id j Idle f = tt
  stage_drawn now id j (Waiting t) f = let below = f.1 in (f.0, omega arith, drawn_old now.owner now.tick id t (λ e. omega arith) ∙ f.2)
  stage_drawn now id j (InTurn t list lent) f = let below = f.1 in (f.0, omega arith, drawn_old now.owner now.tick id t (λ e. omega arith) ∙ f.2, f.3, f.4)
  stage_drawn now id j (Met a b) f = f

  fits_drawn : (now : Now E X) (id j : ℕ) (v : V) → Fits C now j v → Fits C (drawn_now now id) j v
  fits_drawn now id j v (inl e) = inl e
  fits_drawn now id j v (inr l) = inr (live_drawn C now (now.tick + 1) (drawn now.owner now.tick id) j v v.turns v.stage l (stage_drawn now id j v.stage l.stage))

  -- The slot goes on to fit if the view with the turn stays at its place.
  pub slot_drawn : (now : Now E X) (tick : ℕ) (owner : ℕ → ℕ) (views next : List (View E X)) (slot : maybe.Option (Option (Turn T E)))
      → ((u : View E X) → get_elem? views (now.owner now.serve) ≡ some u → is_turn u.stage ≡ true → get_elem? next (owner now.serve) ≡ some u)
      → FitsSlot C now views slot → FitsSlot C (record now { tick = tick; owner = owner }) next slot
  slot_drawn now tick owner views next maybe.none stays f = (f.0, stays f.0 f.1 (ap is_turn f.5), f.2, f.3, f.4, f.5)
  slot_drawn now tick owner views next (maybe.some None) stays f = absurd f
  slot_drawn now tick owner views next (maybe.some (Some turn)) stays f = f

  draw_kept : (s : St) (k : IsInUse C s) (id : ℕ) (v : V) → get_elem? s.views id ≡ some v → is_some v.setting ≡ true → v.stage ≡ Idle → k.now.tick + 1 < 2 ^ 64
      → IsInUse C record { words = set s.words 0 (k.now.tick + 1); homes = s.homes; views = set s.views id (at_stage v (Waiting k.now.tick)) }
  draw_kept s k id v at live idle fits =
      let now = k.now in
      let next = drawn_now now id in
      let w : V = at_stage v (Waiting now.tick) in
      let order = k.order in
      let not_turn : is_turn v.stage ≡ false = ap is_turn idle in
      let none : has_ticket v.stage ≡ false = ap has_ticket idle in
      let l = live_at C s k id v at live in
      let new = drawn_new now.owner now.tick id now.tick refl in record {
        now = next;
        slot = k.slot;
        words = ap (λ ws. set ws 0 (now.tick + 1)) k.words;
        homes = k.homes;
        order = omega arith;
        small = fits;
        began = k.began;
        state = slot_drawn now (now.tick + 1) (drawn now.owner now.tick id) s.views (set s.views id w) k.slot (λ u there turn.
            let away = apart C s.views id (now.owner now.serve) v u is_turn at there not_turn turn in
            let kept = set_else s.views id (now.owner now.serve) w away ∙ there in
            subst (λ j. get_elem? (set s.views id w) j ≡ some u) (sym (drawn_old now.owner now.tick id now.serve (in_time C now (now.owner now.serve) u (k.seats (now.owner now.serve) u there) turn))) kept) k.state;
        away = place_set (λ j (u : V). is_turn u.stage ≡ true → k.slot ≡ maybe.none) s.views id w (λ turn. absurd (true≢false (sym turn))) (λ j u ne there. k.away j u there);
        seats = place_set (Fits C next) s.views id w (inr (live_drawn C now (now.tick + 1) (drawn now.owner now.tick id) id v v.turns (Waiting now.tick) l (omega arith, omega arith, new))) (λ j u ne there. fits_drawn now id j u (k.seats j u there));
        whole = whole_stays C now s.views id v w at refl refl k.whole;
        waits = λ n from below. dite (ℕ_discrete n now.tick)
            (λ e. subst (λ j. IsWaiting (set s.views id w) j n) (sym (drawn_new now.owner now.tick id n e)) (w, set_there s.views id v w at, sym e))
            (λ ne. subst (λ j. IsWaiting (set s.views id w) j n) (sym (drawn_old now.owner now.tick id n ne)) (wait_stays C s.views id (now.owner n) n v w at (λ h. no_ticket C v.stage n none h) (k.waits n from (omega arith))));
        numbers = λ n. set_same (λ (u : V). times n u.mine) s.views id v w at refl ∙ k.numbers n;
        paths = λ path. set_same (λ (u : V). on_path path u.share) s.views id v w at refl ∙ k.paths path;
        carriers = set_same (λ (u : V). one u.carries) s.views id v w at refl ∙ k.carriers;
      }

  pub draws : (slots id old new : ℕ) (me : Me (Option (Turn T E)) V) → is_some me.0.setting ≡ true → me.0.stage ≡ Idle → new ≡ old + 1 → new < 2 ^ 64
      → Allows (Rule C) slots id me 0 (λ n. either (eqb n old) new n) (Draws (step slots 0 old new none) me)
  draws slots id old new me live idle up fits s r len at small =
      let k = in_use C s r id me.0 at live in
      let n : ℕ = get_or s.words 0 0 in
      let is : n ≡ k.now.tick = ap (λ ws. get_or ws 0 0) k.words in
      let F : ℕ → V → Type 0 = λ m w. Rule C (stepped s 0 m id me.1 w keeps) in
      dite (ℕ_discrete n old)
      (λ hit. let here : k.now.tick ≡ old = sym is ∙ hit in (
        at_stage me.0 (Waiting old),
        keeps,
        tt,
        subst (λ b. F (either b new n) (at_stage me.0 (Waiting old))) (sym (eq-eqb n old hit))
            (subst (λ (x : ℕ × ℕ). F x.0 (at_stage me.0 (Waiting x.1))) (λ i. ((ap (λ (z : ℕ). z + 1) here ∙ sym up) i, here i))
            (inr (draw_kept s k id me.0 at live idle (omega arith)))),
        ((λ _. refl), λ miss. absurd (miss hit)),
      ))
      (λ miss. (
        me.0,
        keeps,
        tt,
        subst (λ b. F (either b new n) me.0) (sym (ne_eqb n old miss)) (unmoved s 0 id me.0 me.1 r at),
        ((λ hit. absurd (miss hit)), λ _. refl),
      ))
