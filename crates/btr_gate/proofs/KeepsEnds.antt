-- The steps that open a gate keep its rule, and the last pass closes it.
use Rattle.std.proofs.Common.{◌≡◌, ℕ, zero, suc, Bool, true, false, Option, Some, None, is_some, List, [], ◌∷◌, length, set, inl, inr, ⊎_elim, refl, sym, ap, ◌∙◌, subst, true≢false, arith, le_refl}
use mathlib.Core.Logic.{dite}
use mathlib.Core.Option as maybe
use mathlib.Core.Option.{some, some-injective, some-ne-none}
use native.Mathlib.Decide.{ℕ_discrete}
use lib.ListN.{get_elem?}
use lib.Seq.{set-get_or}
use Rattle.atomic_table.specs.Table.{State, step, rest, takes, gives, Allows, Final, Seen}
use Rattle.btr_gate.specs.declared.chronicle.Chronicle.{Ghosts}
use Rattle.btr_gate.specs.declared.view.View.{View}
use Rattle.btr_gate.specs.declared.view.Stage.{Stage}
use Rattle.btr_gate.specs.declared.view.Stage.TheVariants.{Unopened, Placing, Idle}
use Rattle.btr_gate.specs.declared.turn.Turn.{Turn}
use Rattle.btr_gate.specs.Numbers.{one, total, times, given, Climbs}
use Rattle.btr_gate.specs.Shares.{covers}
use Rattle.btr_gate.specs.Views.{is_turn, blank, spent_view, opened}
use Rattle.btr_gate.specs.Turns.{IsStateOf, Closes}
use Rattle.btr_gate.specs.Rule.{Now, HasTicket, Fits, IsLive, FitsSlot, IsInUse, Rule}
use Rattle.btr_gate.specs.Steps.{Seated, Empties, Opens, holding}
use Rattle.btr_gate.proofs.Totals.{total_only}
use Rattle.btr_gate.proofs.NumberLemmas.{given_none}
use Rattle.btr_gate.proofs.PrefixLemmas.{starts_refl}
use Rattle.btr_gate.proofs.Alone.{others_spent, seen_all}
use Rattle.btr_gate.proofs.RuleFacts.{same_view, idle_free, only_blank, in_use, live_at}

one_none : (b : Bool) → one b ≡ 0 → b ≡ false
one_none true e = absurd (omega arith)
one_none false e = refl

abbrev is_unopened : {E : Type 0} → Stage E → Bool
is_unopened Unopened = true
is_unopened _ = false

abbrev is_placing : {E : Type 0} → Stage E → Bool
is_placing Placing = true
is_placing _ = false

module _ {T E : Type 0} where
  abbrev held_or : Turn T E → List (ℕ × Option (Turn T E)) → Turn T E
  held_or turn [] = turn
  held_or turn ((slot, None) ∷ rest) = turn
  held_or turn ((slot, Some other) ∷ rest) = other

module _ {T E X : Type 0} (C : Ghosts T E X) where
  abbrev V : Type 0
  V = View E X

  abbrev St : Type 0
  St = State (Option (Turn T E)) V

  -- The first pass before its load finds the gate empty, with its slot at home.
  unopened : (s : St) → Rule C s → (id : ℕ) → get_elem? s.views id ≡ some (blank Unopened)
      → (id ≡ 0) × (s.words ≡ 0 ∷ 0 ∷ 0 ∷ []) × (s.views ≡ blank Unopened ∷ []) × (s.homes ≡ maybe.some None ∷ [])
  unopened s (inl u) id at = ⊎_elim
      (λ f. ((only_blank s.views Unopened id (blank Unopened) f.0 at).0, u.words, f.0, f.1))
      (λ f. absurd (true≢false (ap (λ (x : V). is_unopened x.stage) (only_blank s.views Placing id (blank Unopened) f.0 at).1)))
      u.first
  unopened s (inr r) id at = absurd (⊎_elim
      (λ (e : blank Unopened ≡ spent_view). true≢false (ap (λ (x : V). is_unopened x.stage) e))
      (λ (l : IsLive C r.now id (blank Unopened)). l.stage)
      (r.seats id (blank Unopened) at))

  -- The first pass with the slot finds the gate empty, and its slot out.
  placing : (s : St) → Rule C s → (id : ℕ) → get_elem? s.views id ≡ some (blank Placing)
      → (id ≡ 0) × (s.words ≡ 0 ∷ 0 ∷ 0 ∷ []) × (s.views ≡ blank Placing ∷ []) × (s.homes ≡ maybe.none ∷ [])
  placing s (inl u) id at = ⊎_elim
      (λ f. absurd (true≢false (ap (λ (x : V). is_placing x.stage) (only_blank s.views Unopened id (blank Placing) f.0 at).1)))
      (λ f. ((only_blank s.views Placing id (blank Placing) f.0 at).0, u.words, f.0, f.1))
      u.first
  placing s (inr r) id at = absurd (⊎_elim
      (λ (e : blank Placing ≡ spent_view). true≢false (ap (λ (x : V). is_placing x.stage) e))
      (λ (l : IsLive C r.now id (blank Placing)). l.stage)
      (r.seats id (blank Placing) at))

  empty_taken : (slots id : ℕ) → Allows (Rule C) slots id (blank Unopened, []) 0 (λ x. x) (Empties (step slots 0 0 0 maybe.none) (blank Unopened, []))
  empty_taken slots id s rule _ at _ = let f = unopened s rule id at in (
    blank Placing,
    takes 0 None,
    ap (λ (h : List (maybe.Option (Option (Turn T E)))). get_elem? h 0) f.3,
    inl record {
      words = set-get_or s.words 0 0 ∙ f.1;
      first = inr ((λ k. set (f.2 k) (f.0 k) (blank Placing)), (λ k. set (f.3 k) 0 maybe.none));
    },
    refl,
  )

  -- The first pass takes its empty slot.
  pub empties : (slots id : ℕ) (me : Seated T E X) → me ≡ (blank Unopened, []) → Allows (Rule C) slots id me 0 (λ x. x) (Empties (step slots 0 0 0 maybe.none) me)
  empties slots id me is = subst (λ (m : Seated T E X). Allows (Rule C) slots id m 0 (λ x. x) (Empties (step slots 0 0 0 maybe.none) m)) (sym is) (empty_taken slots id)

  -- What the rule says first when the gate is open.
  abbrev first_now : List E → X → Now E X
  first_now l x = record { tick = 0; serve = 0; owner = λ _. 0; history = l; setting = x; start = length l; lending = false }

  -- The view of the first pass is live.
  opened_live : (l : List E) (x : X) → IsLive C (first_now l x) 0 (opened l x)
  opened_live l x = record {
    setting = refl;
    start = refl;
    seen = starts_refl l;
    stage = tt;
    climbs = tt;
    word = omega arith;
    still = λ _ carries. absurd (true≢false (sym carries));
    since = λ _ carries. absurd (true≢false (sym carries));
  }

  one_seat : (l : List E) (x : X) (j : ℕ) (v : V) → get_elem? (opened l x ∷ []) j ≡ some v → Fits C (first_now l x) j v
  one_seat l x zero v here = subst (Fits C (first_now l x) 0) (some-injective (opened l x) v here) (inr (opened_live l x))
  one_seat l x (suc j) v here = absurd (some-ne-none v (sym here))

  no_turn : (P : Type 0) (l : List E) (x : X) (j : ℕ) (v : V) → get_elem? (opened l x ∷ []) j ≡ some v → is_turn v.stage ≡ true → P
  no_turn P l x zero v here turn = absurd (true≢false (sym turn ∙ ap (λ (o : V). is_turn o.stage) (sym (some-injective (opened l x) v here))))
  no_turn P l x (suc j) v here turn = absurd (some-ne-none v (sym here))

  first_use : (turn : Turn T E) (l : List E) (x : X) → C.is_state_of turn.state l x → C.lent turn.state ≡ false → turn.added ≡ None
      → IsInUse C record { words = 0 ∷ 0 ∷ length l ∷ []; homes = maybe.some (Some turn) ∷ []; views = opened l x ∷ [] }
  first_use turn l x of home none = record {
    now = first_now l x;
    slot = maybe.some (Some turn);
    words = refl;
    homes = refl;
    order = omega arith;
    small = omega arith;
    began = le_refl (length l);
    state = (of, home, none);
    away = no_turn (maybe.some (Some turn) ≡ maybe.none) l x;
    seats = one_seat l x;
    whole = (0, opened l x, refl, refl, refl);
    waits = λ n low high. absurd (omega arith);
    numbers = λ n. omega (arith, given_none (length l) n);
    paths = λ path. refl;
    carriers = refl;
  }

  state_put : (slots id count : ℕ) (turn : Turn T E) (l : List E) (x : X) → C.is_state_of turn.state l x → C.lent turn.state ≡ false → turn.added ≡ None → count ≡ length l
      → Allows (Rule C) slots id (blank Placing, holding (Some turn)) 2 (λ _. count) (λ _. Opens C (step slots 2 count 0 maybe.none) (blank Placing, holding (Some turn)) count)
  state_put slots id count turn l x of home none is s rule _ at _ = let f = placing s rule id at in (
    opened l x,
    gives,
    tt,
    inr (subst (λ (t : List ℕ × List (maybe.Option (Option (Turn T E))) × List V). IsInUse C record { words = t.0; homes = t.1; views = t.2 })
        (λ k. (set (sym f.1 k) 2 (sym is k), set (sym f.3 k) 0 (maybe.some (Some turn)), set (sym f.2 k) (sym f.0 k) (opened l x)))
        (first_use turn l x of home none)),
    λ other same. (l, x, subst (λ (t : Turn T E). C.is_state_of t.state l x) (ap (held_or turn) same) of, refl),
  )

  -- The first pass, which has put the state into its slot, opens the gate.
  pub begins : (slots id count : ℕ) (turn : Turn T E) (before me : Seated T E X) → before ≡ (blank Placing, holding None) → me ≡ (before.0, (0, Some turn) ∷ rest before.1)
      → (l : List E) × (x : X) × C.is_state_of turn.state l x → C.lent turn.state ≡ false → turn.added ≡ None → ((l : List E) (x : X) → C.is_state_of turn.state l x → count ≡ length l)
      → Allows (Rule C) slots id me 2 (λ _. count) (λ _. Opens C (step slots 2 count 0 maybe.none) me count)
  begins slots id count turn before me took put of home none counts =
      subst (λ (m : Seated T E X). Allows (Rule C) slots id m 2 (λ _. count) (λ _. Opens C (step slots 2 count 0 maybe.none) m count))
      (sym (put ∙ ap (λ (m : Seated T E X). (m.0, (0, Some turn) ∷ rest m.1)) took))
      (state_put slots id count turn of.0 of.1 of.2 home none (counts of.0 of.1 of.2))

  module _ (now : Now E X) (views : List V) (free : (j : ℕ) (u : V) (n : ℕ) → get_elem? views j ≡ some u → HasTicket u.stage n → ⊥) where
    -- If no pass has a ticket, the state is at home.
    at_home : (slot : maybe.Option (Option (Turn T E))) → FitsSlot C now views slot
        → (turn : Turn T E) × (slot ≡ maybe.some (Some turn)) × C.is_state_of turn.state now.history now.setting × (C.lent turn.state ≡ now.lending) × (turn.added ≡ None)
    at_home maybe.none t = absurd (free (now.owner now.serve) t.0 t.2 t.1 (subst (λ (x : Stage E). HasTicket x t.2) (sym t.5) refl))
    at_home (maybe.some None) t = absurd t
    at_home (maybe.some (Some turn)) t = (turn, refl, t.0, t.1, t.2)

  module _ (s : St) (r : IsInUse C s) (id : ℕ) (v : V) (at : get_elem? s.views id ≡ some v) (all : covers v.share ≡ true) where
    no_ticket : v.stage ≡ Idle → (j : ℕ) (u : V) (n : ℕ) → get_elem? s.views j ≡ some u → HasTicket u.stage n → ⊥
    no_ticket idle j u n here = dite (ℕ_discrete j id)
        (λ same. idle_free u.stage (ap (λ (x : V). x.stage) (same_view s.views id j u v same at here) ∙ idle) n)
        (λ other. idle_free u.stage (ap (λ (x : V). x.stage) (others_spent C s r id v at all j u other here)) n)

    only_one : (f : V → ℕ) → f spent_view ≡ 0 → total f s.views ≡ f v
    only_one f none = total_only f s.views id v at (λ j u other here. ap f (others_spent C s r id v at all j u other here) ∙ none)

  -- The last pass gets the state of all that it has seen.
  pub closes : (words : List ℕ) (slots : List (Option (Turn T E))) (id : ℕ) (v : V) → Final (Seen (Rule C) id v) words slots
      → is_some v.setting ≡ true → v.stage ≡ Idle → v.carries ≡ false → covers v.share ≡ true
      → (turn : Turn T E) × (get_elem? slots 0 ≡ some (Some turn)) × (turn.added ≡ None) × Closes C v turn.state
  closes words slots id v f live idle home all =
      let s = f.0 in
      let at = f.1.1 in
      let r = in_use C s f.1.0 id v at live in
      let l = live_at C s r id v at live in
      let now = r.now in
      let h = at_home now s.views (no_ticket s r id v at all idle) r.slot r.state in
      let seen = seen_all C s r id v at all in
      let start = l.start in (
        h.0,
        f.4 0 (Some h.0) (ap (λ (x : List (maybe.Option (Option (Turn T E)))). get_elem? x 0) r.homes ∙ ap some h.1),
        h.4,
        record {
          of = subst (λ (t : List E × Option X). IsStateOf C h.0.state t.0 t.1) (λ k. (seen k, sym l.setting k)) h.2;
          home = h.3 ∙ one_none now.lending (sym r.carriers ∙ only_one s r id v at all (λ (x : V). one x.carries) refl ∙ ap one home);
          once = λ n. sym (only_one s r id v at all (λ (x : V). times n x.mine) refl) ∙ r.numbers n ∙ (λ k. given (sym start k) (length (seen k)) n);
          climbs = subst (λ (k : ℕ). Climbs k v.mine (length v.seen)) (sym start) l.climbs;
        },
      )

  -- The same for what is then taken from the slot.
  pub closed : (words : List ℕ) (slots : List (Option (Turn T E))) (id : ℕ) (v : V) (taken : Option (Turn T E)) → Final (Seen (Rule C) id v) words slots
      → is_some v.setting ≡ true → v.stage ≡ Idle → v.carries ≡ false → covers v.share ≡ true → get_elem? slots 0 ≡ some taken
      → (turn : Turn T E) × (taken ≡ Some turn) × (turn.added ≡ None) × Closes C v turn.state
  closed words slots id v taken f live idle home all at =
      let h = closes words slots id v f live idle home all in
      (h.0, some-injective taken (Some h.0) (sym at ∙ h.1), h.2, h.3)

  pub closed_some : (v : V) (taken : Option (Turn T E)) (turn : Turn T E) → taken ≡ Some turn → (other : Turn T E) × (taken ≡ Some other) × (other.added ≡ None) × Closes C v other.state
      → (turn.added ≡ None) × Closes C v turn.state
  closed_some v taken turn is h = subst (λ (t : Turn T E). (t.added ≡ None) × Closes C v t.state) (ap (λ (o : Option (Turn T E)). held_or turn ((0, o) ∷ [])) (sym h.1 ∙ is)) (h.2, h.3)
