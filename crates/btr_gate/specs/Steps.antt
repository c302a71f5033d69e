-- What each step at the gate's words promises its pass: of the pass's view and hand before, of the number found, and of both after.
use Rattle.std.specs.Prelude.{◌≡◌, ◌≢◌, ℕ, Bool, List, [], ◌∷◌, Option, None, Some}
use Rattle.atomic_table.specs.Table.{Me, Step}
use Rattle.btr_gate.specs.declared.chronicle.Chronicle.{Ghosts}
use Rattle.btr_gate.specs.declared.view.View.{View}
use Rattle.btr_gate.specs.declared.view.Stage.{Stage}
use Rattle.btr_gate.specs.declared.view.Stage.TheVariants.{Placing, Idle, Waiting, InTurn, Met}
use Rattle.btr_gate.specs.declared.turn.Turn.{Turn}
use Rattle.btr_gate.specs.Prefixes.{StartsWith}
use Rattle.btr_gate.specs.Views.{blank, opened, at_stage, next_turn, list_after, mine_after, carries_after}
use Rattle.btr_gate.specs.Turns.{Takes}

-- A view, and the slots that are out with it.
abbrev pub Seated : Type 0 → Type 0 → Type 0 → Type 0
Seated T E X = Me (Option (Turn T E)) (View E X)

module _ {T E : Type 0} where
  -- The slot is out with the pass, and has this.
  abbrev pub holding : Option (Turn T E) → List (ℕ × Option (Turn T E))
  holding value = (0, value) ∷ []

  -- What is out with a pass between calls: the empty slot in its turn, else nothing.
  abbrev pub out_with : Stage E → List (ℕ × Option (Turn T E))
  out_with (InTurn t list lent) = holding None
  out_with _ = []

module _ {T E X : Type 0} where
  -- The empty slot is taken from a gate that is not yet open.
  abbrev pub Empties : Step (Option (Turn T E)) → Seated T E X → ℕ → Seated T E X → Type 0
  Empties st m found n = n ≡ (blank Placing, holding None)

  -- A ticket is drawn if the word was as expected.
  abbrev pub Draws : Step (Option (Turn T E)) → Seated T E X → ℕ → Seated T E X → Type 0
  Draws st m found n = (found ≡ st.first → n ≡ (at_stage m.0 (Waiting st.first), m.1)) × (found ≢ st.first → n ≡ m)

  -- After a meeting some history begins with both lists.
  abbrev pub Settles : Step (Option (Turn T E)) → Seated T E X → ℕ → Seated T E X → Type 0
  Settles st m found n = (a b : List E) → m.0.stage ≡ Met a b
      → (n ≡ (at_stage m.0 Idle, m.1)) × ((history : List E) × StartsWith history a × StartsWith history b)

module _ {T E X : Type 0} (C : Ghosts T E X) where
  -- The state is in the slot, and the gate is open.
  abbrev pub Opens : Step (Option (Turn T E)) → Seated T E X → ℕ → Seated T E X → Type 0
  Opens st m found n = (turn : Turn T E) → m.1 ≡ holding (Some turn)
      → (list : List E) × (x : X) × C.is_state_of turn.state list x × (n ≡ (opened list x, []))

  -- The turn has come, and the slot is out.
  abbrev pub Served : Seated T E X → Seated T E X → Type 0
  Served m n = (t : ℕ) × (list : List E) × (lent : Bool) × (turn : Turn T E)
      × (n ≡ (next_turn m.0 (InTurn t list lent), holding (Some turn))) × Takes C m.0 n.0 turn

  -- The turn has come if the number found is the ticket.
  abbrev pub Polls : Step (Option (Turn T E)) → Seated T E X → ℕ → Seated T E X → Type 0
  Polls st m found n = (t : ℕ) → m.0.stage ≡ Waiting t → (found ≡ t → Served m n) × (found ≢ t → n ≡ m)

  -- The view with what the turn added, at a stage.
  abbrev pub settled : View E X → Turn T E → Stage E → View E X
  settled v turn stage = record v {
    seen = list_after v turn.added;
    mine = mine_after v turn.added;
    carries = carries_after v (C.lent turn.state);
    stage = stage;
  }

  -- The entry of the turn is counted.
  abbrev pub Counts : Step (Option (Turn T E)) → Seated T E X → ℕ → Seated T E X → Type 0
  Counts st m found n = (t : ℕ) (list : List E) (lent : Bool) (turn : Turn T E) → m.0.stage ≡ InTurn t list lent → m.1 ≡ holding (Some turn)
      → n ≡ (settled m.0 turn (InTurn t (list_after m.0 turn.added) (C.lent turn.state)), m.1)

  -- The turn passes on, and the slot goes home.
  abbrev pub Passes : Step (Option (Turn T E)) → Seated T E X → ℕ → Seated T E X → Type 0
  Passes st m found n = (turn : Turn T E) → m.1 ≡ holding (Some turn) → n ≡ (settled m.0 turn Idle, [])
