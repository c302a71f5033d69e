-- The rule of a gate: what holds of its words, its slot and all views between any two steps.
use Rattle.std.specs.Prelude.{◌≡◌, ◌⊎◌, ℕ, ◌^◌, ◌<◌, ◌≤◌, Bool, true, false, List, [], ◌∷◌, length, Option, None, Some}
use mathlib.Core.Option as maybe
use lib.ListN.{get_elem?}
use Rattle.atomic_table.specs.Table.{State}
use Rattle.btr_gate.specs.declared.chronicle.Chronicle.{Ghosts}
use Rattle.btr_gate.specs.declared.view.View.{View}
use Rattle.btr_gate.specs.declared.view.Stage.{Stage}
use Rattle.btr_gate.specs.declared.view.Stage.TheVariants.{Unopened, Placing, Idle, Waiting, InTurn, Met}
use Rattle.btr_gate.specs.declared.turn.Turn.{Turn}
use Rattle.btr_gate.specs.Prefixes.{StartsWith}
use Rattle.btr_gate.specs.Shares.{on_path}
use Rattle.btr_gate.specs.Numbers.{one, total, times, given, Climbs}
use Rattle.btr_gate.specs.Views.{blank, spent_view, is_turn}
use Rattle.btr_gate.specs.Turns.{LentSince}

-- What the words, the history and the owners of tickets are now.
pub record Now (E X : Type 0) : Type 0 where
  -- the next ticket to draw, the ticket that has the turn, and the seat that drew each ticket
  pub tick : ℕ
  pub serve : ℕ
  pub owner : ℕ → ℕ
  -- the entries, the setting, the number of entries at the start, and whether the part is lent
  pub history : List E
  pub setting : X
  pub start : ℕ
  pub lending : Bool

module _ {E : Type 0} where
  -- The stage has the ticket n.
  abbrev pub HasTicket : Stage E → ℕ → Type 0
  HasTicket (Waiting t) n = t ≡ n
  HasTicket (InTurn t list lent) n = t ≡ n
  HasTicket _ n = ⊥

module _ {E X : Type 0} where
  -- The view at this place has the ticket n.
  abbrev pub IsWaiting : List (View E X) → ℕ → ℕ → Type 0
  IsWaiting views j n = (v : View E X) × (get_elem? views j ≡ maybe.some v) × HasTicket v.stage n

  -- Some pass has seen all.
  abbrev pub IsWhole : Now E X → List (View E X) → Type 0
  IsWhole now views =
      (j : ℕ) × (v : View E X) × (get_elem? views j ≡ maybe.some v) × (v.setting ≡ Some now.setting) × (v.seen ≡ now.history)

module _ {T E X : Type 0} (C : Ghosts T E X) where
  module _ (now : Now E X) where
    -- The stage of the seat j agrees with the words and the history.
    abbrev pub FitsStage : ℕ → Stage E → Type 0
    FitsStage j Unopened = ⊥
    FitsStage j Placing = ⊥
    FitsStage j Idle = Unit {0}
    FitsStage j (Waiting t) = (now.serve ≤ t) × (t < now.tick) × (now.owner t ≡ j)
    FitsStage j (InTurn t list lent) = (t ≡ now.serve) × (t < now.tick) × (now.owner t ≡ j) × (list ≡ now.history) × (lent ≡ now.lending)
    FitsStage j (Met a b) = StartsWith now.history a × StartsWith now.history b

    -- What holds of the view of a pass.
    pub record IsLive (j : ℕ) (v : View E X) : Type 0 where
      pub setting : v.setting ≡ Some now.setting
      pub start : v.start ≡ now.start
      pub seen : StartsWith now.history v.seen
      pub stage : FitsStage j v.stage
      pub climbs : Climbs now.start v.mine (length v.seen)
      pub word : 0 < length v.share
      pub still : C.frozen ≡ true → v.carries ≡ true → now.history ≡ v.seen
      pub since : C.frozen ≡ false → v.carries ≡ true → LentSince C v.seen now.history

    -- Each view is spent or that of a pass.
    abbrev pub Fits : ℕ → View E X → Type 0
    Fits j v = (v ≡ spent_view) ⊎ IsLive j v

    -- The seat at which a pass has the turn.
    abbrev pub IsInTurn : List (View E X) → Type 0
    IsInTurn views =
        (v : View E X) × (get_elem? views (now.owner now.serve) ≡ maybe.some v)
        × (t : ℕ) × (list : List E) × (lent : Bool) × (v.stage ≡ InTurn t list lent)

    -- The slot: the state at home is of the history, and it is out only with a pass that has the turn.
    abbrev pub FitsSlot : List (View E X) → maybe.Option (Option (Turn T E)) → Type 0
    FitsSlot views maybe.none = IsInTurn views
    FitsSlot views (maybe.some None) = ⊥
    FitsSlot views (maybe.some (Some turn)) =
        C.is_state_of turn.state now.history now.setting × (C.lent turn.state ≡ now.lending) × (turn.added ≡ None)

  -- The gate is in use.
  pub record IsInUse (s : State (Option (Turn T E)) (View E X)) : Type 0 where
    pub now : Now E X
    pub slot : maybe.Option (Option (Turn T E))
    pub words : s.words ≡ now.tick ∷ now.serve ∷ length now.history ∷ []
    pub homes : s.homes ≡ slot ∷ []
    pub order : now.serve ≤ now.tick
    pub small : now.tick < 2 ^ 64
    pub began : now.start ≤ length now.history
    -- the slot, which is out while a pass has the turn
    pub state : FitsSlot now s.views slot
    pub away : (j : ℕ) (v : View E X) → get_elem? s.views j ≡ maybe.some v → is_turn v.stage ≡ true → slot ≡ maybe.none
    -- each view, and some view that has seen all
    pub seats : (j : ℕ) (v : View E X) → get_elem? s.views j ≡ maybe.some v → Fits now j v
    pub whole : IsWhole now s.views
    -- each ticket from the one that has the turn on is that of one view
    pub waits : (n : ℕ) → now.serve ≤ n → n < now.tick → IsWaiting s.views (now.owner n) n
    -- each number given is one view's own, each path is met by one word, and one view carries the part if it is lent
    pub numbers : (n : ℕ) → total (λ (v : View E X). times n v.mine) s.views ≡ given now.start (length now.history) n
    pub paths : (path : ℕ → Bool) → total (λ (v : View E X). on_path path v.share) s.views ≡ 1
    pub carriers : total (λ (v : View E X). one v.carries) s.views ≡ one now.lending

  -- The state is not yet at the gate.
  pub record IsUnopened (s : State (Option (Turn T E)) (View E X)) : Type 0 where
    pub words : s.words ≡ 0 ∷ 0 ∷ 0 ∷ []
    pub first :
        ((s.views ≡ blank Unopened ∷ []) × (s.homes ≡ maybe.some None ∷ []))
        ⊎ ((s.views ≡ blank Placing ∷ []) × (s.homes ≡ maybe.none ∷ []))

  abbrev pub Rule : State (Option (Turn T E)) (View E X) → Type 0
  Rule s = IsUnopened s ⊎ IsInUse s
