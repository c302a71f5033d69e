-- What a pass knows, as plain data: the views of passes, and the views after a turn, a split and a meeting.
use Rattle.std.specs.Prelude.{ℕ, ◌+◌, Bool, true, false, not, ◌&&◌, ◌||◌, List, [], ◌∷◌, ◌++◌, length, Option, None, Some}
use Rattle.btr_gate.specs.declared.view.View.{View}
use Rattle.btr_gate.specs.declared.view.Stage.{Stage}
use Rattle.btr_gate.specs.declared.view.Stage.TheVariants.{Idle, InTurn, Met}
use Rattle.btr_gate.specs.Prefixes.{longer}
use Rattle.btr_gate.specs.Shares.{kept_half, other_half}
use Rattle.btr_gate.specs.Numbers.{merged}

module _ {E : Type 0} where
  -- Whether the stage is a turn.
  abbrev pub is_turn : Stage E → Bool
  is_turn (InTurn t list lent) = true
  is_turn _ = false

  -- The list of entries at the start of the turn.
  abbrev pub list_of : Stage E → List E
  list_of (InTurn t list lent) = list
  list_of _ = []

  -- Whether the state had lent its part at the start of the turn.
  abbrev pub lent_of : Stage E → Bool
  lent_of (InTurn t list lent) = lent
  lent_of _ = false

  -- A list with one more entry, if there is one.
  abbrev pub with_entry : List E → Option E → List E
  with_entry list None = list
  with_entry list (Some e) = list ++ e ∷ []

  -- The numbers with that of an entry that follows the list, if there is one.
  abbrev pub with_number : List ℕ → List E → Option E → List ℕ
  with_number mine list None = mine
  with_number mine list (Some e) = mine ++ (length list + 1) ∷ []

module _ {E X : Type 0} where
  -- A view that knows nothing, at a stage.
  abbrev pub blank : Stage E → View E X
  blank stage = record { seen = []; mine = []; share = []; setting = None; start = 0; turns = 0; carries = false; stage = stage }

  -- The view that is left of a pass that met another.
  abbrev pub spent_view : View E X
  spent_view = blank Idle

  -- The view of the first pass: it has seen the entries of the state, has the whole share, none of the entries are its own, and it has
  -- had no turn.
  abbrev pub opened : List E → X → View E X
  opened list setting =
      record (blank Idle) { seen = list; share = [] ∷ []; setting = Some setting; start = length list }

  -- The view at another stage.
  abbrev pub at_stage : View E X → Stage E → View E X
  at_stage v stage = record v { stage = stage }

  -- The view at another stage, with one turn more.
  abbrev pub next_turn : View E X → Stage E → View E X
  next_turn v stage = record v { turns = v.turns + 1; stage = stage }

  -- The pass has the turn.
  abbrev pub has_turn : View E X → Bool
  has_turn v = is_turn v.stage

  -- The list of entries of the pass's turn.
  abbrev pub turn_list : View E X → List E
  turn_list v = list_of v.stage

  -- Whether the state of the pass's turn has lent its part.
  abbrev pub turn_lent : View E X → Bool
  turn_lent v = lent_of v.stage

  -- The list after a turn that adds this.
  abbrev pub list_after : View E X → Option E → List E
  list_after v added = with_entry (turn_list v) added

  -- The pass's own numbers after a turn that adds this.
  abbrev pub mine_after : View E X → Option E → List ℕ
  mine_after v added = with_number v.mine (turn_list v) added

  -- Whether a pass carries the part after its turn: the state has lent it, and the pass carried it before or the part was not lent.
  abbrev pub carries_after : View E X → Bool → Bool
  carries_after v lent = lent && (v.carries || not (turn_lent v))

  -- What a view keeps when it is split: the first half of its share, and all else.
  abbrev pub kept_view : View E X → View E X
  kept_view v = record v { share = kept_half v.share }

  -- The view of the new pass of a split: the other half of the share, no numbers, no turns, and all else.
  abbrev pub other_view : View E X → View E X
  other_view v = record v { mine = []; share = other_half v.share; turns = 0 }

  -- The view of a pass that met another: the longer list, the numbers and the words of both. The turns are those of the first.
  abbrev pub joined : View E X → View E X → View E X
  joined v u = record v { seen = longer v.seen u.seen; mine = merged v.mine u.mine; share = v.share ++ u.share }

  -- The same, with both lists remembered until the next step.
  abbrev pub just_met : View E X → View E X → View E X
  just_met v u = at_stage (joined v u) (Met v.seen u.seen)
