-- What the private calls of a turn promise: of the seat of a pass at the table of a gate, and of its view.
use Rattle.std.specs.Prelude.{◌≡◌, true, false, Option, None}
use Rattle.std.specs.Option.{is_some}
use Rattle.atomic_table.specs.declared.shared.Seat.{Seat}
use Rattle.btr_gate.specs.declared.chronicle.Chronicle.{Ghosts}
use Rattle.btr_gate.specs.declared.view.View.{View}
use Rattle.btr_gate.specs.declared.turn.Turn.{Turn}
use Rattle.btr_gate.specs.declared.gate.Gate.{Gate}
use Rattle.btr_gate.specs.Views.{has_turn, turn_list, turn_lent, list_after, mine_after, carries_after}
use Rattle.btr_gate.specs.Turns.{IsStateOf}
use Rattle.btr_gate.specs.Steps.{holding}

module _ {T E X : Type 0} where
  -- The seat is at the gate's table.
  abbrev pub IsSeatOf : Gate T E X → Seat (Option (Turn T E)) (View E X) → Type 0
  IsSeatOf gate seat = seat.table_id ≡ gate.table.shared.table_id

  -- It is the same seat, with another view or other slots.
  abbrev pub IsSameSeat : Seat (Option (Turn T E)) (View E X) → Seat (Option (Turn T E)) (View E X) → Type 0
  IsSameSeat old new = (new.table_id ≡ old.table_id) × (new.id ≡ old.id)

  -- A pass has its turn, and the empty slot is out with it.
  pub record HasSlot (seat : Seat (Option (Turn T E)) (View E X)) : Type 0 where
    pub live : is_some seat.me.0.setting ≡ true
    pub turn : has_turn seat.me.0 ≡ true
    pub empty : seat.me.1 ≡ holding None

module _ {T E X : Type 0} (C : Ghosts T E X) where
  -- What a pass may hand back: a state of its list, with the entry that it added, if any. If another pass carries the part, the
  -- part stays lent, and if that freezes the list, nothing is added.
  pub record MayLeave (v : View E X) (turn : Turn T E) : Type 0 where
    pub of : IsStateOf C turn.state (list_after v turn.added) v.setting
    pub lent : turn_lent v ≡ true → v.carries ≡ false → C.lent turn.state ≡ true
    pub still : C.frozen ≡ true → turn_lent v ≡ true → v.carries ≡ false → turn.added ≡ None

  -- The view of a turn whose entry was counted, if it has one.
  pub record IsCounted (v : View E X) (turn : Turn T E) (w : View E X) : Type 0 where
    pub list : turn_list w ≡ list_after v turn.added
    pub mine : w.mine ≡ mine_after v turn.added
    pub share : w.share ≡ v.share
    pub setting : w.setting ≡ v.setting
    pub start : w.start ≡ v.start
    pub turns : w.turns ≡ v.turns
    pub carries : carries_after w (C.lent turn.state) ≡ carries_after v (C.lent turn.state)
    pub lent : turn_lent w ≡ true → w.carries ≡ false → C.lent turn.state ≡ true
