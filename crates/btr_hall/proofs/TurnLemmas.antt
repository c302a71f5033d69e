-- Lemmas on the turns of sessions: the state that a session gets and hands back, and a turn that adds nothing.
use Rattle.std.specs.Prelude.{◌≡◌, Bool, true, false, not, List, length, Option, Some, None, if◌then◌else◌}
use Rattle.std.proofs.Common.{refl, sym, ap, ◌∙◌, subst}
use Rattle.btr_disk.specs.declared.disk.Disk.{Ghosts}
use Rattle.btr_hist.specs.declared.entry.Entry.{Entry}
use Rattle.btr_engine.specs.declared.engine.Engine.{Engine}
use Rattle.btr_streams.specs.Board.{IsBoardOf}
use Rattle.btr_super.specs.Super.{has_seal}
use Rattle.btr_engine.specs.Engine.{is_stopped, is_sealed, IsEngineOf}
use Rattle.btr_engine.specs.Travel.{IsLike}
use Rattle.btr_gate.specs.declared.view.View.{View}
use Rattle.btr_gate.specs.Gates.{view}
use Rattle.btr_gate.specs.Prefixes.{StartsWith}
use Rattle.btr_gate.specs.Shares.{covers}
use Rattle.btr_gate.specs.Turns.{Enters, Leaves}
use Rattle.btr_gate.specs.Views.{turn_list, with_entry, with_number}
use Rattle.btr_hall.specs.declared.item.Item.{Item}
use Rattle.btr_hall.specs.declared.store.Store.{Store}
use Rattle.btr_hall.specs.declared.session.Hall.{Hall}
use Rattle.btr_hall.specs.declared.session.Session.{Session}
use Rattle.btr_hall.specs.Trace.{IsTraceOf, engine_after, history_of, stopped_in}
use Rattle.btr_hall.specs.Store.{IsStoreOf}
use Rattle.btr_hall.specs.Session.{IsSame, Looks, opening_of, seen_of, mine_of, stopped_at}
use Rattle.btr_hall.proofs.TraceLemmas.{engine_of_list, stopped_of_list, sealed_of_list}

-- What is not out is at home.
pub not_out : {b : Bool} → not b ≡ false → b ≡ true
not_out {b = true} is = refl
not_out {b = false} is = absurd (cc)

module _ {D : Type 0} {disk : Ghosts D} where
  -- The store is of the list under the setting, if there is one.
  abbrev OfSetting : Store D disk → List (Item D disk) → Option (Engine D disk) → Type 0
  OfSetting s l None = ⊥
  OfSetting s l (Some x) = IsStoreOf s l x

  -- ---- the state of a turn

  pub state_in : (s : Store D disk) (l : List (Item D disk)) (o : Option (Engine D disk)) (x : Engine D disk) → o ≡ Some x → OfSetting s l o → IsStoreOf s l x
  state_in s l o x set of = subst (OfSetting s l) set of

  pub state_out : (s : Store D disk) (l : List (Item D disk)) (o : Option (Engine D disk)) (x : Engine D disk) → o ≡ Some x → IsStoreOf s l x → OfSetting s l o
  state_out s l o x set of = subst (OfSetting s l) (sym set) of

  -- The state is handed back as it is, with nothing added.
  pub state_still : (s : Store D disk) (l : List (Item D disk)) (added : Option (Item D disk)) (o : Option (Engine D disk)) (x : Engine D disk) → added ≡ None → o ≡ Some x → IsStoreOf s l x → OfSetting s (with_entry l added) o
  state_still s l added o x none set of =
      subst (λ a. OfSetting s (with_entry l a) o) (sym none) (state_out s l o x set of)

  -- The engine of a turn is of the history of its list.
  pub turn_engine : (h : List Entry) (s : Store D disk) (l : List (Item D disk)) (x : Engine D disk) → IsStoreOf s l x → IsEngineOf h x → IsEngineOf (history_of h l) s.engine
  turn_engine h s l x of with_h = subst (IsBoardOf (history_of h l)) (sym of.engine.board) (engine_of_list h x l with_h of.trace)

  -- The engine of a turn is sealed exactly if the one at the beginning was.
  pub turn_sealed : (s : Store D disk) (l : List (Item D disk)) (x : Engine D disk) → IsStoreOf s l x → is_sealed s.engine ≡ is_sealed x
  turn_sealed s l x of = ap has_seal of.engine.chosen ∙ sealed_of_list x l of.trace

  -- ---- the views after a turn

  module _ (v w u : View (Item D disk) (Engine D disk)) (added : Option (Item D disk)) (lent : Bool) (enters : Enters v w) (leaves : Leaves w added lent u) where
    -- The numbers after the turn.
    pub mine_after_turn : u.mine ≡ with_number v.mine (turn_list w) added
    mine_after_turn = leaves.mine ∙ ap (λ m. with_number m (turn_list w) added) enters.mine

    -- The pass has seen the list of the turn, if nothing was added.
    pub seen_after : added ≡ None → u.seen ≡ turn_list w
    seen_after none = leaves.seen ∙ ap (with_entry (turn_list w)) none

    -- The engine of the turn is the one at the end of what the pass has seen.
    pub engine_seen : added ≡ None → (s : Store D disk) (x : Engine D disk) → IsStoreOf s (turn_list w) x → IsLike s.engine (engine_after x u.seen)
    engine_seen none s x of = subst (λ l. IsLike s.engine (engine_after x l)) (sym (seen_after none)) of.engine

    -- That engine is of the history of what the pass has seen.
    pub engine_here : added ≡ None → (h : List Entry) (s : Store D disk) (x : Engine D disk) → IsStoreOf s (turn_list w) x → IsEngineOf h x → IsEngineOf (history_of h u.seen) s.engine
    engine_here none h s x of with_h =
        subst (λ l. IsEngineOf (history_of h l) s.engine) (sym (seen_after none)) (turn_engine h s (turn_list w) x of with_h)

  pub same_after : (old new : Session D disk) (w : View (Item D disk) (Engine D disk)) (added : Option (Item D disk)) (lent : Bool) → Enters (view old.pass) w → Leaves w added lent (view new.pass) → IsSame old new
  same_after old new w added lent enters leaves =
      record { share = leaves.share ∙ enters.share; start = leaves.start ∙ enters.start }

  -- The turn added nothing.
  pub looks_of : (hall : Hall D disk) (old new : Session D disk) (w : View (Item D disk) (Engine D disk)) (added : Option (Item D disk)) (lent : Bool) (s : Store D disk) → Enters (view old.pass) w → Leaves w added lent (view new.pass) → added ≡ None → IsStoreOf s (turn_list w) (opening_of hall) → StartsWith (turn_list w) (seen_of old) → (covers (view old.pass).share ≡ true → turn_list w ≡ seen_of old) → Looks hall old new
  looks_of hall old new w added lent s enters leaves none of begins alone =
      let seen = seen_after (view old.pass) w (view new.pass) added lent enters leaves none in
      record {
        turn = leaves.turns ∙ enters.turns;
        same = same_after old new w added lent enters leaves;
        mine = mine_after_turn (view old.pass) w (view new.pass) added lent enters leaves ∙ ap (with_number (mine_of old) (turn_list w)) none;
        grows = subst (λ l. StartsWith l (seen_of old)) (sym seen) begins;
        trace = subst (IsTraceOf (opening_of hall)) (sym seen) of.trace;
        alone = λ covers. seen ∙ alone covers;
      }

  -- ---- what a look says

  pub stopped_says : (h : List Entry) (x : Engine D disk) (l : List (Item D disk)) → IsEngineOf h x → IsTraceOf x l → stopped_at (engine_after x l) ≡ (if stopped_in x l then Some (length (history_of h l)) else None)
  stopped_says h x l with_h trace =
      let end = engine_of_list h x l with_h trace in
      ap (λ n. if is_stopped (engine_after x l) then Some n else None) end.entries
      ∙ ap (λ (b : Bool). if b then Some (length (history_of h l)) else None) (stopped_of_list x l trace)
