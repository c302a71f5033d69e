-- What the private functions promise that take the log of the engine out of a turn and bring it back.
use Rattle.std.specs.Prelude.{◌≡◌, ◌<◌, ◌≤◌, ◌+◌, true, false, List, length, Option, None, Some, Result, Ok, Err}
use Rattle.btr_disk.specs.declared.disk.Disk.{Ghosts}
use Rattle.btr_log.specs.declared.log.Log.{Log}
use Rattle.btr_hist.specs.declared.entry.Entry.{Entry}
use Rattle.btr_engine.specs.declared.engine.Engine.{Engine}
use Rattle.btr_streams.specs.declared.board.Receipt.{Receipt}
use Rattle.btr_engine.specs.declared.step.StepFault.{StepFault}
use Rattle.btr_engine.specs.declared.step.StepFault.TheVariants.{DeviceFault}
use Rattle.btr_engine.specs.declared.travel.Ready.{Ready}
use Rattle.btr_engine.specs.Engine.{log_of, board_of, tail_of, is_home, IsEngineOf}
use Rattle.btr_engine.specs.Travel.{IsLike, IsReadyOn, IsStaged, IsHomeAgain}
use Rattle.btr_gate.specs.declared.view.View.{View}
use Rattle.btr_gate.specs.declared.view.Stage.TheVariants.{Idle}
use Rattle.btr_gate.specs.declared.turn.Turn.{Turn}
use Rattle.btr_gate.specs.Prefixes.{StartsWith}
use Rattle.btr_gate.specs.Shares.{covers}
use Rattle.btr_gate.specs.Views.{has_turn, turn_list, turn_lent, with_entry, with_number}
use Rattle.btr_hall.specs.declared.item.Item.{Item}
use Rattle.btr_hall.specs.declared.item.Item.TheVariants.{Added, Halted}
use Rattle.btr_hall.specs.declared.store.Store.{Store}
use Rattle.btr_hall.specs.Store.{IsStoreOf}
use Rattle.btr_hall.specs.Commit.{shown, Adds}

module _ {D : Type 0} {disk : Ghosts D} where
  -- The pass had turns that added nothing, or none.
  pub record HasWaited (v w : View (Item D disk) (Engine D disk)) : Type 0 where
    pub begins : StartsWith w.seen v.seen
    pub alone : covers v.share ≡ true → w.seen ≡ v.seen
    pub mine : w.mine ≡ v.mine
    pub share : w.share ≡ v.share
    pub setting : w.setting ≡ v.setting
    pub start : w.start ≡ v.start
    pub turns : v.turns ≤ w.turns
    pub carries : w.carries ≡ false
    pub idle : w.stage ≡ Idle

  -- The pass has a turn, after other turns that added nothing, or none. The store of this turn has its log at home, in a hall that began
  -- with this engine.
  pub record Gets (x : Engine D disk) (v w : View (Item D disk) (Engine D disk)) (taken : Turn (Store D disk) (Item D disk)) : Type 0 where
    pub turn : has_turn w ≡ true
    pub turns : v.turns < w.turns
    pub begins : StartsWith (turn_list w) v.seen
    pub alone : covers v.share ≡ true → turn_list w ≡ v.seen
    pub mine : w.mine ≡ v.mine
    pub share : w.share ≡ v.share
    pub setting : w.setting ≡ v.setting
    pub start : w.start ≡ v.start
    pub carries : w.carries ≡ false
    pub lent : turn_lent w ≡ false
    pub none : taken.added ≡ None
    pub state : IsStoreOf taken.state (turn_list w) x
    pub home : is_home taken.state.engine ≡ true

  -- The pass has a turn, whose store has its log at home, in a hall that began with this engine.
  pub record HasHomeTurn (x : Engine D disk) (v : View (Item D disk) (Engine D disk)) (taken : Turn (Store D disk) (Item D disk))
      : Type 0 where
    pub turn : has_turn v ≡ true
    pub setting : v.setting ≡ Some x
    pub carries : v.carries ≡ false
    pub lent : turn_lent v ≡ false
    pub none : taken.added ≡ None
    pub state : IsStoreOf taken.state (turn_list v) x
    pub home : is_home taken.state.engine ≡ true

  -- The log is out of the store, and this was made ready for the entry, to be written to the log.
  pub record TakesOut (old new : Store D disk) (e : Entry) (l : Log D disk) (r : Ready) : Type 0 where
    pub log_is : l ≡ log_of old.engine
    pub out : is_home new.engine ≡ false
    pub like : IsLike new.engine old.engine
    pub opening : new.opening ≡ old.opening
    pub halted : new.halted ≡ old.halted
    pub ready : IsReadyOn old.engine e r
    pub staged : (h : List Entry) → IsEngineOf h old.engine → IsStaged h (board_of old.engine) (tail_of old.engine) e r

  -- The log is back in the store, after a write with this result: with the entry, or with the halt of a device that failed.
  abbrev pub Brings : {A B : Type 0} → Store D disk → Store D disk → Log D disk → Ready → Entry → Result A B
      → Result Receipt StepFault → Option (Item D disk) → Type 0
  Brings old new l r e (Ok written) result added =
      (receipt : Receipt) × (result ≡ Ok receipt) × IsHomeAgain old.engine l (Some r) new.engine (Some receipt)
      × (new.opening ≡ old.opening) × (new.halted ≡ old.halted) × (added ≡ Some (Added (shown e) (shown new.engine)))
  Brings old new l r e (Err failed) result added =
      (none : Option Receipt) × (result ≡ Err DeviceFault) × IsHomeAgain old.engine l None new.engine none
      × (new.opening ≡ old.opening) × (new.halted ≡ true) × (added ≡ Some (Halted (shown e) (shown new.engine)))

  -- The pass added an entry, or was refused, in a turn with this store and in those after it. Its view was `v` in that turn. No other pass
  -- has added an item in between. If it added an item, it had another turn.
  pub record AddsIn (v w : View (Item D disk) (Engine D disk)) (s : Store D disk) (e : Entry) (result : Result Receipt StepFault)
      : Type 0 where
    pub new : Store D disk
    pub added : Option (Item D disk)
    pub adds : Adds s new e result added
    pub seen : w.seen ≡ with_entry (turn_list v) added
    pub mine : w.mine ≡ with_number v.mine (turn_list v) added
    pub share : w.share ≡ v.share
    pub setting : w.setting ≡ v.setting
    pub start : w.start ≡ v.start
    pub turns : v.turns + length w.mine ≤ w.turns + length v.mine
    pub carries : w.carries ≡ false
    pub idle : w.stage ≡ Idle
