-- What a turn, its end and the close of a gate promise: facts of a state, of the view before and of the view after.
use Rattle.std.specs.Prelude.{◌≡◌, ℕ, ◌+◌, Bool, true, false, List, length, Option, None, Some}
use Rattle.btr_gate.specs.declared.chronicle.Chronicle.{Ghosts}
use Rattle.btr_gate.specs.declared.view.View.{View}
use Rattle.btr_gate.specs.declared.view.Stage.TheVariants.{Idle}
use Rattle.btr_gate.specs.declared.turn.Turn.{Turn}
use Rattle.btr_gate.specs.Prefixes.{StartsWith}
use Rattle.btr_gate.specs.Shares.{covers}
use Rattle.btr_gate.specs.Numbers.{times, given, Climbs}
use Rattle.btr_gate.specs.Views.{has_turn, turn_list, turn_lent, list_after, mine_after, carries_after}

module _ {E X : Type 0} where
  -- The pass has its turn, which is one turn more. Of what it knows nothing else changed.
  pub record Enters (v w : View E X) : Type 0 where
    pub turn : has_turn w ≡ true
    pub turns : w.turns ≡ v.turns + 1
    pub seen : w.seen ≡ v.seen
    pub mine : w.mine ≡ v.mine
    pub share : w.share ≡ v.share
    pub setting : w.setting ≡ v.setting
    pub start : w.start ≡ v.start
    pub carries : w.carries ≡ v.carries

  -- The turn has ended: the pass has seen its list with the entry that it added, and the number of that entry is its own.
  pub record Leaves (v : View E X) (added : Option E) (lent : Bool) (w : View E X) : Type 0 where
    pub seen : w.seen ≡ list_after v added
    pub mine : w.mine ≡ mine_after v added
    pub share : w.share ≡ v.share
    pub setting : w.setting ≡ v.setting
    pub start : w.start ≡ v.start
    pub turns : w.turns ≡ v.turns
    pub carries : w.carries ≡ carries_after v lent
    pub idle : w.stage ≡ Idle

  -- The passes in one history: each list that was seen begins the longer one.
  pub record HaveOneHistory (v u w : View E X) : Type 0 where
    pub this : StartsWith w.seen v.seen
    pub that : StartsWith w.seen u.seen

module _ {T E X : Type 0} (C : Ghosts T E X) where
  -- The state is of the list under the setting, if there is one.
  abbrev pub IsStateOf : T → List E → Option X → Type 0
  IsStateOf t list (Some x) = C.is_state_of t list x
  IsStateOf t list None = ⊥

  -- A state of each list from `seen` to `list` has lent its part.
  abbrev pub LentSince : List E → List E → Type 0
  LentSince seen list = (l : List E) → StartsWith l seen → StartsWith list l → C.lent_after l ≡ true

  -- What a turn gets: the state of a list that begins with all that the pass had seen.
  pub record Takes (v w : View E X) (turn : Turn T E) : Type 0 where
    pub state : IsStateOf turn.state (turn_list w) v.setting
    pub none : turn.added ≡ None
    pub lent : C.lent turn.state ≡ turn_lent w
    pub begins : StartsWith (turn_list w) v.seen
    pub climbs : Climbs v.start v.mine (length v.seen)
    pub carrier : v.carries ≡ true → turn_lent w ≡ true
    pub still : C.frozen ≡ true → v.carries ≡ true → turn_list w ≡ v.seen
    pub since : C.frozen ≡ false → v.carries ≡ true → LentSince v.seen (turn_list w)
    pub alone : covers v.share ≡ true → turn_list w ≡ v.seen

  -- What the last pass gets when the gate is closed: the state of all that it has seen, and each number given is its own.
  pub record Closes (v : View E X) (state : T) : Type 0 where
    pub of : IsStateOf state v.seen v.setting
    pub home : C.lent state ≡ false
    pub once : (n : ℕ) → times n v.mine ≡ given v.start (length v.seen) n
    pub climbs : Climbs v.start v.mine (length v.seen)
