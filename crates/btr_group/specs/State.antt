-- Of which list the state is that the gate of a group carries, and what its turns make of it.
use Rattle.std.specs.Prelude.{◌≡◌, ℕ, ◌+◌, Bool, not, ◌&&◌, nat_le, List, [], ◌∷◌, ◌++◌, length, map, Option, None, Some}
use Rattle.std.specs.Option.{is_some}
use Rattle.btr_base.specs.declared.point.Point.{Point}
use Rattle.btr_base.specs.Bag.{sort}
use Rattle.btr_disk.specs.declared.disk.Disk.{Ghosts}
use Rattle.btr_feed.specs.Feed.{FeedValue}
use Rattle.btr_hall.specs.declared.session.Session.{Session}
use Rattle.btr_hall.specs.declared.group_item.GroupItem.{GroupItem}
use Rattle.btr_group.specs.declared.group.GroupSetting.{GroupSetting}
use Rattle.btr_group.specs.declared.group.SettledBatch.{SettledBatch}
use Rattle.btr_group.specs.declared.state.GroupState.{GroupState}
use Rattle.btr_group.specs.declared.led.Led.{Led}
use Rattle.btr_hall.specs.GroupBook.{SettledValue, Book, all_points, tickets_given, led_batches, Tiles, book}
use Rattle.btr_hall.specs.GroupCalls.{feed_of_group}
use Rattle.btr_group.specs.Serves.{HasCommitted}

-- The note of a settled batch.
abbrev pub note_of : SettledValue → SettledBatch
note_of s = record {
  first = s.batch.first;
  tickets = length s.batch.offers;
  points = sort (all_points s.batch.offers);
  outcome = s.outcome;
}

-- A feed with more points.
abbrev pub with_added : FeedValue → List Point → FeedValue
with_added f points = record f { points = f.points ++ points }

-- What a state has. The session with which the group began is for contracts alone.
pub record StateValue (D : Type 0) (disk : Ghosts D) : Type 0 where
  pub start : Session D disk
  pub session : Option (Session D disk)
  pub filling : FeedValue
  pub first : ℕ
  pub given : ℕ
  pub settled : List SettledBatch
  pub items : ℕ

module _ {D : Type 0} {disk : Ghosts D} where
  abbrev pub state_value : GroupState D disk → StateValue D disk
  state_value s = record {
    start = s.start.value;
    session = s.session;
    filling = s.filling;
    first = s.first;
    given = s.given;
    settled = s.settled.items;
    items = s.items;
  }

  -- ---- what a turn makes of a state

  -- One more offer is in the open batch.
  abbrev pub with_offer : StateValue D disk → List Point → StateValue D disk
  with_offer v points = record v { filling = with_added v.filling points; given = v.given + 1; items = v.items + 1 }

  -- The open batch and the session are out.
  abbrev pub without_batch : StateValue D disk → StateValue D disk
  without_batch v = record v { session = None; filling = record v.filling { points = [] }; first = v.given }

  -- The same, by an item of its own.
  abbrev pub with_lead : StateValue D disk → StateValue D disk
  with_lead v = record (without_batch v) { items = v.items + 1 }

  -- The session is at home again, and the batch that was out is settled.
  abbrev pub with_settled : StateValue D disk → Session D disk → SettledBatch → StateValue D disk
  with_settled v session note = record v { session = Some session; settled = v.settled ++ note ∷ []; items = v.items + 1 }

  -- The offer of these points leads: the open batch has then reached the threshold, and the session is at home.
  abbrev pub leads_in : StateValue D disk → List Point → Bool
  leads_in v points = is_some v.session && nat_le v.filling.threshold (length (v.filling.points ++ points))

  -- The session and the open batch of a state.
  pub record IsLed (v : StateValue D disk) (led : Led D disk) : Type 0 where
    pub session : v.session ≡ Some led.session
    pub first : led.first ≡ v.first
    pub tickets : led.first + led.tickets ≡ v.given
    pub points : led.points.items ≡ v.filling.points

  -- ---- of which list a state is

  -- The state is of a list of n items that comes to b, in a group with this setting.
  pub record IsStateAt (v : StateValue D disk) (n : ℕ) (b : Book) (x : GroupSetting D disk) : Type 0 where
    pub setting : x ≡ record { session = v.start; stream = v.filling.stream; threshold = v.filling.threshold }
    pub items : v.items ≡ n
    pub filling : v.filling ≡ feed_of_group x.stream x.threshold b
    pub first : v.first ≡ b.first
    pub given : v.given ≡ tickets_given b
    pub settled : v.settled ≡ map note_of b.settled
    pub lent : not (is_some v.session) ≡ is_some b.out
    pub served : HasCommitted x.stream x.session b.settled v.session
    pub tiles : Tiles 0 (led_batches b) b.first

  abbrev pub IsGroupAt : GroupState D disk → List GroupItem → GroupSetting D disk → Type 0
  IsGroupAt s items x = IsStateAt (state_value s) (length items) (book items) x
