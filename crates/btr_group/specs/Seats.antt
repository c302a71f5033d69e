-- What contracts see of a group and a seat: what the seat has seen, which items of the list are its own, its share, and the setting.
use Rattle.std.specs.Prelude.{◌≡◌, ℕ, Bool, true, List, [], ◌++◌, length, Some}
use Rattle.btr_disk.specs.declared.disk.Disk.{Ghosts}
use Rattle.btr_gate.specs.Prefixes.{StartsWith, longer}
use Rattle.btr_gate.specs.Shares.{covers, kept_half, other_half}
use Rattle.btr_gate.specs.Numbers.{merged, times, given, Climbs}
use Rattle.btr_gate.specs.Gates.{IsPassOf, view}
use Rattle.btr_hall.specs.declared.session.Session.{Session}
use Rattle.btr_hall.specs.declared.group_item.GroupItem.{GroupItem}
use Rattle.btr_group.specs.declared.group.Group.{Group}
use Rattle.btr_group.specs.declared.group.GroupSetting.{GroupSetting}
use Rattle.btr_group.specs.declared.group.Seat.{Seat}

module _ {D : Type 0} {disk : Ghosts D} where
  -- The session with which the group began.
  abbrev pub first_session : Group D disk → Session D disk
  first_session group = group.start.value

  -- The session with which the group began, its stream, and the number of points at which a batch is led.
  abbrev pub setting_of : Group D disk → GroupSetting D disk
  setting_of group = record { session = first_session group; stream = group.stream; threshold = group.threshold }

  -- The seat is one of this group.
  pub record IsGroupSeat (group : Group D disk) (s : Seat D disk) : Type 0 where
    pub own : IsPassOf group.gate s.pass
    pub set : (view s.pass).setting ≡ Some (setting_of group)

  -- The list as the seat has seen it last.
  abbrev pub seen_by : Seat D disk → List GroupItem
  seen_by s = (view s.pass).seen

  -- The numbers of its own items in the list, from 1 on, in rising order.
  abbrev pub own_items : Seat D disk → List ℕ
  own_items s = (view s.pass).mine

  -- Its share. The shares of all seats of a group together cover.
  abbrev pub share_by : Seat D disk → List (List Bool)
  share_by s = (view s.pass).share

  -- The number of items when the group began, which is 0.
  abbrev pub items_at_start : Seat D disk → ℕ
  items_at_start s = (view s.pass).start

  -- The seat is the only one of its group.
  abbrev pub HasWholeShare : Seat D disk → Type 0
  HasWholeShare s = covers (share_by s) ≡ true

  -- The share of a seat, and the number of items when its group began, are as before.
  pub record IsSameGroupSeat (old new : Seat D disk) : Type 0 where
    pub share : share_by new ≡ share_by old
    pub start : items_at_start new ≡ items_at_start old

  -- A group that began with this session, for this stream, and its first seat: it has seen the empty list, and has the whole share.
  pub record BeginsGroup (session : Session D disk) (stream threshold : ℕ) (group : Group D disk) (s : Seat D disk) : Type 0 where
    pub seat : IsGroupSeat group s
    pub setting : setting_of group ≡ record { session = session; stream = stream; threshold = threshold }
    pub seen : seen_by s ≡ []
    pub own : own_items s ≡ []
    pub start : items_at_start s ≡ 0
    pub whole : HasWholeShare s

  -- A seat is split: both have seen the same, and each has half of the share. The new one has no items of its own.
  pub record SplitsSeat (old new other : Seat D disk) : Type 0 where
    pub seen : seen_by new ≡ seen_by old
    pub own : own_items new ≡ own_items old
    pub share : share_by new ≡ kept_half (share_by old)
    pub start : items_at_start new ≡ items_at_start old
    pub other_seen : seen_by other ≡ seen_by old
    pub other_own : own_items other ≡ []
    pub other_share : share_by other ≡ other_half (share_by old)
    pub other_start : items_at_start other ≡ items_at_start old

  -- A seat takes in another: it has seen the longer list, with which neither is at odds, and has the items and the shares of both.
  pub record MeetsSeat (old other new : Seat D disk) : Type 0 where
    pub seen : seen_by new ≡ longer (seen_by old) (seen_by other)
    pub this : StartsWith (seen_by new) (seen_by old)
    pub that : StartsWith (seen_by new) (seen_by other)
    pub own : own_items new ≡ merged (own_items old) (own_items other)
    pub share : share_by new ≡ share_by old ++ share_by other
    pub start : items_at_start new ≡ items_at_start old

  -- The seat has the number of each item of its list once, in rising order.
  pub record HasEachItemOnce (s : Seat D disk) : Type 0 where
    pub once : (n : ℕ) → times n (own_items s) ≡ given (items_at_start s) (length (seen_by s)) n
    pub climbs : Climbs (items_at_start s) (own_items s) (length (seen_by s))
