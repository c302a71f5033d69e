-- What contracts see of a hall and a session: what the session has seen, which entries are its own, its share, and its engine.
use Rattle.std.specs.Prelude.{◌≡◌, ℕ, ◌+◌, ◌≤◌, Bool, true, false, List, [], ◌++◌, length, Option, Some, None, if◌then◌else◌}
use Rattle.btr_hist.specs.declared.entry.Entry.{Entry}
use Rattle.btr_disk.specs.declared.disk.Disk.{Ghosts}
use Rattle.btr_engine.specs.declared.engine.Engine.{Engine}
use Rattle.btr_engine.specs.Engine.{entries_of, is_stopped, IsAtRest, IsDurable}
use Rattle.btr_gate.specs.Prefixes.{StartsWith, longer}
use Rattle.btr_gate.specs.Shares.{covers, kept_half, other_half}
use Rattle.btr_gate.specs.Numbers.{merged, times, given, Climbs}
use Rattle.btr_gate.specs.Gates.{IsPassOf, view}
use Rattle.btr_hall.specs.declared.item.Item.{Item}
use Rattle.btr_hall.specs.declared.session.Hall.{Hall}
use Rattle.btr_hall.specs.declared.session.Session.{Session}
use Rattle.btr_hall.specs.Trace.{engine_after, IsTraceOf, history_of, in_flight_in, stopped_in}

module _ {D : Type 0} {disk : Ghosts D} where
  -- The engine with which the hall began.
  abbrev pub opening_of : Hall D disk → Engine D disk
  opening_of hall = hall.opening.value

  -- The session is one of this hall.
  pub record IsSessionOf (hall : Hall D disk) (s : Session D disk) : Type 0 where
    pub own : IsPassOf hall.gate s.pass
    pub set : (view s.pass).setting ≡ Some (opening_of hall)

  -- The list as the session has seen it last.
  abbrev pub seen_of : Session D disk → List (Item D disk)
  seen_of s = (view s.pass).seen

  -- The numbers of its own items in the list, from 1 on, in rising order.
  abbrev pub mine_of : Session D disk → List ℕ
  mine_of s = (view s.pass).mine

  -- Its share. The shares of all sessions of a hall together cover.
  abbrev pub share_of : Session D disk → List (List Bool)
  share_of s = (view s.pass).share

  -- The number of entries when the hall began.
  abbrev pub entries_at_start : Session D disk → ℕ
  entries_at_start s = (view s.pass).start

  -- The number of turns that it has had.
  abbrev pub turns_of : Session D disk → ℕ
  turns_of s = (view s.pass).turns

  -- The session has had one turn more.
  abbrev pub HasOneTurn : Session D disk → Session D disk → Type 0
  HasOneTurn old new = turns_of new ≡ turns_of old + 1

  -- The session has had one turn more, or several, and another one for each item that it added, in which the log came back.
  abbrev pub HasTurns : Session D disk → Session D disk → Type 0
  HasTurns old new = turns_of old + 1 + length (mine_of new) ≤ turns_of new + length (mine_of old)

  -- The engine at the end of what the session has seen.
  abbrev pub engine_of : Hall D disk → Session D disk → Engine D disk
  engine_of hall s = engine_after (opening_of hall) (seen_of s)

  -- The session is the only one of its hall.
  abbrev pub IsAlone : Session D disk → Type 0
  IsAlone s = covers (share_of s) ≡ true

  -- The share of a session, and the number of entries when its hall began, are as before.
  pub record IsSame (old new : Session D disk) : Type 0 where
    pub share : share_of new ≡ share_of old
    pub start : entries_at_start new ≡ entries_at_start old

  -- A hall that began with this engine, and its first session: it has seen the entries of the engine, and is alone.
  pub record Begins (x : Engine D disk) (hall : Hall D disk) (s : Session D disk) : Type 0 where
    pub session : IsSessionOf hall s
    pub opening : opening_of hall ≡ x
    pub engine : engine_of hall s ≡ x
    pub trace : IsTraceOf x (seen_of s)
    pub seen : length (seen_of s) ≡ entries_of x
    pub start : entries_at_start s ≡ entries_of x
    pub mine : mine_of s ≡ []
    pub turns : turns_of s ≡ 0
    pub alone : IsAlone s

  -- One turn, which adds nothing: the session has seen the list of the turn, which begins with all that it had seen.
  pub record Looks (hall : Hall D disk) (old new : Session D disk) : Type 0 where
    pub turn : HasOneTurn old new
    pub same : IsSame old new
    pub mine : mine_of new ≡ mine_of old
    pub grows : StartsWith (seen_of new) (seen_of old)
    pub trace : IsTraceOf (opening_of hall) (seen_of new)
    pub alone : IsAlone old → seen_of new ≡ seen_of old

  -- A session is split: both have seen the same, and each has half of the share. The new one has no items of its own, and has had no
  -- turn.
  pub record Splits (old new other : Session D disk) : Type 0 where
    pub seen : seen_of new ≡ seen_of old
    pub mine : mine_of new ≡ mine_of old
    pub share : share_of new ≡ kept_half (share_of old)
    pub start : entries_at_start new ≡ entries_at_start old
    pub turns : turns_of new ≡ turns_of old
    pub other_seen : seen_of other ≡ seen_of old
    pub other_mine : mine_of other ≡ []
    pub other_share : share_of other ≡ other_half (share_of old)
    pub other_start : entries_at_start other ≡ entries_at_start old
    pub other_turns : turns_of other ≡ 0

  -- A session takes in another: it has seen the longer list, with which neither is at odds, and has the items and the shares of both. Its
  -- turns are its own.
  pub record Meets (old other new : Session D disk) : Type 0 where
    pub seen : seen_of new ≡ longer (seen_of old) (seen_of other)
    pub this : StartsWith (seen_of new) (seen_of old)
    pub that : StartsWith (seen_of new) (seen_of other)
    pub mine : mine_of new ≡ merged (mine_of old) (mine_of other)
    pub share : share_of new ≡ share_of old ++ share_of other
    pub start : entries_at_start new ≡ entries_at_start old
    pub turns : turns_of new ≡ turns_of old

  -- The session has the number of each item that was added since the hall began, once, in rising order.
  pub record HasEachOnce (s : Session D disk) : Type 0 where
    pub once : (n : ℕ) → times n (mine_of s) ≡ given (entries_at_start s) (length (seen_of s)) n
    pub climbs : Climbs (entries_at_start s) (mine_of s) (length (seen_of s))

  -- The number of entries of an engine, if it is stopped.
  abbrev pub stopped_at : Engine D disk → Option ℕ
  stopped_at e = if is_stopped e then Some (entries_of e) else None

  -- The number of entries after a list, if the engine is stopped then. The hall began with this history and this engine.
  abbrev pub stopped_after : List Entry → Engine D disk → List (Item D disk) → Option ℕ
  stopped_after h first seen = if stopped_in first seen then Some (length (history_of h seen)) else None

  -- What a crash may leave after a list is what it may leave after the steps of one engine. The hall began with the first engine, and the
  -- last one is that after the list.
  abbrev pub StaysDurable : Engine D disk → List (Item D disk) → Engine D disk → Type 0
  StaysDurable first seen last =
      (h more : List Entry) (calls entries : ℕ) → (is_stopped first ≡ false → IsAtRest h first) → IsDurable h calls entries first more
      → IsDurable (history_of h seen) calls entries last (in_flight_in more seen)
