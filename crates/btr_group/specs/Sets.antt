-- The groups of one hall, one for each stream from 0 on, and seats of them.
use Rattle.std.specs.Prelude.{◌≡◌, ℕ, zero, suc, Bool, List, [], ◌∷◌, length}
use Rattle.std.specs.List.{AllByRecursion}
use Rattle.btr_disk.specs.declared.disk.Disk.{Ghosts}
use Rattle.btr_gate.specs.Shares.{on_path}
use Rattle.btr_hall.specs.declared.session.Hall.{Hall}
use Rattle.btr_hall.specs.declared.session.Session.{Session}
use Rattle.btr_hall.specs.Session.{IsSessionOf, Splits, seen_of, mine_of, share_of, entries_at_start}
use Rattle.btr_hall.specs.GroupCalls.{GroupView, no_items}
use Rattle.btr_group.specs.declared.group.Group.{Group}
use Rattle.btr_group.specs.declared.group.Seat.{Seat}
use Rattle.btr_group.specs.Seats.{IsGroupSeat, IsSameGroupSeat, HasWholeShare, SplitsSeat, MeetsSeat}
use Rattle.btr_group.specs.Seats.{first_session, seen_by, own_items, items_at_start}
use Rattle.btr_group.specs.Offers.{view_by}

module _ {D : Type 0} {disk : Ghosts D} where
  -- The groups are of this hall. They are those of the streams from `first` on, in order, and each leads a batch at this number of points.
  abbrev pub AreGroupsOf : Hall D disk → ℕ → ℕ → List (Group D disk) → Type 0
  AreGroupsOf hall threshold first [] = Unit {0}
  AreGroupsOf hall threshold first (g ∷ gs) =
      IsSessionOf hall (first_session g) × (g.stream ≡ first) × (g.threshold ≡ threshold) × AreGroupsOf hall threshold (suc first) gs

  -- There is one seat of each group, in order.
  abbrev pub AreSeatsOf : List (Group D disk) → List (Seat D disk) → Type 0
  AreSeatsOf [] [] = Unit {0}
  AreSeatsOf [] (s ∷ seats) = ⊥
  AreSeatsOf (g ∷ gs) [] = ⊥
  AreSeatsOf (g ∷ gs) (s ∷ seats) = IsGroupSeat g s × AreSeatsOf gs seats

  -- What the seat at a place has seen and done. After the last seat there is nothing.
  abbrev pub view_at_place : List (Seat D disk) → ℕ → GroupView
  view_at_place [] place = no_items
  view_at_place (s ∷ seats) zero = view_by s
  view_at_place (s ∷ seats) (suc place) = view_at_place seats place

  -- The share of each seat, and the number of items when its group began, are as before.
  abbrev pub AreSameSeats : List (Seat D disk) → List (Seat D disk) → Type 0
  AreSameSeats [] [] = Unit {0}
  AreSameSeats [] (new ∷ news) = ⊥
  AreSameSeats (old ∷ olds) [] = ⊥
  AreSameSeats (old ∷ olds) (new ∷ news) = IsSameGroupSeat old new × AreSameSeats olds news

  -- ---- the beginning

  -- The seat is the first one of its group, before its first call.
  pub record IsFirstSeat (s : Seat D disk) : Type 0 where
    pub seen : seen_by s ≡ []
    pub own : own_items s ≡ []
    pub start : items_at_start s ≡ 0
    pub whole : HasWholeShare s

  -- A session of the hall was split, and a group began with the other part.
  pub record SplitsFor (hall : Hall D disk) (old : Session D disk) (g : Group D disk) (new : Session D disk) : Type 0 where
    pub splits : Splits old new (first_session g)
    pub session : IsSessionOf hall new
    pub other : IsSessionOf hall (first_session g)

  -- One session is split for each group, in order: what is left of the first session after all groups is the second one.
  abbrev pub SplitsForEach : Hall D disk → Session D disk → List (Group D disk) → Session D disk → Type 0
  SplitsForEach hall s [] t = s ≡ t
  SplitsForEach hall s (g ∷ gs) t = (u : Session D disk) × SplitsFor hall s g u × SplitsForEach hall u gs t

  -- Groups of the streams from 0 on, as many as `streams`, began with parts of one session, each with its first seat.
  pub record BeginsGroups (hall : Hall D disk) (threshold streams : ℕ) (old new : Session D disk) (groups : List (Group D disk))
      (seats : List (Seat D disk)) : Type 0 where
    pub groups_are : AreGroupsOf hall threshold 0 groups
    pub streams_are : length groups ≡ streams
    pub seats_are : AreSeatsOf groups seats
    pub first_seats : AllByRecursion IsFirstSeat seats
    pub splits : SplitsForEach hall old groups new

  -- A session is as good as before: it has seen the same, has the same items, and meets the same paths. Of its turns nothing is said.
  pub record IsAsBefore (old new : Session D disk) : Type 0 where
    pub seen : seen_of new ≡ seen_of old
    pub mine : mine_of new ≡ mine_of old
    pub start : entries_at_start new ≡ entries_at_start old
    pub paths : (path : ℕ → Bool) → on_path path (share_of new) ≡ on_path path (share_of old)

  -- ---- more seats

  -- Each of the first seats was split, in order: what is left of it, and its other part.
  abbrev pub SplitsSeats : List (Seat D disk) → List (Seat D disk) → List (Seat D disk) → Type 0
  SplitsSeats [] [] [] = Unit {0}
  SplitsSeats (old ∷ olds) (new ∷ news) (other ∷ others) = SplitsSeat old new other × SplitsSeats olds news others
  SplitsSeats olds news others = ⊥

  -- Each of the first seats took in the one of `others` at its place: what it is then.
  abbrev pub MeetsSeats : List (Seat D disk) → List (Seat D disk) → List (Seat D disk) → Type 0
  MeetsSeats [] [] [] = Unit {0}
  MeetsSeats (old ∷ olds) (other ∷ others) (new ∷ news) = MeetsSeat old other new × MeetsSeats olds others news
  MeetsSeats olds others news = ⊥
