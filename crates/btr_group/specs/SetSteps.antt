-- What the private functions of sets of groups promise: one more group, one that is ended, and seats that are split or met so far.
use Rattle.std.specs.Prelude.{◌≡◌, ℕ, List, [], ◌∷◌, ◌++◌}
use Rattle.std.specs.List.{AllByRecursion}
use Rattle.btr_disk.specs.declared.disk.Disk.{Ghosts}
use Rattle.btr_hall.specs.declared.session.Hall.{Hall}
use Rattle.btr_hall.specs.declared.session.Session.{Session}
use Rattle.btr_hall.specs.Session.{seen_of, mine_of, share_of, entries_at_start}
use Rattle.btr_group.specs.declared.group.Group.{Group}
use Rattle.btr_group.specs.declared.group.Seat.{Seat}
use Rattle.btr_group.specs.Seats.{IsGroupSeat, SplitsSeat, MeetsSeat}
use Rattle.btr_group.specs.Sets.{AreSeatsOf, IsFirstSeat, SplitsFor, SplitsForEach, IsAsBefore}

module _ {D : Type 0} {disk : Ghosts D} where
  -- The session was split for a group of this stream, which began with its first seat.
  pub record BeginsNext (hall : Hall D disk) (stream threshold : ℕ) (old new : Session D disk) (g : Group D disk) (s : Seat D disk) : Type 0
    where
      pub splits : SplitsFor hall old g new
      pub stream_is : g.stream ≡ stream
      pub threshold_is : g.threshold ≡ threshold
      pub seat : IsGroupSeat g s
      pub first : IsFirstSeat s

  -- A session that has seen the same as another and has no items of its own.
  pub record IsIdlePart (session other : Session D disk) : Type 0 where
    pub seen : seen_of other ≡ seen_of session
    pub mine : mine_of other ≡ []
    pub start : entries_at_start other ≡ entries_at_start session

  -- A session has the share of the other one and its own. What it has seen and its items are as before.
  pub record TakesBack (old other new : Session D disk) : Type 0 where
    pub seen : seen_of new ≡ seen_of old
    pub mine : mine_of new ≡ mine_of old
    pub start : entries_at_start new ≡ entries_at_start old
    pub share : share_of new ≡ share_of other ++ share_of old

  -- The groups began with parts of the session `before`. What was left of it is as good as the session `now`. The seats are their first
  -- ones.
  pub record MayEnd (hall : Hall D disk) (before now : Session D disk) (groups : List (Group D disk)) (seats : List (Seat D disk)) : Type 0
    where
      pub last : Session D disk
      pub splits : SplitsForEach hall before groups last
      pub seats_are : AreSeatsOf groups seats
      pub first_seats : AllByRecursion IsFirstSeat seats
      pub same : IsAsBefore last now

  -- As many seats were split as there are other parts, in order. The rest are as before.
  abbrev pub SplitsBelow : List (Seat D disk) → List (Seat D disk) → List (Seat D disk) → Type 0
  SplitsBelow olds news [] = olds ≡ news
  SplitsBelow (old ∷ olds) (new ∷ news) (other ∷ others) = SplitsSeat old new other × SplitsBelow olds news others
  SplitsBelow olds news (other ∷ others) = ⊥

  -- As many seats took in another as there are others, in order. The rest are as before.
  abbrev pub MeetsBelow : List (Seat D disk) → List (Seat D disk) → List (Seat D disk) → Type 0
  MeetsBelow olds [] news = olds ≡ news
  MeetsBelow (old ∷ olds) (other ∷ others) (new ∷ news) = MeetsSeat old other new × MeetsBelow olds others news
  MeetsBelow olds (other ∷ others) news = ⊥
