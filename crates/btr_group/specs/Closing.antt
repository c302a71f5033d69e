-- What the close of all groups of a hall promises.
use Rattle.std.specs.Prelude.{◌≡◌, List, [], ◌∷◌, map, None}
use Rattle.std.specs.List.{AllByRecursion}
use Rattle.btr_disk.specs.declared.disk.Disk.{Ghosts}
use Rattle.btr_hall.specs.declared.session.Hall.{Hall}
use Rattle.btr_hall.specs.declared.session.Session.{Session}
use Rattle.btr_hall.specs.Session.{IsSessionOf, Meets}
use Rattle.btr_hall.specs.GroupBook.{SettledValue, book, Tiles}
use Rattle.btr_group.specs.declared.group.Group.{Group}
use Rattle.btr_group.specs.declared.group.Seat.{Seat}
use Rattle.btr_group.specs.Seats.{HasEachItemOnce, first_session, seen_by}
use Rattle.btr_group.specs.Serves.{CommitsEach}

module _ {D : Type 0} {disk : Ghosts D} where
  -- Each group is of this hall.
  abbrev pub AreOfHall : Hall D disk → List (Group D disk) → Type 0
  AreOfHall hall groups = AllByRecursion (λ g. IsSessionOf hall (first_session g)) groups

  -- The group was closed with its last seat, and its session came back as t. No batch is out, each ticket is in one settled batch or in
  -- the open one, and the session made the commits of the settled batches, in order. The seat has each item of the list once.
  pub record EndsGroup (g : Group D disk) (s : Seat D disk) (t : Session D disk) : Type 0 where
    pub home : (book (seen_by s)).out ≡ None
    pub tiles : Tiles 0 (map (λ (b : SettledValue). b.batch) (book (seen_by s)).settled) (book (seen_by s)).first
    pub once : HasEachItemOnce s
    pub commits : CommitsEach g.stream (first_session g) (book (seen_by s)).settled t

  -- The groups were closed, from the last one to the first, and the first session took in theirs, one after another: it is then the
  -- last one.
  abbrev pub MeetsEach : Hall D disk → Session D disk → List (Group D disk) → List (Seat D disk) → Session D disk → Type 0
  MeetsEach hall s [] [] t = s ≡ t
  MeetsEach hall s [] (seat ∷ seats) t = ⊥
  MeetsEach hall s (g ∷ groups) [] t = ⊥
  MeetsEach hall s (g ∷ groups) (seat ∷ seats) t =
      (rest other : Session D disk) × MeetsEach hall s groups seats rest × EndsGroup g seat other × IsSessionOf hall other
      × Meets rest other t × IsSessionOf hall t
